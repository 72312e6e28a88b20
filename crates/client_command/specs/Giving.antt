-- A film that is read and given to a client
use Rattle.std.specs.Prelude.{◌≡◌, ◌≤◌, ◌<◌, ◌+◌, ◌++◌, ℕ, Bool, true, false, List, [], ◌∷◌, length, Option, Some, None, is_some, Result, Ok, Err}
use Rattle.std.specs.Io.KnownBytes.{IsAtEnd, prepend_known}
use Rattle.std.specs.Option.{option_to_list}
use Rattle.relay_outside.specs.Counts.{Rose}
use Rattle.flv_tags.specs.declared.tag.Tag.{Tag}
use Rattle.flv_tags.specs.Feeds.{Stands as TagsStand}
use Rattle.flv_tags.specs.Reads.{Reads}
use Rattle.flv_tags.specs.Written.{IsWritable}
use Rattle.file_commands.specs.Outcome.{most_bytes}
use Rattle.segment_command.specs.Films.{IsCutOff, IsStopped, WasRead}
use Rattle.flv_tags.specs.Reads.{IsFile}
use Rattle.client_owed.specs.declared.types.Asked.{Asked}
use Rattle.client_owed.specs.declared.types.Wish.TheVariants.{Push}
use Rattle.rtmp_client.specs.ClientState.{ClientState}
use Rattle.rtmp_client.specs.declared.end.ClientEnd.{ClientEnd}
use Rattle.client_command.specs.Closing.{client_how}
use Rattle.client_command.specs.Ends.{ByFilm, BySource, ByMemory}
use Rattle.client_command.specs.Film.{AreWhole, IsNear, IsRefusedAt, IsWhole, most_ahead, tags_given}
use Rattle.client_command.specs.Pushes.{HasPushed, PushSeen}
use Rattle.client_command.specs.Turned.{IsLive, Runs}
use Rattle.client_command.specs.declared.film.Film.{Film}
use Rattle.client_command.specs.declared.stop.Step.{Step}
use Rattle.client_command.specs.declared.stop.Step.TheVariants.{Moved, Idle, Over}
use Rattle.client_command.specs.declared.stop.Stop.{Stop}
use Rattle.client_command.specs.declared.stop.Stop.TheVariants.{Client, Refused, Source, Sink, Memory}

-- ---- a film

-- nothing of it was refused
pub record IsReading (f : Film) : Type 0 where
  pub lives : f.reader.failed ≡ None
  pub stands : TagsStand f.reader
  pub came_is : f.came ≡ length f.reader.fed + length f.ahead
  pub near : f.came ≤ most_bytes
  pub few : length f.ahead ≤ most_ahead

-- the bytes that came of it
abbrev pub came_of : Film → List ℕ
came_of f = f.reader.fed ++ f.ahead

-- what asking for bytes did, by what is left of the source and its faults
abbrev pub Asks : Result Bool Stop → Film → Film → Option (List ℕ) → Option (List ℕ) → ℕ → ℕ → Type 0
Asks (Ok true) f g left left' n n' = IsReading g × (g.reader ≡ f.reader) × (left ≡ prepend_known g.ahead left') × (n' ≡ n)
Asks (Ok false) f g left left' n n' = (g ≡ f) × IsAtEnd left' × (left' ≡ left) × (n' ≡ n)
Asks (Err Client) f g left left' n n' = ⊥
Asks (Err (Refused at)) f g left left' n n' =
    ((at ≡ most_bytes) × (f.came ≡ most_bytes)) × ((b : List ℕ) × (0 < length b) × (left ≡ prepend_known b left') × (length b ≤ most_ahead)) × (n' ≡ n)
Asks (Err Source) f g left left' n n' = (left' ≡ left) × Rose n n'
Asks (Err Sink) f g left left' n n' = ⊥
Asks (Err Memory) f g left left' n n' = ((b : List ℕ) × (left ≡ prepend_known b left') × (length b ≤ most_ahead)) × (n' ≡ n)

-- bytes were read that complete the tag, or none
pub record IsReadOn (f g : Film) (t : Option Tag) : Type 0 where
  pub reading : IsReading g
  pub came_same : came_of g ≡ came_of f
  pub given : g.reader.given ≡ f.reader.given ++ option_to_list t
  pub at_end : is_some t ≡ true → IsFile g.reader.fed g.reader.given

-- the bytes that came are refused
abbrev pub FeedStops : Stop → Film → Type 0
FeedStops Client f = ⊥
FeedStops (Refused at) f = IsStopped (came_of f) at f.reader.given
FeedStops Source f = ⊥
FeedStops Sink f = ⊥
FeedStops Memory f = Unit {0}

-- they may end here, or not
abbrev pub EndsAs : Result (Option Tag) Stop → Film → Type 0
EndsAs (Ok (Some t)) f = ⊥
EndsAs (Ok None) f = IsFile f.reader.fed f.reader.given
EndsAs (Err Client) f = ⊥
EndsAs (Err (Refused at)) f = IsCutOff f.reader.fed at f.reader.given
EndsAs (Err Source) f = ⊥
EndsAs (Err Sink) f = ⊥
EndsAs (Err Memory) f = Unit {0}

-- ---- the next tag, where so much was left of the source at first

abbrev pub NextStops : Stop → List Tag → List ℕ → Option (List ℕ) → ℕ → ℕ → Type 0
NextStops Client tags read left n n' = ⊥
NextStops (Refused at) tags read left n n' = IsRefusedAt read at tags left × (n' ≡ n) × IsNear read tags
NextStops Source tags read left n n' = ((rest : List ℕ) × Reads read tags rest) × Rose n n'
NextStops Sink tags read left n n' = ⊥
NextStops Memory tags read left n n' = IsNear read tags × (n' ≡ n)

abbrev pub ReadsNext : Result (Option Tag) Stop → Film → Film → Option (List ℕ) → Option (List ℕ) → ℕ → ℕ → Type 0
ReadsNext (Ok (Some t)) f g start left n n' =
    WasRead (came_of g) start left × (g.reader.given ≡ f.reader.given ++ t ∷ []) × (n' ≡ n) × IsFile g.reader.fed g.reader.given
ReadsNext (Ok None) f g start left n n' = ((read : List ℕ) × WasRead read start left × IsWhole read f.reader.given left) × (n' ≡ n)
ReadsNext (Err stop) f g start left n n' = (read : List ℕ) × WasRead read start left × NextStops stop f.reader.given read left n n'

-- there are bytes to read, or the film may end
abbrev pub Fills : Result Bool Stop → Film → Film → Option (List ℕ) → Option (List ℕ) → ℕ → ℕ → Type 0
Fills (Ok true) f g start left n n' = WasRead (came_of g) start left × (n' ≡ n)
Fills (Ok false) f g start left n n' = (q : Result (Option Tag) Stop) → EndsAs q g → ReadsNext q f g start left n n'
Fills (Err stop) f g start left n n' = (read : List ℕ) × WasRead read start left × NextStops stop f.reader.given read left n n'

-- a next tag can be sent, and the film goes on
abbrev pub MayGo : Film → Option Tag → Type 0
MayGo g (Some t) = IsReading g × IsWritable t
MayGo g None = Unit {0}

-- ---- what a client is given of it

-- it may be given more
pub record IsOpen (c : ClientState) : Type 0 where
  pub live : IsLive c
  pub pushes : c.parts.asked.wish ≡ Push
  pub open_is : c.parts.finished ≡ false

-- it was given all tags that were read
pub record Gives (k : Asked) (c : ClientState) (f : Film) (old new : PushSeen) : Type 0 where
  pub runs : Runs k c old.told new.told old.counts new.counts
  pub tags : tags_given c.parts.gave ≡ f.reader.given
  pub whole : AreWhole f.reader.fed f.reader.given
  pub read : WasRead (came_of f) old.left new.left
  pub faults : new.faults ≡ old.faults

-- it was given the whole film
pub record HasGiven (k : Asked) (c : ClientState) (old new : PushSeen) : Type 0 where
  pub runs : Runs k c old.told new.told old.counts new.counts
  pub read : List ℕ
  pub was_read : WasRead read old.left new.left
  pub whole : IsWhole read (tags_given c.parts.gave) new.left
  pub pushes : c.parts.asked.wish ≡ Push
  pub faults : new.faults ≡ old.faults

abbrev pub PushStops : Stop → Asked → ClientState → PushSeen → PushSeen → Type 0
PushStops Client k c old new = (e : ClientEnd) × (c.ended ≡ Some e) × HasPushed k (client_how e) old new
PushStops (Refused at) k c old new = HasPushed k (ByFilm at) old new
PushStops Source k c old new = HasPushed k BySource old new
PushStops Sink k c old new = ⊥
PushStops Memory k c old new = HasPushed k ByMemory old new

abbrev pub PushSteps : Result Step Stop → Asked → ClientState → Film → PushSeen → PushSeen → Type 0
PushSteps (Ok Moved) k c f old new = Gives k c f old new
PushSteps (Ok Idle) k c f old new = Gives k c f old new
PushSteps (Ok Over) k c f old new = HasGiven k c old new
PushSteps (Err stop) k c f old new = PushStops stop k c old new

-- where it goes on, more may be given
abbrev pub StillOpen : Step → ClientState → Film → Type 0
StillOpen Moved c f = IsOpen c × IsReading f
StillOpen Idle c f = IsOpen c × IsReading f
StillOpen Over c f = IsLive c

abbrev pub PushEnds : Result (Unit {0}) Stop → Asked → ClientState → PushSeen → PushSeen → Type 0
PushEnds (Ok x) k c old new = HasGiven k c old new
PushEnds (Err stop) k c old new = PushStops stop k c old new
