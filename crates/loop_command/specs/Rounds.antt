-- Only proofs and private functions use it.
-- A run between two rounds
use Rattle.std.specs.Prelude.{◌≡◌, ◌⊎◌, ◌≤◌, ◌<◌, ◌+◌, ◌++◌, min, ℕ, Bool, true, false, List, [], ◌∷◌, length, Option, Some, None, Result, Ok, Err}
use Rattle.std.specs.Io.KnownBytes.{append_known}
use Rattle.flv_tags.specs.declared.tag.Tag.{Tag}
use Rattle.flv_tags.specs.Written.{IsWritable}
use Rattle.put_text.specs.Written.{WritesPart}
use Rattle.relay_outside.specs.Counts.{Rose}
use Rattle.relay_outside.specs.MemLinks.{MemHears, MemLinkState, MemSays}
use Rattle.client_owed.specs.declared.types.Gave.{Gave}
use Rattle.client_owed.specs.declared.types.Gift.{Gift}
use Rattle.client_owed.specs.declared.types.Gift.TheVariants.{Unpublished}
use Rattle.client_owed.specs.Standing.{is_finished}
use Rattle.rtmp_client.specs.Bounds.{IsInput}
use Rattle.rtmp_client.specs.ClientState.{ClientState, StandsBy, TurnMade, lasting_of}
use Rattle.rtmp_client.specs.Turns as client_turns
use Rattle.rtmp_client.specs.declared.end.ClientEnd.{ClientEnd}
use Rattle.rtmp_client.specs.declared.end.ClientEnd.TheVariants as client_end
use Rattle.rtmp_client.specs.declared.end.ClientTurn.{ClientTurn}
use Rattle.rtmp_client.specs.declared.end.ClientTurn.TheVariants as client_turn
use Rattle.stream_registry.specs.Books.{FitsSole, SeenState, SoleState, journal_at, sole_rules}
use Rattle.stream_registry.specs.Names.{places}
use Rattle.relay_session.specs.Places.{IsAt}
use Rattle.relay_session.specs.SessionState.{IsUnsent, SessionState, StandsFor, ended_by, life_at, lasting_of as session_lasting}
use Rattle.relay_session.specs.Turns.{EndedBy}
use Rattle.relay_session.specs.declared.end.End.{End}
use Rattle.relay_session.specs.declared.end.End.TheVariants as session_end
use Rattle.relay_session.specs.declared.turn.Turn.{Turn}
use Rattle.relay_session.specs.declared.turn.Turn.TheVariants as session_turn
use Rattle.client_command.specs.Turned.{IsLive}
use Rattle.client_command.specs.Film.{IsWhole, tags_given}
use Rattle.client_command.specs.Gifts.{IsOn, pull_text}
use Rattle.client_command.specs.Giving.{IsOpen, IsReading, came_of}
use Rattle.client_command.specs.declared.film.Film.{Film}
use Rattle.client_command.specs.Telling.{has_some}
use Rattle.client_command.specs.declared.stop.Stop.{Stop as CommandStop}
use Rattle.client_command.specs.declared.stop.Stop.TheVariants as command
use Rattle.file_commands.specs.Outcome.{seen}
use Rattle.segment_command.specs.Films.{WasRead}
use Rattle.loop_command.specs.Course.{Asks, ClientTurned, IsCourse, IsFirst, IsWithin, Plays, Publishes, Round, SessionTurned, has_skipped}
use Rattle.loop_command.specs.Course.{TakesGift, is_on, is_settled, rounds_of, sent_in, text_of}
use Rattle.loop_command.specs.Desk.{granted, player, publisher, puller, pusher, rules}
use Rattle.loop_command.specs.Films.{IsRefused, film_length, most_bytes, tag_length}
use Rattle.loop_command.specs.Outcome.{Ends, How, Whole, ByFilm, BySource, BySink, ByMemory, ByRounds}
use Rattle.loop_command.specs.Lines.{AreFew, ArePassed, ClientRuns, ClientSide, Mixes, Serves}
use Rattle.loop_command.specs.declared.film.Reading.{Reading}
use Rattle.loop_command.specs.declared.line.Line.{Line}
use Rattle.loop_command.specs.declared.rounds.Run.{Run}
use Rattle.loop_command.specs.declared.rounds.Stage.{Stage}
use Rattle.loop_command.specs.declared.rounds.Stage.TheVariants.{Giving, Finishing, Done}
use Rattle.loop_command.specs.declared.stop.Stop.{Stop}
use Rattle.loop_command.specs.declared.stop.Stop.TheVariants.{Refused, Source, Sink, Memory, Unfinished}

-- why a run ends, by why a step of a client's command did
abbrev pub stop_within : CommandStop → Stop
stop_within command.Client = Unfinished
stop_within (command.Refused at) = Refused (min at most_bytes)
stop_within command.Source = Source
stop_within command.Sink = Sink
stop_within command.Memory = Memory

-- ---- the film

abbrev pub AreWritable : List Tag → Type 0
AreWritable [] = Unit {0}
AreWritable (t ∷ tags) = IsWritable t × AreWritable tags

-- the tags that were read, and their bytes, of which there are not too many
pub record IsCounted (r : Reading) : Type 0 where
  pub bytes : r.bytes ≡ film_length r.tags.items
  pub short : r.bytes ≤ most_bytes
  pub writable : AreWritable r.tags.items

-- it was read to its end
pub record ReadsWhole (r : Reading) (left left' : Option (List ℕ)) (n n' : ℕ) : Type 0 where
  pub read : List ℕ
  pub was_read : WasRead read left left'
  pub whole : IsWhole read r.tags.items left'
  pub count : r.bytes ≡ length read
  pub short : length read ≤ most_bytes
  pub writable : AreWritable r.tags.items
  pub faults : n' ≡ n

-- or it wasn't
abbrev pub ReadStops : Stop → Option (List ℕ) → Option (List ℕ) → ℕ → ℕ → Type 0
ReadStops (Refused at) left left' n n' = ((read : List ℕ) × WasRead read left left' × IsRefused read at left') × (n' ≡ n)
ReadStops Source left left' n n' = Rose n n'
ReadStops Sink left left' n n' = ⊥
ReadStops Memory left left' n n' = n' ≡ n
ReadStops Unfinished left left' n n' = ⊥

-- the next tag, if there is one
abbrev pub NextBy : Result (Option Tag) Stop → Film → Film → Option (List ℕ) → Option (List ℕ) → ℕ → ℕ → Type 0
NextBy (Ok (Some t)) f g start left n n' =
    (IsReading g × IsWritable t) × WasRead (came_of g) start left × (g.reader.given ≡ f.reader.given ++ t ∷ []) × (n' ≡ n)
NextBy (Ok None) f g start left n n' = ((read : List ℕ) × WasRead read start left × IsWhole read f.reader.given left) × (n' ≡ n)
NextBy (Err stop) f g start left n n' = ReadStops stop start left n n'

abbrev pub NextWithin : Film → Film → Option (List ℕ) → Option (List ℕ) → ℕ → ℕ → Result (Option Tag) Stop → Type 0
NextWithin f g left left' n n' r = (start : Option (List ℕ)) → WasRead (came_of f) start left → NextBy r f g start left' n n'

-- a tag was added, or there are too many bytes with it
abbrev pub AddsTag : Result (Unit {0}) Stop → Tag → Reading → Reading → Type 0
AddsTag (Ok x) t r s = (s.tags.items ≡ r.tags.items ++ t ∷ []) × (s.bytes ≡ r.bytes + tag_length t) × (s.bytes ≤ most_bytes)
AddsTag (Err (Refused at)) t r s = (at ≡ most_bytes) × (most_bytes < r.bytes + tag_length t)
AddsTag (Err Source) t r s = ⊥
AddsTag (Err Sink) t r s = ⊥
AddsTag (Err Memory) t r s = Unit {0}
AddsTag (Err Unfinished) t r s = ⊥

-- ---- the turns of a line

-- an end that is neither want of memory nor that all was sent
abbrev pub is_failure : ClientEnd → Bool
is_failure client_end.PeerClosed = true
is_failure client_end.LinkFault = true
is_failure (client_end.BadVersion at) = true
is_failure (client_end.BadChunk cause at) = true
is_failure (client_end.BadControl at) = true
is_failure (client_end.BadCommand at) = true
is_failure (client_end.Refused code description) = true
is_failure client_end.Done = false
is_failure client_end.OutOfMemory = false

-- a turn of a client by which it has ended so
pub record ClientEnds (l : Line) (e : ClientEnd) : Type 0 where
  pub new : ClientState
  pub link : MemLinkState
  pub turn : TurnMade (client_turns.EndedBy MemHears MemSays) l.client l.near client_turn.Ended new link
  pub ended : new.ended ≡ Some e
  pub stands : StandsBy new.ended new.parts
  pub lasts : lasting_of new.parts ≡ lasting_of l.client.parts
  pub input : IsInput new.ended new.input

-- an end of a session that is no want of memory; that its calls are too many to be counted counts as one
abbrev pub is_session_cause : End → Bool
is_session_cause session_end.PeerClosed = true
is_session_cause session_end.LinkFault = true
is_session_cause (session_end.BadVersion at) = true
is_session_cause (session_end.BadChunk cause at) = true
is_session_cause (session_end.BadControl at) = true
is_session_cause (session_end.BadCommand at) = true
is_session_cause (session_end.TooManyStreams at) = true
is_session_cause session_end.Quit = true
is_session_cause session_end.Worn = false
is_session_cause session_end.OutOfMemory = false

-- a turn of a session by which it has ended so
pub record SessionEnds (p : SoleState) (l : Line) : Type 0 where
  pub cause : End
  pub why : is_session_cause cause ≡ true
  pub new : SessionState SeenState
  pub port : SoleState
  pub link : MemLinkState
  pub turn : EndedBy Asks granted MemHears MemSays l.session.ended l.session.quit (life_at l.session p) l.far (session_turn.Ended cause) (life_at new port) link
  pub ended : new.ended ≡ Some cause
  pub stands : StandsFor granted l.session → StandsFor granted new
  pub lasts : session_lasting new.parts ≡ session_lasting l.session.parts

-- why the run ends with a client that has ended
abbrev pub is_stuck : Option ClientEnd → Bool
is_stuck None = true
is_stuck (Some e) = is_failure e

-- whether a client lives after a turn; else it has sent all
abbrev pub LivesBy : Result Bool Stop → ClientTurn → Option ClientEnd → Type 0
LivesBy (Ok lives) a o = (lives ≡ is_on a) × (is_on a ≡ false → o ≡ Some client_end.Done)
LivesBy (Err Unfinished) a o = (a ≡ client_turn.Ended) × (is_stuck o ≡ true)
LivesBy (Err (Refused at)) a o = ⊥
LivesBy (Err Source) a o = ⊥
LivesBy (Err Sink) a o = ⊥
LivesBy (Err Memory) a o = Unit {0}

abbrev pub TurnsClient : Result Bool Stop → Line → Line → Type 0
TurnsClient (Ok lives) l m = (a : ClientTurn) × (lives ≡ is_on a) × ClientTurned a l m
TurnsClient (Err Unfinished) l m = (e : ClientEnd) × (is_failure e ≡ true) × ClientEnds l e
TurnsClient (Err (Refused at)) l m = ⊥
TurnsClient (Err Source) l m = ⊥
TurnsClient (Err Sink) l m = ⊥
TurnsClient (Err Memory) l m = Unit {0}

-- whether a session lives after a turn
abbrev pub LastsBy : Result (Unit {0}) Stop → Turn → Type 0
LastsBy (Ok x) a = ended_by a ≡ None
LastsBy (Err Unfinished) a = (e : End) × (a ≡ session_turn.Ended e) × (is_session_cause e ≡ true)
LastsBy (Err (Refused at)) a = ⊥
LastsBy (Err Source) a = ⊥
LastsBy (Err Sink) a = ⊥
LastsBy (Err Memory) a = Unit {0}

abbrev pub TurnsSession : Result (Unit {0}) Stop → SoleState → SoleState → Line → Line → Type 0
TurnsSession (Ok x) p q l m = SessionTurned p q l m
TurnsSession (Err Unfinished) p q l m = SessionEnds p l
TurnsSession (Err (Refused at)) p q l m = ⊥
TurnsSession (Err Source) p q l m = ⊥
TurnsSession (Err Sink) p q l m = ⊥
TurnsSession (Err Memory) p q l m = Unit {0}

-- ---- the two clients

-- what the one that plays was told is written; it is over, or not
abbrev pub IsTold : Bool → Bool → List Gift → Option (List ℕ) → Option (List ℕ) → Type 0
IsTold false begun taken old now = IsOn taken × (begun ≡ has_some taken) × (now ≡ append_known old (pull_text taken))
IsTold true begun taken old now = ((before : List Gift) × (taken ≡ before ++ Unpublished ∷ [])) × (now ≡ append_known old (pull_text taken))

-- the one that publishes was given the first tags of the film, or all and that no more will come, or has sent them
abbrev pub PushesOf : Stage → List Tag → List Tag → ClientState → MemLinkState → Type 0
PushesOf Giving file queue c m = ClientRuns pusher c m × (c.parts.finished ≡ false) × (tags_given c.parts.gave ++ queue ≡ file)
PushesOf Finishing file queue c m = ClientRuns pusher c m × (tags_given c.parts.gave ≡ file)
PushesOf Done file queue c m = (T : List Gave) × (gifts : List Gift) × ClientSide pusher m T gifts [] × (tags_given T ≡ file) × (is_finished T ≡ true)

-- ---- both

-- A RUN of this film, whose output was so at first
pub record IsRun (file : List Tag) (run : Run) (old now : Option (List ℕ)) : Type 0 where
  pub pull_passed : ArePassed run.pull
  pub push_passed : ArePassed run.push
  pub plays : Serves player run.port run.pull.session run.pull.far
  pub publishes : Serves publisher run.port run.push.session run.push.far
  pub pulls : ClientRuns puller run.pull.client run.pull.near
  pub gave_none : run.pull.client.parts.gave ≡ []
  pub told : IsTold run.over run.begun run.pull.client.parts.taken old now
  pub few : run.told ≤ length run.pull.client.parts.taken
  pub pushes : PushesOf run.stage file run.tags.items run.push.client run.push.near
  pub mixed : Mixes run.port run.pull.session.seat run.push.session.seat

-- the one that publishes lives, or has ended
abbrev pub CanPush : Stage → List Tag → ClientState → Type 0
CanPush Giving queue c = IsOpen c × AreWritable queue
CanPush Finishing queue c = Unit {0}
CanPush Done queue c = Unit {0}

abbrev pub StandsIn : SoleState → SessionState SeenState → Type 0
StandsIn p s = IsAt (FitsSole p) (places (sole_rules p.rules)) s.parts s.seat

-- what a turn of each part asks
pub record IsSound (run : Run) : Type 0 where
  pub rules_are : sole_rules run.port.rules ≡ rules
  pub pull_few : AreFew run.pull
  pub push_few : AreFew run.push
  pub plays : StandsIn run.port run.pull.session
  pub publishes : StandsIn run.port run.push.session
  pub pulls : IsLive run.pull.client
  pub pushes : CanPush run.stage run.tags.items run.push.client

-- no call of a session waits, and nothing that it owes is to be sent
pub record IsStill (s : SessionState SeenState) : Type 0 where
  pub none : s.parts.kept ≡ None
  pub unsent : StandsFor granted s → IsUnsent s.ended granted s.parts 0

-- a run of which nothing was done
pub record IsNewRun (tags : List Tag) (run : Run) : Type 0 where
  pub sound : IsSound run
  pub is_run : (held : Option (List ℕ)) → IsRun tags run held held
  pub first : IsFirst tags run

-- a run that has come to its end
pub record IsSettled (run : Run) : Type 0 where
  pub over_is : run.over ≡ true
  pub stage_is : run.stage ≡ Done
  pub came : length run.push.session.parts.x ≡ run.push.forth
  pub publishes : IsStill run.push.session
  pub plays : IsStill run.pull.session
  pub pulls : length run.pull.client.parts.outgoing.pending ≡ 0
  pub told : sent_in (journal_at run.port.books 0) ≤ run.told

-- ---- what each step of a round came to, where `Made` says what it did and `Fails` what ended in it. Where
-- memory is refused, or the sink fails, nothing is said
abbrev pub StepBy : Result (Unit {0}) Stop → Type 0 → Type 0 → Type 0
StepBy (Ok x) Made Fails = Made
StepBy (Err Unfinished) Made Fails = Fails
StepBy (Err (Refused at)) Made Fails = Unit {0}
StepBy (Err Source) Made Fails = Unit {0}
StepBy (Err Sink) Made Fails = Unit {0}
StepBy (Err Memory) Made Fails = Unit {0}

-- memory is refused, or the run hasn't come to its end
abbrev pub IsOwn : Stop → Type 0
IsOwn (Refused at) = ⊥
IsOwn Source = ⊥
IsOwn Sink = ⊥
IsOwn Memory = Unit {0}
IsOwn Unfinished = Unit {0}

-- memory is refused, or the sink fails
abbrev pub IsWanting : Stop → Type 0
IsWanting (Refused at) = ⊥
IsWanting Source = ⊥
IsWanting Sink = Unit {0}
IsWanting Memory = Unit {0}
IsWanting Unfinished = ⊥

-- the run goes on, and this was done
pub record Goes (file : List Tag) (run : Run) (old now : Option (List ℕ)) (Made : Type 0) : Type 0 where
  pub is_run : IsRun file run old now
  pub made : Made

abbrev pub PlaysBy : Result (Unit {0}) Stop → List Tag → Run → Run → Option (List ℕ) → Option (List ℕ) → Type 0
PlaysBy r file run new old now = StepBy r (Goes file new old now (Plays run new)) ⊥

abbrev pub PublishesBy : Result (Unit {0}) Stop → List Tag → Run → Run → Option (List ℕ) → Option (List ℕ) → Type 0
PublishesBy r file run new old now = StepBy r (Goes file new old now (Publishes run new)) ⊥

abbrev pub RoundBy : Result (Unit {0}) Stop → List Tag → Run → Run → Option (List ℕ) → Option (List ℕ) → Type 0
RoundBy r file run new old now = StepBy r (Goes file new old now (Round run new)) ⊥

-- so many rounds at most: the run has come to its end within them, or it hasn't
pub record HasSettled (first last : Run) (rounds : ℕ) : Type 0 where
  pub states : List Run
  pub before : Run
  pub course : IsCourse first states before
  pub within : length states < rounds
  pub round : Round before last
  pub settled : is_settled last ≡ true

-- why a run that has come to its end can't be finished: memory is refused, or the player missed items
abbrev pub FinishFails : Stop → Run → Type 0
FinishFails stop r = (stop ≡ Memory) ⊎ ((stop ≡ Unfinished) × (has_skipped r ≡ true))

-- so many rounds of a run are made, none of which is its last, and so many are left
pub record RunsOn (file : List Tag) (first run : Run) (rounds left : ℕ) (old now : Option (List ℕ)) : Type 0 where
  pub is_run : IsRun file run old now
  pub states : List Run
  pub course : IsCourse first states run
  pub count : length states + left ≡ rounds

-- all of them are made, and it hasn't. What the client that plays was told is written
pub record IsUnsettled (first last : Run) (rounds : ℕ) (old now : Option (List ℕ)) : Type 0 where
  pub states : List Run
  pub course : IsCourse first states last
  pub count : length states ≡ rounds
  pub written : now ≡ append_known old (text_of last)

abbrev pub RunsBy : Result (Unit {0}) Stop → List Tag → Run → Run → ℕ → Option (List ℕ) → Option (List ℕ) → Type 0
RunsBy r file run new rounds old now = StepBy r (Goes file new old now (HasSettled run new rounds)) (IsUnsettled run new rounds old now)

-- ---- what is written where memory is refused, or the sink fails

-- a first part of what the client that plays was told, with its gift
pub record WritesGift (r : Run) (old now : Option (List ℕ)) : Type 0 where
  pub told : Run
  pub gift : TakesGift r.over r.pull.client.parts.gift r told
  pub part : WritesPart (text_of told) old now

-- and of what it was told in the midst of a run's next round
pub record WritesWithin (r : Run) (old now : Option (List ℕ)) : Type 0 where
  pub last : Run
  pub begun : IsWithin r last
  pub part : WritesPart (text_of last) old now

-- and in that of one of so many rounds
pub record RunsPart (first : Run) (rounds : ℕ) (old now : Option (List ℕ)) : Type 0 where
  pub states : List Run
  pub before : Run
  pub course : IsCourse first states before
  pub within : length states < rounds
  pub last : Run
  pub begun : IsWithin before last
  pub part : WritesPart (text_of last) old now

-- where a run didn't stop for its rounds
abbrev pub PartBy : Stop → Run → ℕ → Option (List ℕ) → Option (List ℕ) → Type 0
PartBy Unfinished first rounds old now = Unit {0}
PartBy (Refused at) first rounds old now = RunsPart first rounds old now
PartBy Source first rounds old now = RunsPart first rounds old now
PartBy Sink first rounds old now = RunsPart first rounds old now
PartBy Memory first rounds old now = RunsPart first rounds old now

-- what a stop says of the sink
abbrev pub SinkCause : Stop → ℕ → ℕ → Type 0
SinkCause Sink before now = Rose before now
SinkCause (Refused at) before now = ⊥
SinkCause Source before now = ⊥
SinkCause Memory before now = now ≡ before
SinkCause Unfinished before now = now ≡ before

-- how the command ends by what a run came to
abbrev pub how_of : Result (Unit {0}) Stop → How
how_of (Ok x) = Whole
how_of (Err (Refused at)) = ByFilm at
how_of (Err Source) = BySource
how_of (Err Sink) = BySink
how_of (Err Memory) = ByMemory
how_of (Err Unfinished) = ByRounds

-- how the command ends by what a run of a film came to, where the sink held this at first and this as the run began
abbrev pub EndsWith : Result (Unit {0}) Stop → Run → ℕ → Option (List ℕ) → Option (List ℕ) → Option (List ℕ) → ℕ → ℕ → Type 0
EndsWith v first rounds held before now f f' =
    (r : Reading) (left left' : Option (List ℕ)) (n n' : ℕ) → ReadsWhole r left left' n n' → rounds ≡ rounds_of r.bytes → IsFirst r.tags.items first
    → IsRun r.tags.items first held before
    → Ends (how_of v) (seen left held n f) (seen left' now n' f')

-- the same of a film that was read
abbrev pub EndsFilm : Result (Unit {0}) Stop → Reading → Option (List ℕ) → Option (List ℕ) → ℕ → ℕ → Type 0
EndsFilm v r held now f f' =
    (left left' : Option (List ℕ)) (n n' : ℕ) → ReadsWhole r left left' n n' → Ends (how_of v) (seen left held n f) (seen left' now n' f')
