-- A stream that is played, between two turns and at its end
use Rattle.std.specs.Prelude.{◌≡◌, ◌++◌, ℕ, Bool, true, false, if◌then◌else◌, List, [], ◌∷◌, Some, Result, Ok, Err}
use Rattle.std.specs.Io.KnownBytes.{append_known}
use Rattle.flv_tags.specs.Written.{IsWritable, header, tag_bytes}
use Rattle.client_owed.specs.declared.types.Asked.{Asked}
use Rattle.client_owed.specs.declared.types.Gift.{Gift}
use Rattle.client_owed.specs.declared.types.Gift.TheVariants as gift
use Rattle.rtmp_client.specs.ClientState.{ClientState}
use Rattle.rtmp_client.specs.declared.end.ClientEnd.{ClientEnd}
use Rattle.client_command.specs.Closing.{client_how}
use Rattle.client_command.specs.Ends.{Whole, BySink, ByMemory}
use Rattle.client_command.specs.Gifts.{IsOn, pull_text}
use Rattle.client_command.specs.Pulls.{HasPulled, PullSeen}
use Rattle.client_command.specs.Turned.{Runs}
use Rattle.client_command.specs.declared.stop.Step.{Step}
use Rattle.client_command.specs.declared.stop.Step.TheVariants.{Moved, Idle, Over}
use Rattle.client_command.specs.declared.stop.Stop.{Stop}
use Rattle.client_command.specs.declared.stop.Stop.TheVariants.{Client, Refused, Source, Sink, Memory}

-- a gift whose tag can be written
abbrev pub IsFine : Gift → Type 0
IsFine (gift.Tag t) = IsWritable t
IsFine gift.Published = Unit {0}
IsFine gift.Unpublished = Unit {0}

abbrev pub AreFine : List Gift → Type 0
AreFine [] = Unit {0}
AreFine (g ∷ gifts) = IsFine g × AreFine gifts

abbrev pub is_last : Gift → Bool
is_last gift.Unpublished = true
is_last gift.Published = false
is_last (gift.Tag t) = false

abbrev pub has_some : List Gift → Bool
has_some [] = false
has_some (g ∷ gifts) = true

-- the header, where nothing is begun
abbrev pub gift_head : Bool → List ℕ
gift_head begun = if begun then [] else header

abbrev pub gift_bytes : Gift → List ℕ
gift_bytes (gift.Tag t) = tag_bytes t
gift_bytes gift.Published = []
gift_bytes gift.Unpublished = []

-- what a gift adds to the text
abbrev pub gift_text : Bool → Gift → List ℕ
gift_text begun g = gift_head begun ++ gift_bytes g

-- all that was taken is written
pub record Plays (k : Asked) (c : ClientState) (begun : Bool) (old new : PullSeen) : Type 0 where
  pub runs : Runs k c old.told new.told old.counts new.counts
  pub gave : c.parts.gave ≡ []
  pub on : IsOn c.parts.taken
  pub begun_is : begun ≡ has_some c.parts.taken
  pub held : new.held ≡ append_known old.held (pull_text c.parts.taken)
  pub faults : new.faults ≡ old.faults

-- it has ended by the client, the sink, or for want of memory
abbrev pub PullStops : Stop → Asked → ClientState → PullSeen → PullSeen → Type 0
PullStops Client k c old new = (e : ClientEnd) × (c.ended ≡ Some e) × HasPulled k (client_how e) old new
PullStops (Refused at) k c old new = ⊥
PullStops Source k c old new = ⊥
PullStops Sink k c old new = HasPulled k BySink old new
PullStops Memory k c old new = HasPulled k ByMemory old new

abbrev pub step_by : Bool → Bool → Step
step_by true moved = Over
step_by false true = Moved
step_by false false = Idle

abbrev pub PullSteps : Result Step Stop → Asked → ClientState → Bool → PullSeen → PullSeen → Type 0
PullSteps (Ok Moved) k c begun old new = Plays k c begun old new
PullSteps (Ok Idle) k c begun old new = Plays k c begun old new
PullSteps (Ok Over) k c begun old new = HasPulled k Whole old new
PullSteps (Err stop) k c begun old new = PullStops stop k c old new

abbrev pub PullEnds : Result (Unit {0}) Stop → Asked → ClientState → PullSeen → PullSeen → Type 0
PullEnds (Ok x) k c old new = HasPulled k Whole old new
PullEnds (Err stop) k c old new = PullStops stop k c old new
