-- Of a list of messages those that a dialogue answers to: all but control messages, which have types 1 to 6
use Rattle.std.specs.Prelude.{◌≤◌, ℕ, Bool, true, false, nat_lt, List, [], ◌∷◌, ◌++◌, Option, Some, None}
use Rattle.chunk_wire.specs.declared.message.Message.{Message}
use Rattle.client_owed.specs.declared.types.Asked.{Asked}
use Rattle.client_owed.specs.declared.types.Gave.{Gave}
use Rattle.client_owed.specs.declared.types.Given.{Given}
use Rattle.client_owed.specs.declared.types.Phase.{Phase}
use Rattle.client_owed.specs.declared.types.Given.TheVariants.{Finish, Send}
use Rattle.client_owed.specs.declared.types.Phase.TheVariants.{Connecting, Creating, Asking, Started}
use Rattle.client_owed.specs.Client.{ask, connect, create_stream}
use Rattle.client_owed.specs.Owed.{sent_on}
use Rattle.av_unit.specs.Classes.{unit_from}
use Rattle.av_unit.specs.Media.{Media}
use Rattle.command_dialog.specs.Dialog.{size_by}

abbrev pub is_loud : Message → Bool
is_loud m = nat_lt 6 m.kind

abbrev pub keep : {X : Type 0} → Bool → X → List X → List X
keep true x l = x ∷ l
keep false x l = l

unfoldable pub loud : List Message → List Message
loud [] = []
loud (m ∷ ms) = keep (is_loud m) m (loud ms)

-- the same of messages with their places
unfoldable pub loud_placed : List (ℕ × Message) → List (ℕ × Message)
loud_placed [] = []
loud_placed (m ∷ ms) = keep (is_loud m.1) m (loud_placed ms)

-- and of what is said at places
unfoldable pub louds : List (ℕ × List Message) → List (ℕ × List Message)
louds [] = []
louds (e ∷ es) = (e.0, loud e.1) ∷ louds es

-- all that is said at places
unfoldable pub flat : List (ℕ × List Message) → List Message
flat [] = []
flat (e ∷ es) = e.1 ++ flat es

-- the places rise from one to another
abbrev pub Rise : {X : Type 0} → ℕ → ℕ → List (ℕ × X) → Type 0
Rise lo hi [] = Unit {0}
Rise lo hi (e ∷ es) = (lo ≤ e.0) × (e.0 ≤ hi) × Rise e.0 hi es

-- the commands that a client has sent by the phase
abbrev pub asked_by : Asked → Phase → List Message
asked_by k Connecting = connect k ∷ []
asked_by k Creating = connect k ∷ create_stream ∷ []
asked_by k (Asking id) = connect k ∷ create_stream ∷ ask k id ∷ []
asked_by k (Started id) = connect k ∷ create_stream ∷ ask k id ∷ []

-- the messages of what was given
unfoldable pub sents : ℕ → List Gave → List Message
sents id [] = []
sents id (g ∷ T) = sent_on id g.given ∷ sents id T

-- it holds of each message
abbrev pub Every : (Message → Type 0) → List Message → Type 0
Every Q [] = Unit {0}
Every Q (m ∷ ms) = Q m × Every Q ms

-- and of each that is said
abbrev pub EverySaid : (Message → Type 0) → List (ℕ × List Message) → Type 0
EverySaid Q [] = Unit {0}
EverySaid Q (e ∷ es) = Every Q e.1 × EverySaid Q es

-- the messages without their places
unfoldable pub bare : List (ℕ × Message) → List Message
bare [] = []
bare (m ∷ ms) = m.1 ∷ bare ms

abbrev pub listed : Option Media → List Media
listed None = []
listed (Some u) = u ∷ []

-- the unit that a tag is, where it has a class, by the length size that the tags before it tell
abbrev pub tag_unit : ℕ → Given → Option Media
tag_unit size (Send t) = unit_from t.kind t.time t.body size
tag_unit size Finish = None

-- the length size after a unit: that of the unit, where it is a video configuration
abbrev pub size_after : Option Media → ℕ → ℕ
size_after None size = size
size_after (Some u) size = size_by u.kind u.body size

-- the units of tags, behind tags that tell this length size
unfoldable pub units_from : ℕ → List Gave → List Media
units_from size [] = []
units_from size (g ∷ T) = listed (tag_unit size g.given) ++ units_from (size_after (tag_unit size g.given) size) T

-- THE UNITS of the tags
abbrev pub units : List Gave → List Media
units T = units_from 0 T
