-- What contracts see of a client
use Rattle.std.specs.Prelude.{◌≡◌, ◌++◌, ℕ, List, drop, Option, Some, None, Bool, true, false, Result, Ok, Err}
use Rattle.chunk_reader.specs.ReaderKnown.{ReaderKnown}
use Rattle.chunk_reader.specs.Sound.{IsRead}
use Rattle.session_owed.specs.Talk.{hand_bytes}
use Rattle.client_owed.specs.Standing.{listed}
use Rattle.client_owed.specs.declared.types.Asked.{Asked}
use Rattle.client_owed.specs.declared.types.Gave.{Gave}
use Rattle.client_owed.specs.declared.types.Gift.{Gift}
use Rattle.client_owed.specs.declared.types.Phase.{Phase}
use Rattle.client_owed.specs.declared.types.Phase.TheVariants.{Connecting, Creating, Asking, Started}
use Rattle.rtmp_client.specs.Bounds.{IsSmall}
use Rattle.rtmp_client.specs.Keeping.{IsAll, IsOver, IsSound, StandsNow}
use Rattle.rtmp_client.specs.Turns.{Life, end_of, life, turn_of}
use Rattle.rtmp_client.specs.declared.core_fields.Core.{Core}
use Rattle.rtmp_client.specs.declared.end.ClientEnd.{ClientEnd}
use Rattle.rtmp_client.specs.declared.end.ClientTurn.{ClientTurn}

pub record ClientState : Type 0 where
  -- what it was fed, what it owes and is told, and what it has sent
  pub parts : Core
  -- the bytes received and not fed
  pub input : List ℕ
  -- why it has ended, if it has
  pub ended : Option ClientEnd

abbrev pub client_of : Core → List ℕ → Option ClientEnd → ClientState
client_of parts input ended = record { parts = parts; input = input; ended = ended }

abbrev pub life_of : ClientState → Life
life_of s = life s.parts s.input

-- one that lives is sound, and what it holds has its bounds, also where it has ended
pub record IsLiving (c : Core) : Type 0 where
  pub sound : IsSound c
  pub small : IsSmall c

pub record HasEnded (e : ClientEnd) (c : Core) : Type 0 where
  pub more : List ℕ
  pub over : IsOver c more
  pub all : IsAll e c.gave more
  pub small : IsSmall c

abbrev pub IsClient : Option ClientEnd → Core → Type 0
IsClient None c = IsLiving c
IsClient (Some e) c = HasEnded e c

-- A TURN was made: what it came to is its answer, and why the client has ended, if it has
pub record TurnMade {L : Type 0} (Turns : Option ClientEnd → Life → L → Result Bool ClientEnd → Life → L → Type 0) (old : ClientState) (before : L) (answer : ClientTurn) (new : ClientState) (after : L) : Type 0 where
  pub comes : Result Bool ClientEnd
  pub made : Turns old.ended (life_of old) before comes (life_of new) after
  pub answered : answer ≡ turn_of comes
  pub ended : new.ended ≡ end_of comes

-- it has started
abbrev pub has_started : Phase → Bool
has_started Connecting = false
has_started Creating = false
has_started (Asking id) = false
has_started (Started id) = true

-- what a turn leaves, by what it comes to
abbrev pub LivesOn : Core → Result Bool ClientEnd → Type 0
LivesOn c (Ok moved) = IsLiving c
LivesOn c (Err e) = HasEnded e c

-- WHAT WAS SENT AND WHAT IS PENDING IS WHAT IT OWES, for the messages that the bytes fed read as, and what
-- was taken and what waits is what it was told
pub record StandsSo (c : Core) : Type 0 where
  pub read : IsRead c.reader.max (drop hand_bytes c.y) c.reader.given
  pub stands : StandsNow c

-- of one that has ended, what was sent begins that
pub record EndsSo (e : ClientEnd) (c : Core) : Type 0 where
  pub more : List ℕ
  pub over : IsOver c more
  pub all : IsAll e c.gave more

abbrev pub StandsBy : Option ClientEnd → Core → Type 0
StandsBy None c = StandsSo c
StandsBy (Some e) c = EndsSo e c

abbrev pub StandsFor : ClientState → Type 0
StandsFor s = StandsBy s.ended s.parts

-- what giving leaves as it is
pub record Untouched : Type 0 where
  pub asked : Asked
  pub reader : ReaderKnown
  pub input : List ℕ
  pub ended : Option ClientEnd

abbrev pub untouched_of : ClientState → Untouched
untouched_of s = record { asked = s.parts.asked; reader = s.parts.reader; input = s.input; ended = s.ended }

-- the gift that waits was taken
abbrev pub without_gift : Core → Core
without_gift c = record c { gift = None; taken = c.taken ++ listed c.gift }

-- what a turn leaves as it is
pub record Lasting : Type 0 where
  pub asked : Asked
  pub max : ℕ
  pub gave : List Gave
  pub taken : List Gift
  pub finished : Bool

abbrev pub lasting_of : Core → Lasting
lasting_of c = record { asked = c.asked; max = c.reader.max; gave = c.gave; taken = c.taken; finished = c.finished }
