-- What the fields of a client keep true
use Rattle.std.specs.Prelude.{◌≡◌, ◌-◌, ◌<◌, ◌≤◌, ◌++◌, ℕ, true, List, [], length, drop, None}
use Rattle.chunk_reader.specs.Sound.{IsRead}
use Rattle.chunk_wire.specs.declared.message.Message.{Message}
use Rattle.rtmp_handshake.specs.Answer.{bad_version}
use Rattle.session_owed.specs.Talk.{hand_bytes}
use Rattle.client_owed.specs.declared.types.Asked.{Asked}
use Rattle.client_owed.specs.declared.types.Gave.{Gave}
use Rattle.client_owed.specs.declared.types.Phase.{Phase}
use Rattle.client_owed.specs.declared.types.Phase.TheVariants.{Connecting, Creating, Asking, Started}
use Rattle.client_owed.specs.Owed.{AreGiven, out}
use Rattle.client_owed.specs.Pulled.{pulled}
use Rattle.client_owed.specs.Standing.{Keeps, Past, Stands, count_of, is_finished, listed}
use Rattle.rtmp_client.specs.declared.core_fields.Core.{Core}
use Rattle.rtmp_client.specs.declared.end.ClientEnd.{ClientEnd}
use Rattle.rtmp_client.specs.declared.end.ClientEnd.TheVariants as end

-- its past: the bytes fed and the messages that they read as, what it was given, the bytes sent, and the gifts taken
abbrev pub past_of : Core → Past
past_of c = record { y = c.y; ms = c.reader.given; gave = c.gave; sent = c.sent; taken = c.taken }

-- and what it keeps of what it owes and is told
abbrev pub keeps_of : Core → Keeps
keeps_of c = record { pending = c.outgoing.pending; writer = c.outgoing.writer; window = c.inbound; phase = c.phase; finished = c.finished; gift = c.gift }

-- WHAT WAS SENT AND WHAT IS PENDING IS WHAT IT OWES, and what was taken and what waits is what it was told
abbrev pub StandsNow : Core → Type 0
StandsNow c = Stands c.asked c.reader.max (past_of c) (keeps_of c)

-- app and name have 1 to 255 bytes, and the address has at most as many
pub record IsNamed (k : Asked) : Type 0 where
  pub address_most : length k.address ≤ 255
  pub app_some : 0 < length k.app
  pub app_most : length k.app ≤ 255
  pub name_some : 0 < length k.name
  pub name_most : length k.name ≤ 255

-- the chunk size is 4,096 once it was told
abbrev pub IsWide : Phase → ℕ → Type 0
IsWide Connecting size = Unit {0}
IsWide Creating size = size ≡ 4096
IsWide (Asking id) size = size ≡ 4096
IsWide (Started id) size = size ≡ 4096

-- its parts have read the bytes that were fed, and none has failed
pub record IsSound (c : Core) : Type 0 where
  pub named : IsNamed c.asked
  pub first : length c.y < hand_bytes → c.first ≡ c.y
  pub version : bad_version c.y ≡ None
  pub fed : c.reader.fed ≡ drop hand_bytes c.y
  pub counted : c.fed ≡ length c.y
  pub taken : c.inbound.taken ≡ length c.y - hand_bytes
  pub reads : c.reader.failed ≡ None
  pub read : IsRead c.reader.max c.reader.fed c.reader.given
  pub short : c.reader.max ≤ 4194304
  pub wide : IsWide c.phase c.outgoing.writer.size
  pub stands : StandsNow c

-- WHAT WAS SENT, with these bytes more, IS WHAT IT OWES for the bytes fed and what it was given, and what was
-- taken and what waits is what it was told
pub record IsOver (c : Core) (more : List ℕ) : Type 0 where
  pub ms : List (ℕ × Message)
  pub read : IsRead c.reader.max (drop hand_bytes c.y) ms
  pub owes : c.sent ++ more ≡ out c.asked c.y ms c.gave
  pub given : AreGiven c.asked c.reader.max (count_of c.y) ms c.gave
  pub told : c.taken ++ listed c.gift ≡ pulled c.asked ms

-- what was sent begins it
abbrev pub Begun : Core → Type 0
Begun c = (more : List ℕ) × IsOver c more

-- what a client that ended as Done has sent is all that it owes, and it was finished
abbrev pub IsAll : ClientEnd → List Gave → List ℕ → Type 0
IsAll end.Done T more = (is_finished T ≡ true) × (more ≡ [])
IsAll end.PeerClosed T more = Unit {0}
IsAll end.LinkFault T more = Unit {0}
IsAll (end.BadVersion at) T more = Unit {0}
IsAll (end.BadChunk cause at) T more = Unit {0}
IsAll (end.BadControl at) T more = Unit {0}
IsAll (end.BadCommand at) T more = Unit {0}
IsAll (end.Refused code description) T more = Unit {0}
IsAll end.OutOfMemory T more = Unit {0}
