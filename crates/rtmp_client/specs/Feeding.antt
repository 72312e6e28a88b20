-- What feeding input does
use Rattle.std.specs.Prelude.{◌≡◌, ◌≤◌, ℕ, ◌+◌, ◌-◌, Bool, true, false, List, [], ◌∷◌, ◌++◌, length, min, take, drop, Option, None, Some, is_some, not, ◌==◌, ◌&&◌}
use Rattle.chunk_reader.specs.Reads.{Reads}
use Rattle.chunk_reader.specs.Sound.{IsRead}
use Rattle.chunk_reader.specs.Stops.{Stops}
use Rattle.chunk_reader.specs.declared.fail.ReadCause.{ReadCause}
use Rattle.chunk_reader.specs.declared.fail.ReadCause.TheVariants as cause
use Rattle.chunk_wire.specs.State as wire
use Rattle.chunk_wire.specs.declared.message.Message.{Message}
use Rattle.rtmp_handshake.specs.Answer.{bad_version}
use Rattle.session_owed.specs.Talk.{hand_bytes}
use Rattle.client_owed.specs.declared.types.Asked.{Asked}
use Rattle.client_owed.specs.declared.types.Gave.{Gave}
use Rattle.client_owed.specs.declared.types.Gift.{Gift}
use Rattle.client_owed.specs.declared.types.Phase.{Phase}
use Rattle.client_owed.specs.Client.{does}
use Rattle.client_owed.specs.Pulled.{gift_for}
use Rattle.client_owed.specs.Standing.{count_of, listed, pending_now, sent_more}
use Rattle.rtmp_client.specs.Keeping.{keeps_of, past_of}
use Rattle.rtmp_client.specs.Owing.{Apart}
use Rattle.rtmp_client.specs.Refusing.{refused}
use Rattle.rtmp_client.specs.declared.core_fields.Core.{Core}
use Rattle.rtmp_client.specs.declared.end.ClientEnd.{ClientEnd}
use Rattle.rtmp_client.specs.declared.end.ClientEnd.TheVariants as end

-- what feeding doesn't change
pub record Fixed : Type 0 where
  pub asked : Asked
  pub max : ℕ
  pub gave : List Gave
  pub sent : List ℕ
  pub taken : List Gift
  pub finished : Bool

abbrev pub fixed_of : Core → Fixed
fixed_of c = record { asked = c.asked; max = c.reader.max; gave = c.gave; sent = c.sent; taken = c.taken; finished = c.finished }

-- what a message alone changes: the messages read, where the dialogue stands, and the gift that waits
pub record Heard : Type 0 where
  pub given : List (ℕ × Message)
  pub phase : Phase
  pub gift : Option Gift

abbrev pub heard_of : Core → Heard
heard_of c = record { given = c.reader.given; phase = c.phase; gift = c.gift }

-- a message that ends with the last of the bytes fed was heard, which didn't end the client
pub record IsHeard (old new : Core) (m : Message) : Type 0 where
  pub given : new.reader.given ≡ old.reader.given ++ (count_of new.y, m) ∷ []
  pub phase : new.phase ≡ (does old.asked old.phase m).phase
  pub gift : listed new.gift ≡ gift_for old.asked.wish old.phase m
  pub passed : refused (length new.y - 1) m ≡ None

abbrev pub Hears : Core → Core → Bool → Type 0
Hears old new false = heard_of new ≡ heard_of old
Hears old new true = (m : Message) × IsHeard old new m

-- the first bytes of an input were fed, up to those that are left, and what came to be pending is of no tag
pub record IsFed (old : Core) (input : List ℕ) (new : Core) (left : List ℕ) : Type 0 where
  pub fed : List ℕ
  pub split : fed ++ left ≡ input
  pub y : new.y ≡ old.y ++ fed
  pub fixed : fixed_of new ≡ fixed_of old
  pub others : Apart old.outgoing new.outgoing

-- ---- why the client ends at a byte

-- with the last of the bytes y a message ends that ends the client so
pub record IsRefused (max : ℕ) (given : List (ℕ × Message)) (y : List ℕ) (e : ClientEnd) : Type 0 where
  pub m : Message
  pub s : wire.State
  pub r : List ℕ
  pub reads : Reads max (drop hand_bytes y) (given ++ (length (drop hand_bytes y), m) ∷ []) s r
  pub why : refused (length y - 1) m ≡ Some e

-- THE BYTE DECIDES: n bytes of the input y stand before it. Want of memory has no cause
abbrev pub Decides : ℕ → List (ℕ × Message) → List ℕ → ℕ → ClientEnd → Type 0
Decides max given y n (end.BadVersion at) = (at ≡ n) × (n ≡ 0) × (is_some (bad_version y) ≡ true)
Decides max given y n (end.BadChunk cause at) = (at ≡ n) × (hand_bytes ≤ n) × Stops max (drop hand_bytes y) cause (n - hand_bytes)
Decides max given y n (end.BadControl at) = (at ≡ n) × IsRefused max given (take (n + 1) y) (end.BadControl at)
Decides max given y n (end.BadCommand at) = (at ≡ n) × IsRefused max given (take (n + 1) y) (end.BadCommand at)
Decides max given y n (end.Refused code description) = IsRefused max given (take (n + 1) y) (end.Refused code description)
Decides max given y n end.OutOfMemory = Unit {0}
Decides max given y n end.PeerClosed = ⊥
Decides max given y n end.LinkFault = ⊥
Decides max given y n end.Done = ⊥

-- the bytes before it were fed, whose version is taken and which complete no message, nothing else was
-- received or sent, and the dialogue stands where it did
pub record IsStopped (old : Core) (input : List ℕ) (e : ClientEnd) (new : Core) : Type 0 where
  pub fed : List ℕ
  pub left : List ℕ
  pub split : fed ++ left ≡ input
  pub y : new.y ≡ old.y ++ fed
  pub version : bad_version new.y ≡ None
  pub counted : new.fed ≡ length new.y
  pub fixed : fixed_of new ≡ fixed_of old
  pub gift : new.gift ≡ old.gift
  pub phase : new.phase ≡ old.phase
  pub read : IsRead old.reader.max (drop hand_bytes new.y) old.reader.given
  pub cause : Decides old.reader.max old.reader.given (old.y ++ input) (length new.y) e

-- why the reader's refusal ends the client, where so many bytes stand before the byte
abbrev pub read_end : ReadCause → ℕ → ClientEnd
read_end cause.OutOfMemory at = end.OutOfMemory
read_end (cause.NoHead id) at = end.BadChunk (cause.NoHead id) at
read_end cause.TooManyIds at = end.BadChunk cause.TooManyIds at
read_end (cause.TooLong found) at = end.BadChunk (cause.TooLong found) at
read_end cause.TooMuch at = end.BadChunk cause.TooMuch at
read_end (cause.BadChunkSize value) at = end.BadChunk (cause.BadChunkSize value) at
read_end cause.TooFar at = end.BadChunk cause.TooFar at

-- ---- bytes sent

-- the first n of the bytes pending were sent, and nothing else changes
pub record IsSent (old : Core) (n : ℕ) (new : Core) : Type 0 where
  pub past : past_of new ≡ sent_more (past_of old) (take n old.outgoing.pending)
  pub keeps : keeps_of new ≡ pending_now (keeps_of old) (drop n old.outgoing.pending)
  pub others : new.outgoing.others ≡ min old.outgoing.others (length new.outgoing.pending)
  pub fixed : (new.asked ≡ old.asked) × (new.reader ≡ old.reader) × (new.fed ≡ old.fed)

-- the first byte isn't 3
abbrev pub is_bad : ℕ → List ℕ → Bool
is_bad fed [] = false
is_bad fed (b ∷ l) = (fed == 0) && not (b == 3)
