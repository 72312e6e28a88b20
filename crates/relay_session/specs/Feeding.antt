-- What feeding input does
use Rattle.std.specs.Prelude.{◌≡◌, ◌≢◌, ◌≤◌, ℕ, ◌+◌, ◌-◌, Bool, true, false, List, [], ◌∷◌, ◌++◌, length, min, take, drop, Option, None, Some, is_some}
use Rattle.chunk_reader.specs.Reads.{Reads}
use Rattle.chunk_reader.specs.Sound.{IsRead}
use Rattle.chunk_reader.specs.Stops.{Stops}
use Rattle.chunk_reader.specs.declared.fail.ReadCause.{ReadCause}
use Rattle.chunk_reader.specs.declared.fail.ReadCause.TheVariants as cause
use Rattle.chunk_wire.specs.State as wire
use Rattle.chunk_wire.specs.declared.message.Message.{Message}
use Rattle.ack_window.specs.Outbound.{OutWindow, out_sent}
use Rattle.command_dialog.specs.declared.types.Ask.{Ask}
use Rattle.command_dialog.specs.declared.types.Grant.{Grant}
use Rattle.command_dialog.specs.State.{State}
use Rattle.rtmp_handshake.specs.Answer.{bad_version}
use Rattle.stream_model.specs.declared.calls.Entry.{Entry}
use Rattle.stream_model.specs.declared.replies.Reply.{Reply}
use Rattle.session_owed.specs.Standing.{sent_more, with_call}
use Rattle.session_owed.specs.Talk.{Own, hand_bytes}
use Rattle.relay_session.specs.Keeping.{after_greeting, past_of}
use Rattle.relay_session.specs.Owing.{pending}
use Rattle.relay_session.specs.Session.{does, entry_by, outbound_by, place_by, refused}
use Rattle.relay_session.specs.declared.core_fields.Core.{Core}
use Rattle.relay_session.specs.declared.end.End.{End}
use Rattle.relay_session.specs.declared.end.End.TheVariants as end

-- what feeding doesn't change
pub record Fixed : Type 0 where
  pub who : ℕ
  pub window : ℕ
  pub max : ℕ
  pub calls : List Own
  pub sent : List ℕ

abbrev pub fixed_of : Core → Fixed
fixed_of c = record { who = c.who; window = c.window; max = c.reader.max; calls = c.calls; sent = c.sent }

-- what a message alone changes: the messages read, the state of the dialogue, the call that waits, the
-- outbound window, and the place of the session's calls
pub record Heard : Type 0 where
  pub given : List (ℕ × Message)
  pub state : State
  pub kept : Option Entry
  pub outbound : OutWindow
  pub place : Option ℕ

abbrev pub heard_of : Core → Heard
heard_of c = record { given = c.reader.given; state = c.dialog; kept = c.kept; outbound = c.outbound; place = c.place }

-- and so it is after a message that ends with the n-th byte
abbrev pub heard_after : (Ask → Grant) → Core → ℕ → Message → Heard
heard_after desk c n m = record {
  given = c.reader.given ++ (n - hand_bytes, m) ∷ [];
  state = (does desk c.dialog m).state;
  kept = entry_by c.who n (does desk c.dialog m).makes;
  outbound = outbound_by c.outbound m;
  place = place_by desk c.dialog c.place m;
}

-- what came to be owed is of no item
abbrev pub IsOthers : Core → Core → Type 0
IsOthers old new = length (pending old.outgoing) + new.outgoing.others ≡ old.outgoing.others + length (pending new.outgoing)

-- the first bytes of an input were fed, up to those that are left
pub record IsFed (old : Core) (input : List ℕ) (new : Core) (left : List ℕ) : Type 0 where
  pub fed : List ℕ
  pub split : fed ++ left ≡ input
  pub x : new.x ≡ old.x ++ fed
  pub fixed : fixed_of new ≡ fixed_of old
  pub others : IsOthers old new

-- by whether the last of them ended a message: then it was heard, which didn't end the session
abbrev pub Hears : (Ask → Grant) → Core → Core → Bool → Type 0
Hears desk old new false = heard_of new ≡ heard_of old
Hears desk old new true =
    (m : Message) × (heard_of new ≡ heard_after desk old (length new.x) m) × (refused (length new.x - 1) old.dialog m ≡ None)

-- ---- why the session ends at a byte

-- with the last of the bytes y a message ends that ends the session so
pub record IsRefused (max : ℕ) (h : Heard) (y : List ℕ) (e : End) : Type 0 where
  pub m : Message
  pub s : wire.State
  pub r : List ℕ
  pub reads : Reads max (drop hand_bytes y) (h.given ++ (length (drop hand_bytes y), m) ∷ []) s r
  pub why : refused (length y - 1) h.state m ≡ Some e

-- THE BYTE DECIDES: n bytes of the input y stand before it. Want of memory has no cause
abbrev pub Decides : ℕ → Heard → List ℕ → ℕ → End → Type 0
Decides max h y n (end.BadVersion at) = (at ≡ n) × (n ≡ 0) × (is_some (bad_version y) ≡ true)
Decides max h y n (end.BadChunk cause at) = (at ≡ n) × (hand_bytes ≤ n) × Stops max (drop hand_bytes y) cause (n - hand_bytes)
Decides max h y n (end.BadControl at) = (at ≡ n) × IsRefused max h (take (n + 1) y) (end.BadControl at)
Decides max h y n (end.BadCommand at) = (at ≡ n) × IsRefused max h (take (n + 1) y) (end.BadCommand at)
Decides max h y n (end.TooManyStreams at) = (at ≡ n) × IsRefused max h (take (n + 1) y) (end.TooManyStreams at)
Decides max h y n end.OutOfMemory = Unit {0}
Decides max h y n end.PeerClosed = ⊥
Decides max h y n end.LinkFault = ⊥
Decides max h y n end.Quit = ⊥
Decides max h y n end.Worn = ⊥

-- the bytes before it were fed, whose version is taken and which complete no message, and nothing else was
-- received, sent or called; unless memory was wanting the dialogue stands where it did
pub record IsStopped (old : Core) (input : List ℕ) (e : End) (new : Core) : Type 0 where
  pub fed : List ℕ
  pub left : List ℕ
  pub split : fed ++ left ≡ input
  pub x : new.x ≡ old.x ++ fed
  pub version : bad_version new.x ≡ None
  pub counted : new.fed ≡ length new.x
  pub fixed : fixed_of new ≡ fixed_of old
  pub kept : new.kept ≡ old.kept
  pub place : new.place ≡ old.place
  pub read : IsRead old.reader.max (drop hand_bytes new.x) old.reader.given
  pub state : e ≢ end.OutOfMemory → new.dialog ≡ old.dialog
  pub cause : Decides old.reader.max (heard_of old) (old.x ++ input) (length new.x) e

-- why the reader's refusal ends the session, where so many bytes stand before the byte
abbrev pub read_end : ReadCause → ℕ → End
read_end cause.OutOfMemory at = end.OutOfMemory
read_end (cause.NoHead id) at = end.BadChunk (cause.NoHead id) at
read_end cause.TooManyIds at = end.BadChunk cause.TooManyIds at
read_end (cause.TooLong found) at = end.BadChunk (cause.TooLong found) at
read_end cause.TooMuch at = end.BadChunk cause.TooMuch at
read_end (cause.BadChunkSize value) at = end.BadChunk (cause.BadChunkSize value) at
read_end cause.TooFar at = end.BadChunk cause.TooFar at

-- ---- calls, and bytes sent

-- what neither changes
pub record Firm : Type 0 where
  pub who : ℕ
  pub window : ℕ
  pub max : ℕ
  pub place : Option ℕ
  pub fed : ℕ

abbrev pub firm_of : Core → Firm
firm_of c = record { who = c.who; window = c.window; max = c.reader.max; place = c.place; fed = c.fed }

-- a call was answered so: it is noted, and none waits
pub record IsCalled (old : Core) (e : Entry) (r : Reply) (new : Core) : Type 0 where
  pub past : past_of new ≡ with_call (past_of old) e r
  pub firm : firm_of new ≡ firm_of old
  pub outbound : new.outbound ≡ old.outbound

-- the first n of the bytes pending were sent
pub record IsSent (old : Core) (n : ℕ) (new : Core) : Type 0 where
  pub past : past_of new ≡ sent_more (past_of old) (take n (pending old.outgoing))
  pub left : pending new.outgoing ≡ drop n (pending old.outgoing)
  pub others : new.outgoing.others ≡ min old.outgoing.others (length (pending new.outgoing))
  pub outbound : new.outbound ≡ out_sent old.outbound (after_greeting old.sent n)
  pub state : new.dialog ≡ old.dialog
  pub firm : firm_of new ≡ firm_of old
