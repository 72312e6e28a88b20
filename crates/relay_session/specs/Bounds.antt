-- What bounds the bytes that a session holds
use Rattle.std.specs.Prelude.{◌≡◌, ℕ, ◌+◌, ◌-◌, ◌*◌, ◌≤◌, false, List, length, Option, Some, None}
use Rattle.ack_window.specs.Inbound.{InWindow, room_of}
use Rattle.chunk_reader.specs.ReaderKnown.{ReaderKnown}
use Rattle.chunk_reader.specs.Reads.{Reads, held_bytes, part_limit}
use Rattle.chunk_wire.specs.State.{State}
use Rattle.rtmp_handshake.specs.Answer.{answered}
use Rattle.rtmp_handshake.specs.Handshake.{Handshake, held_of}
use Rattle.session_owed.specs.Talk.{is_take}
use Rattle.stream_model.specs.declared.calls.Call.{Call}
use Rattle.stream_model.specs.declared.calls.Call.TheVariants as call
use Rattle.stream_model.specs.declared.calls.Entry.{Entry}

-- the bytes of the unit that a call publishes
abbrev pub call_bytes : Call → ℕ
call_bytes (call.Push unit) = length unit.body
call_bytes (call.BeginAs name) = 0
call_bytes (call.JoinAs name) = 0
call_bytes call.Begin = 0
call_bytes call.End = 0
call_bytes call.Join = 0
call_bytes (call.Take player want) = 0
call_bytes (call.Leave player) = 0
call_bytes call.Count = 0

abbrev pub kept_bytes : Option Entry → ℕ
kept_bytes None = 0
kept_bytes (Some e) = call_bytes e.call

-- the bytes of the name that a call asks for
abbrev pub name_bytes : Call → ℕ
name_bytes (call.BeginAs name) = length name
name_bytes (call.JoinAs name) = length name
name_bytes (call.Push unit) = 0
name_bytes call.Begin = 0
name_bytes call.End = 0
name_bytes call.Join = 0
name_bytes (call.Take player want) = 0
name_bytes (call.Leave player) = 0
name_bytes call.Count = 0

abbrev pub kept_name : Option Entry → ℕ
kept_name None = 0
kept_name (Some e) = name_bytes e.call

-- what the handshake keeps, messages in progress and the unit of the call that waits HAVE ROOM TOGETHER: no
-- message is read before the handshake has let go of all, and the message that the unit was had the room that
-- it leaves
pub record HasRoom (h : Handshake) (k : ReaderKnown) (kept : Option Entry) : Type 0 where
  pub short : k.max ≤ 4194304
  pub alone : held_of h + kept_bytes kept ≤ part_limit k.max
  pub together : (s : State) (r : List ℕ) → Reads k.max k.fed k.given s r → held_of h + (held_bytes s r + kept_bytes kept) ≤ part_limit k.max

-- no Take waits
abbrev pub Acts : Option Entry → Type 0
Acts None = Unit {0}
Acts (Some e) = is_take e.call ≡ false

-- sixteen times the bytes that the answers to the call that waits may have: two messages
abbrev pub reply_cost : Option Entry → ℕ
reply_cost None = 0
reply_cost (Some e) = 7036

-- NOT MANY ANSWERS WAIT: with those to the call that waits, at most 12,206 bytes
abbrev pub IsLight : ℕ → Option Entry → Type 0
IsLight others kept = 16 * others + reply_cost kept ≤ 195296

-- how many bytes the next place of an acknowledgement is nearer than 1,000
abbrev pub nearness : InWindow → ℕ
nearness w = 1000 - room_of w

-- how many bytes of the handshake's answer are still to come
abbrev pub to_answer : List ℕ → ℕ
to_answer x = 3073 - length (answered x)

-- what bounds the answers while input is fed, where n bytes of them wait: 16,000 for each, and for each that
-- is still to come of the handshake's; and 356 for each byte of input, since acknowledgements of at most 22
-- bytes come 1,000 bytes apart
abbrev pub weight : ℕ → List ℕ → InWindow → ℕ
weight n x w = 16000 * (n + to_answer x) + 356 * nearness w
