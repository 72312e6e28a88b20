-- What the fields of a session keep true
use Rattle.std.specs.Prelude.{◌≡◌, ◌≢◌, ◌-◌, ◌^◌, ◌<◌, ◌≤◌, ◌++◌, ℕ, List, length, min, take, drop, Option, Some, None}
use Rattle.chunk_reader.specs.Sound.{IsRead}
use Rattle.chunk_wire.specs.declared.message.Message.{Message}
use Rattle.command_dialog.specs.declared.types.Ask.{Ask}
use Rattle.command_dialog.specs.declared.types.Grant.{Grant}
use Rattle.command_dialog.specs.State.{State}
use Rattle.command_dialog.specs.declared.types.Phase.TheVariants.{Idle}
use Rattle.stream_model.specs.declared.calls.Entry.{Entry}
use Rattle.rtmp_handshake.specs.Answer.{bad_version}
use Rattle.session_owed.specs.Owed.{count_of, out}
use Rattle.session_owed.specs.Standing.{Past, Keeps, Stands}
use Rattle.session_owed.specs.Talk.{hand_bytes, talk}
use Rattle.session_owed.specs.Talks.{Talks}
use Rattle.relay_session.specs.Bounds.{Acts, HasRoom, IsLight}
use Rattle.relay_session.specs.Holding.{HandFits}
use Rattle.relay_session.specs.Owing.{pending}
use Rattle.relay_session.specs.Session.{session}
use Rattle.relay_session.specs.declared.core_fields.Core.{Core}
use Rattle.relay_session.specs.declared.end.End.{End}
use Rattle.relay_session.specs.declared.end.End.TheVariants as end

-- its past: the bytes fed and the messages that they read as, its calls with their replies, the call that waits, and
-- the bytes sent
abbrev pub past_of : Core → Past
past_of c = record { x = c.x; ms = c.reader.given; calls = c.calls; kept = c.kept; sent = c.sent }

-- and what it keeps of what it owes
abbrev pub keeps_of : Core → Keeps State
keeps_of c = record { pending = pending c.outgoing; writer = c.outgoing.writer; window = c.inbound; state = c.dialog }

-- what was sent and what is pending is WHAT IT OWES before this desk, and the rest is what goes on from there
abbrev pub StandsBefore : (Ask → Grant) → Core → Type 0
StandsBefore desk c = Stands (session c.who c.window desk) (past_of c) (keeps_of c)

-- no call waits, and no role is active
pub record IsIdle (call : Option Entry) (s : State) : Type 0 where
  pub kept : call ≡ None
  pub phase : s.phase ≡ Idle

-- how many of n bytes that are sent after these are after the handshake's answer
abbrev pub after_greeting : List ℕ → ℕ → ℕ
after_greeting sent n = n - min n (hand_bytes - length sent)

-- its parts have read the bytes that were fed, none has failed, the bytes sent are counted, before it has a
-- place no call waits and no role is active, and a call that waits has room
pub record IsSound (c : Core) : Type 0 where
  pub hand : c.hand ≡ record { fed = take hand_bytes c.x; failed = None }
  pub version : bad_version c.x ≡ None
  pub early : length c.x < hand_bytes → c.place ≡ None
  pub placed : c.place ≡ None → IsIdle c.kept c.dialog
  pub fed : c.reader.fed ≡ drop hand_bytes c.x
  pub counted : c.fed ≡ length c.x
  pub taken : c.inbound.taken ≡ length c.x - hand_bytes
  pub reads : c.reader.failed ≡ None
  pub read : IsRead c.reader.max c.reader.fed c.reader.given
  pub short : c.reader.max ≤ 4194304
  pub greeting : c.greeting ≡ hand_bytes - length c.sent
  pub sent : c.outbound.sent ≡ min (length c.sent - hand_bytes) (2 ^ 64 - 1)
  pub others : c.outgoing.others ≤ length (pending c.outgoing)
  pub acts : Acts c.kept
  pub room : HasRoom c.hand c.reader c.kept

-- with this call waiting
abbrev pub waiting : Core → Entry → Core
waiting c e = record c { kept = Some e }

-- of a session that has ended so: what it sent begins what it owes before this desk for the bytes fed and its
-- calls, and these are the calls that the messages of those bytes ask for; unless memory was wanting, its
-- dialogue stands where they left it
pub record IsOver (desk : Ask → Grant) (e : End) (c : Core) : Type 0 where
  pub ms : List (ℕ × Message)
  pub read : IsRead c.reader.max (drop hand_bytes c.x) ms
  pub more : List ℕ
  pub owes : c.sent ++ more ≡ out (session c.who c.window desk) c.x ms c.calls
  pub talks : Talks (session c.who c.window desk) (count_of (session c.who c.window desk) c.x) ms c.calls c.kept
  pub state : e ≢ end.OutOfMemory → c.dialog ≡ (talk (session c.who c.window desk) c.calls ms).state

-- between the steps of a turn: it is sound, not many answers wait, and the unit in hand is no longer than a
-- message that it takes
pub record IsSteady (c : Core) : Type 0 where
  pub sound : IsSound c
  pub light : IsLight c.outgoing.others c.kept
  pub fits : HandFits c

-- of one that has ended: its bytes are counted, and what it holds still has its bounds
pub record HasEnded (c : Core) : Type 0 where
  pub counted : c.fed ≡ length c.x
  pub room : HasRoom c.hand c.reader c.kept
  pub light : IsLight c.outgoing.others c.kept
  pub fits : HandFits c
