-- What contracts see of a session
use Rattle.std.specs.Prelude.{◌≡◌, ℕ, ◌+◌, Bool, List, ◌++◌, length, drop, Option, Some, None}
use Rattle.chunk_reader.specs.Sound.{IsRead}
use Rattle.chunk_wire.specs.declared.message.Message.{Message}
use Rattle.command_dialog.specs.declared.types.Ask.{Ask}
use Rattle.command_dialog.specs.declared.types.Grant.{Grant}
use Rattle.session_owed.specs.Owed.{count_of, out}
use Rattle.session_owed.specs.Published.{published, pushed_by, pushed_in}
use Rattle.session_owed.specs.Talk.{hand_bytes, talk}
use Rattle.session_owed.specs.Talks.{Rise, Talks}
use Rattle.relay_session.specs.Keeping.{HasEnded, IsOver, IsSteady, StandsBefore}
use Rattle.relay_session.specs.Owing.{pending}
use Rattle.relay_session.specs.SeatState.{SeatState}
use Rattle.relay_session.specs.Session.{session}
use Rattle.relay_session.specs.Turns.{Gone, Life, gone_of, life}
use Rattle.relay_session.specs.declared.core_fields.Core.{Core}
use Rattle.relay_session.specs.declared.end.End.{End}
use Rattle.relay_session.specs.declared.end.End.TheVariants.{Quit}
use Rattle.relay_session.specs.declared.turn.Turn.{Turn}
use Rattle.relay_session.specs.declared.turn.Turn.TheVariants.{Moved, Idle, Ended}

pub record SessionState (Q : Type 0) : Type 0 where
  -- what it was fed, what it owes, its calls, and what it has sent
  pub parts : Core
  -- the bytes received and not fed
  pub input : List ℕ
  -- where it stands at the streams
  pub seat : SeatState Q
  -- it was told to end
  pub quit : Bool
  -- why it has ended, if it has
  pub ended : Option End

-- at a port
abbrev pub life_at : {P Q : Type 0} → SessionState Q → P → Life P (SeatState Q)
life_at s port = life s.parts s.input port s.seat

-- one that lives is sound, and what it holds has its bounds, also where it has ended
abbrev pub IsLiving : Option End → Core → Type 0
IsLiving None c = IsSteady c
IsLiving (Some e) c = HasEnded c

-- WHAT WAS SENT AND WHAT IS PENDING IS WHAT IT OWES before this desk; of one that has ended, what was sent begins that
abbrev pub StandsBy : Option End → (Ask → Grant) → Core → Type 0
StandsBy None desk c = StandsBefore desk c
StandsBy (Some e) desk c = IsOver desk e c

abbrev pub StandsFor : {Q : Type 0} → (Ask → Grant) → SessionState Q → Type 0
StandsFor desk s = StandsBy s.ended desk s.parts

-- WHAT WAS SENT, with these bytes more, IS WHAT IS OWED before this desk: for the bytes fed, the messages
-- that they read as, and its calls with their replies
pub record Owes (desk : Ask → Grant) (c : Core) (more : List ℕ) : Type 0 where
  pub ms : List (ℕ × Message)
  pub read : IsRead c.reader.max (drop hand_bytes c.x) ms
  pub owes : c.sent ++ more ≡ out (session c.who c.window desk) c.x ms c.calls

-- what was sent begins it
abbrev pub BeginsOwed : (Ask → Grant) → Core → Type 0
BeginsOwed desk c = (more : List ℕ) × Owes desk c more

-- how many bytes are pending: none of a session that has ended, which owes nothing more
abbrev pub pending_by : Option End → Core → ℕ
pending_by None c = length (pending c.outgoing)
pending_by (Some e) c = 0

-- of one that lives, so many bytes more are owed
abbrev pub IsUnsent : Option End → (Ask → Grant) → Core → ℕ → Type 0
IsUnsent None desk c n = (more : List ℕ) × (Owes desk c more × (n ≡ length more))
IsUnsent (Some e) desk c n = BeginsOwed desk c

-- THE UNITS PUBLISHED by the messages of the bytes fed, as the dialogue makes calls of them, are those of its
-- calls, and that of the call that waits: none is lost, and none published twice
pub record Publishes (desk : Ask → Grant) (c : Core) : Type 0 where
  pub ms : List (ℕ × Message)
  pub read : IsRead c.reader.max (drop hand_bytes c.x) ms
  pub units : pushed_by c.calls ++ pushed_in c.kept ≡ published (session c.who c.window desk) ms c.calls

-- ALL OF THAT TOGETHER, for the messages that the bytes fed read as: what was sent begins what is owed for
-- them and its calls, its calls but the Takes, with the one that waits, are those that they ask for, and so
-- its pushes are the units that they publish
pub record IsWhole (desk : Ask → Grant) (c : Core) : Type 0 where
  pub ms : List (ℕ × Message)
  pub read : IsRead c.reader.max (drop hand_bytes c.x) ms
  pub more : List ℕ
  pub owes : c.sent ++ more ≡ out (session c.who c.window desk) c.x ms c.calls
  pub talks : Talks (session c.who c.window desk) (count_of (session c.who c.window desk) c.x) ms c.calls c.kept
  pub units : pushed_by c.calls ++ pushed_in c.kept ≡ published (session c.who c.window desk) ms c.calls

-- ITS CALLS STAND IN THE ORDER OF THEIR PLACES, which are among the bytes fed, and each of its Takes was made
-- while a play was granted, by the dialogue over the messages of the bytes fed
pub record Rises (desk : Ask → Grant) (c : Core) : Type 0 where
  pub ms : List (ℕ × Message)
  pub read : IsRead c.reader.max (drop hand_bytes c.x) ms
  pub rise : Rise (session c.who c.window desk) (talk (session c.who c.window desk) c.calls ms).states hand_bytes
      (hand_bytes + count_of (session c.who c.window desk) c.x) c.calls

abbrev pub ended_by : Turn → Option End
ended_by Moved = None
ended_by Idle = None
ended_by (Ended e) = Some e

-- why a session that is closed has ended: that by which it ended, or that it was told to
abbrev pub end_or_quit : Option End → End
end_or_quit None = Quit
end_or_quit (Some e) = e

-- what a session keeps as it was made
pub record Lasting : Type 0 where
  pub who : ℕ
  pub window : ℕ
  pub max : ℕ

abbrev pub lasting_of : Core → Lasting
lasting_of c = record { who = c.who; window = c.window; max = c.reader.max }

-- all but the call that waits
abbrev pub gone_but_kept : Core → Gone
gone_but_kept c = gone_of (record c { kept = None })
