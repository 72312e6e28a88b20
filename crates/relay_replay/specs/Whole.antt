-- THE WHOLE OF A RUN on one thread that opens sessions alone, from the bytes of its script to what each
-- session was sent and each file has.
use Rattle.std.specs.Prelude.{◌≡◌, ◌⊎◌, ◌<◌, ◌≤◌, ◌+◌, ◌^◌, ◌++◌, ℕ, if◌then◌else◌, nat_eq, List, [], length, reverse, slice_get, All, Option, None, Some}
use Rattle.std.specs.List.{concat}
use Rattle.command_dialog.specs.declared.types.Ask.{Ask}
use Rattle.command_dialog.specs.declared.types.Grant.{Grant}
use Rattle.session_owed.specs.Talk.{Own}
use Rattle.stream_model.specs.declared.calls.Entry.{Entry}
use Rattle.stream_registry.specs.Books.{journal_at, sole_rules}
use Rattle.stream_registry.specs.Told.{Histories, Keeps}
use Rattle.turn_gate.specs.Histories.{Begins}
use Rattle.relay_session.specs.Acting.{ActsBy}
use Rattle.relay_session.specs.SeatOwn.{AreAnswered, own}
use Rattle.relay_session.specs.SeatVisits.{calls_at, calls_of}
use Rattle.relay_session.specs.SessionState.{IsWhole}
use Rattle.relay_session.specs.declared.end.End.{End}
use Rattle.relay_script.specs.declared.replay.ReplayLine.{ReplayLine}
use Rattle.relay_script.specs.declared.replay.ReplayLine.TheVariants.{Piece}
use Rattle.relay_replay.specs.Guests.{ConnState}
use Rattle.relay_replay.specs.declared.guest.Guest.{Guest}
use Rattle.relay_replay.specs.declared.guest.Guest.TheVariants as guest
use Rattle.relay_replay.specs.Cast.{CastState, RecState}
use Rattle.relay_replay.specs.Recorded.{IsRecorded}
use Rattle.relay_replay.specs.Scenes.{SceneState, desk_of}
use Rattle.relay_replay.specs.Served.{StandsIf}

-- ---- the lines

-- the bytes that the lines so far gave to each session
abbrev pub given_more : ReplayLine → (ℕ → List ℕ) → ℕ → List ℕ
given_more (Piece n bytes) given = λ q. if nat_eq n q then given q ++ bytes else given q
given_more _ given = given

-- ---- a session

-- of one that lives all that its link gave was fed or is yet to be; of one that has ended what was fed begins it
abbrev pub IsFedBy : Option End → List ℕ → List ℕ → List ℕ → Type 0
IsFedBy None gave x input = gave ≡ x ++ input
IsFedBy (Some e) gave x input = Begins x gave

-- all its calls: of one that has ended, those by which it left stand behind the others
abbrev pub IsMadeBy : Option End → List Own → List Own → Type 0
IsMadeBy None calls all = all ≡ calls
IsMadeBy (Some e) calls all = Begins calls all

-- THE SESSION OF THAT NUMBER, to which the lines gave these bytes. They are those that its link gave and
-- those that wait there. What it was sent begins what it owes for the messages that the bytes fed read as and
-- for its calls, its pushes are the units that these publish, it asked for nothing but what it was granted,
-- and its calls are all that bear its number in the streams' histories
pub record Follows (desk : Ask → Grant) (histories : Histories) (given : List ℕ) (n : ℕ) (c : ConnState) : Type 0 where
  pub who : c.session.parts.who ≡ n
  pub named : (e : Entry) → c.session.parts.kept ≡ Some e → e.who ≡ n
  pub lines : given ≡ c.link.gave ++ concat c.link.pieces
  pub fed : IsFedBy c.ended c.link.gave c.session.parts.x c.session.input
  pub stands : StandsIf c.ended desk c.session
  -- the call that waits, or that waited as it ended
  pub waited : Option Entry
  pub whole : IsWhole desk (record c.session.parts { kept = waited })
  pub took : c.link.sent ≡ c.session.parts.sent
  pub acts : ActsBy c.session.ended c.session.parts c.session.seat
  pub made : IsMadeBy c.ended c.session.parts.calls (calls_of c.session.seat.visits)
  pub own_all : All (λ v. v.1.0.who ≡ n) c.session.seat.visits
  pub calls : (q : ℕ) → own n (reverse (histories q)) ≡ calls_at q c.session.seat.visits

-- ---- a recorder

abbrev pub recorder_name : ℕ → ℕ
recorder_name m = 2 ^ 60 + m

-- THE RECORDER OF THAT NUMBER: its calls are all that bear its name, and its file has the text of the items
-- that its Takes among them were sent, but for what is pending
pub record Records (histories : Histories) (m : ℕ) (r : RecState) : Type 0 where
  pub who : r.recorder.seat.who ≡ recorder_name m
  pub calls : (q : ℕ) → own (recorder_name m) (reverse (histories q)) ≡ (if nat_eq q r.recorder.seat.place then reverse r.recorder.seat.calls else [])
  pub recorded : IsRecorded r

-- ---- all of it

-- it is the name of one of them
abbrev pub IsOurs : CastState → ℕ → Type 0
IsOurs c who = (who < length c.sessions) ⊎ ((m : ℕ) × ((m < length c.recorders) × (who ≡ recorder_name m)))

-- A RUN, of which the lines gave these bytes to each session. Each history was answered by the rules, and
-- what each player was sent in it keeps the viewer's law; all its calls are those of the sessions and recorders
pub record IsRun (desk : Ask → Grant) (given : ℕ → List ℕ) (c : CastState) : Type 0 where
  pub lawful : (q : ℕ) → Keeps ((sole_rules c.port.rules).limits q) (journal_at c.port.books q)
  pub ours : (q : ℕ) → All (λ step. IsOurs c step.0.who) (journal_at c.port.books q)
  pub few : length c.sessions ≤ 64
  pub unopened : (n : ℕ) → length c.sessions ≤ n → given n ≡ []
  pub sessions : (n : ℕ) (s : ConnState) → slice_get c.sessions n ≡ Some (guest.Session s) → Follows desk (journal_at c.port.books) (given n) n s
  pub recorders : (m : ℕ) (r : RecState) → slice_get c.recorders m ≡ Some r → Records (journal_at c.port.books) m r

-- so at each stream and open table EACH PUSH OF A SESSION WAS ANSWERED Pushed and each End Ended, and none of
-- its Takes and Leaves NotPlayer
abbrev pub SessionsAnswered : CastState → Type 0
SessionsAnswered c = (n : ℕ) (s : ConnState) → slice_get c.sessions n ≡ Some (guest.Session s) → (q : ℕ) → AreAnswered (calls_at q s.session.seat.visits)

-- a session, and neither a player over HTTP nor an edge
abbrev pub IsSession : Guest → Type 0
IsSession (guest.Session c) = Unit {0}
IsSession (guest.Player c) = ⊥
IsSession (guest.Edge c) = ⊥

abbrev pub AreSessions : List Guest → Type 0
AreSessions guests = (n : ℕ) (g : Guest) → slice_get guests n ≡ Some g → IsSession g

-- of a run that opened sessions alone
abbrev pub RunOf : (Ask → Grant) → (ℕ → List ℕ) → CastState → Type 0
RunOf desk given c = AreSessions c.sessions → IsRun desk given c

-- before a line has acted nothing was given
abbrev pub RunsIf : (Ask → Grant) → (ℕ → List ℕ) → Option CastState → Type 0
RunsIf desk given None = (n : ℕ) → given n ≡ []
RunsIf desk given (Some c) = RunOf desk given c

-- of a replay between two lines
abbrev pub Runs : (ℕ → List ℕ) → SceneState → Type 0
Runs given s = RunsIf (desk_of s) given s.cast
