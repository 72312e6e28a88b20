-- What runs in a replay, and a turn of each of its parts.
use Rattle.std.specs.Prelude.{◌≡◌, ◌<◌, ℕ, zero, suc, Bool, true, false, List, ◌++◌, length, slice_get, slice_set, Option, None, Some}
use Rattle.av_unit.specs.declared.item.Item.{Item}
use Rattle.command_dialog.specs.declared.types.Ask.{Ask}
use Rattle.command_dialog.specs.declared.types.Grant.{Grant}
use Rattle.relay_outside.specs.MemLinks.{MemHears, MemSays}
use Rattle.stream_model.specs.declared.calls.Entry.{Entry}
use Rattle.stream_registry.specs.Books.{SoleState, SeenState, FitsSole, journal_at, sole_rules}
use Rattle.stream_registry.specs.Told.{Histories}
use Rattle.relay_session.specs.Acting.{Acting, ActsBy}
use Rattle.relay_session.specs.Alone.{GrowsFrom}
use Rattle.relay_session.specs.SeatState.{GoOn, IsElsewhere, LeaveFails, LeavesFrom, StandsAt, known, left_at, place_of}
use Rattle.relay_session.specs.SessionState.{BeginsOwed, IsWhole, SessionState, StandsFor, end_or_quit, ended_by, lasting_of, life_at}
use Rattle.relay_session.specs.Turns.{EndedBy}
use Rattle.relay_session.specs.declared.end.End.{End}
use Rattle.relay_session.specs.declared.end.End.TheVariants as end
use Rattle.relay_session.specs.declared.seat_answers.Leaving.{Leaving}
use Rattle.relay_session.specs.declared.turn.Turn.{Turn}
use Rattle.relay_session.specs.declared.turn.Turn.TheVariants.{Moved, Idle, Ended}
use Rattle.flv_tags.specs.Text.{flv_text}
use Rattle.media_recorder.specs.Alone.{OneAtMost}
use Rattle.media_recorder.specs.Ports.{FitsIf, Serves}
use Rattle.media_recorder.specs.Seats.{SeatState as RecSeat}
use Rattle.media_recorder.specs.Taken.{taken}
use Rattle.media_recorder.specs.Transport.{recorded_text}
use Rattle.media_recorder.specs.Turns.{RecorderState, Turns}
use Rattle.media_recorder.specs.declared.turn.RecEnd.{RecEnd}
use Rattle.media_recorder.specs.declared.turn.RecEnd.TheVariants as rec_end
use Rattle.media_recorder.specs.declared.turn.RecTurn.{RecTurn}
use Rattle.media_recorder.specs.declared.turn.RecTurn.TheVariants as rec
use Rattle.relay_script.specs.declared.replay.Form.{Form}
use Rattle.relay_script.specs.declared.replay.Form.TheVariants.{Flv, Ts}
use Rattle.relay_replay.specs.declared.recording.Writer.{Writer}
use Rattle.relay_replay.specs.declared.recording.Writer.TheVariants as writer
use Rattle.relay_replay.specs.Files.{FileState, FileTakes}
use Rattle.relay_replay.specs.Guests.{ConnState, PlayState, PullState}
use Rattle.relay_replay.specs.Streams.{SoleAdds, SoleAsks, no_branches, no_kin}
use Rattle.relay_replay.specs.Turning.{EdgeTurnBy, PlayerTurn}
use Rattle.relay_replay.specs.declared.guest.Guest.{Guest}
use Rattle.relay_replay.specs.declared.guest.Guest.TheVariants as guest
use Rattle.relay_replay.specs.declared.guest.Answered.{Answered}
use Rattle.relay_replay.specs.declared.guest.Answered.TheVariants as answered
use Rattle.http_flv.specs.declared.end.HttpEnd.{HttpEnd}
use Rattle.http_flv.specs.declared.turn.HttpTurn.{HttpTurn}
use Rattle.http_flv.specs.declared.turn.HttpTurn.TheVariants as http_turn
use Rattle.origin_pull.specs.declared.end.EdgeEnd.{EdgeEnd}
use Rattle.origin_pull.specs.declared.turn.EdgeTurn.{EdgeTurn}
use Rattle.origin_pull.specs.declared.turn.EdgeTurn.TheVariants as edge_turn

-- a recorder with its form and its file
pub record RecState : Type 0 where
  pub form : Form
  pub recorder : RecorderState SeenState
  pub file : FileState
  pub ended : Option RecEnd

-- a recorder of either form
abbrev pub form_of : Writer → Form
form_of (writer.Flv r) = Flv
form_of (writer.Ts r) = Ts

abbrev pub recorder_of : Writer → RecorderState SeenState
recorder_of (writer.Flv r) = r
recorder_of (writer.Ts r) = r

-- THE TEXT of items in a form of recordings
abbrev pub text_in : Form → List Item → List ℕ
text_in Flv items = flv_text items
text_in Ts items = recorded_text items

-- what was sent and what is pending are the text, in that form, of the items that its Takes were sent
abbrev pub IsText : Form → RecorderState SeenState → Type 0
IsText f r = r.tape.sent ++ r.tape.pending ≡ text_in f (taken r.seat.calls)

pub record CastState : Type 0 where
  -- the streams
  pub port : SoleState
  -- sessions, players over HTTP and edges
  pub sessions : List Guest
  pub recorders : List RecState

-- ---- a session's turn

-- its calls stand in the histories
abbrev pub StandsIn : SoleState → SessionState SeenState → Type 0
StandsIn port s = StandsAt (λ (p : SoleState). sole_rules p.rules) (λ p. journal_at p.books) (λ (p : SeenState). p.seen) port s.seat

-- what its pass has seen of its place, and all of the others
abbrev pub known_in : SoleState → SessionState SeenState → Histories
known_in port s = known (λ (p : SoleState). journal_at p.books) (λ (p : SeenState). p.seen) port s.seat

-- it didn't end for want of memory
abbrev pub HasMemory : End → Type 0
HasMemory end.OutOfMemory = ⊥
HasMemory _ = Unit {0}

-- It was closed: its last calls were made, and it has left. Where its calls stood in the histories they do so
-- after it, and where they were those of one that asks for nothing but what it was granted they are so after
-- it. These calls came to the history of the place where it was, and no other came to any
pub record IsClosed (port : SoleState) (s : SessionState SeenState) (port' : SoleState) (s' : SessionState SeenState) : Type 0 where
  pub leaving : Leaving
  pub leaves : LeavesFrom (place_of s.seat.spot) s.parts.who s.parts.fed s.parts.kept s.seat.active s.seat.visits
      leaving s'.parts.kept s'.seat.active s'.seat.visits
  -- a call is left out only where the history there has as many as it can have
  pub cause : LeaveFails (FitsSole port') (λ (p : SeenState). length p.seen) (λ (_ : Entry). Unit {0})
      (place_of s.seat.spot) s.parts.who s.parts.fed s.parts.kept 0 0 leaving
  pub left : place_of s'.seat.spot ≡ left_at leaving (place_of s.seat.spot)
  pub away : place_of s'.seat.spot ≡ None
  pub roots : GoOn (journal_at port.books) (journal_at port'.books)
  pub others : (q : ℕ) → IsElsewhere s.seat.spot q → journal_at port'.books q ≡ journal_at port.books q
  pub grows : GrowsFrom SoleAdds (sole_rules port.rules).limits (journal_at port.books) (known_in port s) (place_of s.seat.spot) s.seat.visits s'.seat.visits
      (journal_at port'.books) (known_in port' s')
  pub stands : StandsIn port s → StandsIn port' s'
  pub acts : Acting s.parts s.seat → Acting s'.parts s'.seat
  pub fixed : sole_rules port'.rules ≡ sole_rules port.rules
  pub ended : s'.ended ≡ Some (end_or_quit s.ended)
  pub parts : s'.parts ≡ record s.parts { kept = s'.parts.kept }

-- what a turn's answer leads to: one that ends is closed at once
abbrev pub AfterTurn : Turn → SessionState SeenState → SoleState → SessionState SeenState → Option End → SoleState → Type 0
AfterTurn Moved s port s' ended port' = (s' ≡ s) × (port' ≡ port) × (ended ≡ None)
AfterTurn Idle s port s' ended port' = (s' ≡ s) × (port' ≡ port) × (ended ≡ None)
AfterTurn (Ended e) s port s' ended port' = HasMemory e × (ended ≡ Some e) × IsClosed port s port' s'

-- a turn of a session at these streams: the one of `Session::turn`, with a link in memory. Where the session
-- stood for what it was fed and its calls it does so after it, what it sent begins what it owes, its pushes
-- are the units that its messages publish, and it asks for nothing but what it was granted
pub record Turned (desk : Ask → Grant) (port : SoleState) (c : ConnState) (port' : SoleState) (d : ConnState) : Type 0 where
  pub answer : Turn
  pub between : SoleState
  pub mid : SessionState SeenState
  pub turn : EndedBy SoleAsks desk
      MemHears MemSays c.session.ended c.session.quit (life_at c.session port) c.link answer (life_at mid between) d.link
  pub stands : StandsFor desk c.session → StandsFor desk mid
  pub owed : StandsFor desk mid → BeginsOwed desk mid.parts
  pub whole : StandsFor desk mid → IsWhole desk mid.parts
  pub acts : StandsFor desk c.session → ActsBy c.session.ended c.session.parts c.session.seat → ActsBy mid.ended mid.parts mid.seat
  pub lasts : lasting_of mid.parts ≡ lasting_of c.session.parts
  -- the histories went on
  pub roots : GoOn (journal_at port.books) (journal_at between.books)
  -- it ends as it was answered, and is told to quit by no turn
  pub ended : mid.ended ≡ ended_by answer
  pub quit : mid.quit ≡ c.session.quit
  pub leads : AfterTurn answer mid between d.session d.ended port'

-- one that has ended does nothing
abbrev pub SessionTurn : Option End → (Ask → Grant) → SoleState → ConnState → SoleState → ConnState → Type 0
SessionTurn (Some e) desk port c port' d = (d ≡ c) × (port' ≡ port)
SessionTurn None desk port c port' d = Turned desk port c port' d

-- what a turn was answered, by its kind
abbrev pub told_turn : Turn → Answered
told_turn Moved = answered.Moved
told_turn Idle = answered.Idle
told_turn (Ended e) = answered.Ended

abbrev pub told_http : HttpTurn → Answered
told_http http_turn.Moved = answered.Moved
told_http http_turn.Idle = answered.Idle
told_http (http_turn.Ended e) = answered.Ended

abbrev pub told_edge : EdgeTurn → Answered
told_edge edge_turn.Moved = answered.Moved
told_edge edge_turn.Idle = answered.Idle
told_edge (edge_turn.Ended e) = answered.Ended

-- one that has ended is asked nothing
abbrev pub session_answer : (e : Option End) (desk : Ask → Grant) (port : SoleState) (c : ConnState) (port' : SoleState) (d : ConnState)
    → SessionTurn e desk port c port' d → Answered
session_answer None desk port c port' d t = told_turn t.answer
session_answer (Some e) desk port c port' d t = answered.Nothing

abbrev pub player_answer : (e : Option HttpEnd) (desk : Ask → Grant) (port : SoleState) (c : PlayState) (port' : SoleState) (d : PlayState)
    → PlayerTurn e desk port c port' d → Answered
player_answer None desk port c port' d t = told_http t.answer
player_answer (Some e) desk port c port' d t = answered.Nothing

abbrev pub edge_answer : (e : Option EdgeEnd) (port : SoleState) (c : PullState) (port' : SoleState) (d : PullState) → EdgeTurnBy e port c port' d → Answered
edge_answer None port c port' d t = told_edge t.answer
edge_answer (Some e) port c port' d t = answered.Nothing

-- turns that were answered so
abbrev pub AnsweredBy : Answered → Option End → (Ask → Grant) → SoleState → ConnState → SoleState → ConnState → Type 0
AnsweredBy a e desk port c port' d = (t : SessionTurn e desk port c port' d) × (session_answer e desk port c port' d t ≡ a)

abbrev pub PlayerAnsweredBy : Answered → Option HttpEnd → (Ask → Grant) → SoleState → PlayState → SoleState → PlayState → Type 0
PlayerAnsweredBy a e desk port c port' d = (t : PlayerTurn e desk port c port' d) × (player_answer e desk port c port' d t ≡ a)

abbrev pub EdgeAnsweredBy : Answered → Option EdgeEnd → SoleState → PullState → SoleState → PullState → Type 0
EdgeAnsweredBy a e port c port' d = (t : EdgeTurnBy e port c port' d) × (edge_answer e port c port' d t ≡ a)

-- A TURN of what was opened, by its kind
abbrev pub OfSession : Answered → (Ask → Grant) → SoleState → ConnState → SoleState → Guest → Type 0
OfSession a desk port c port' g = (d : ConnState) × (g ≡ guest.Session d) × AnsweredBy a c.ended desk port c port' d

abbrev pub OfPlayer : Answered → (Ask → Grant) → SoleState → PlayState → SoleState → Guest → Type 0
OfPlayer a desk port c port' g = (d : PlayState) × (g ≡ guest.Player d) × PlayerAnsweredBy a c.ended desk port c port' d

abbrev pub OfEdge : Answered → SoleState → PullState → SoleState → Guest → Type 0
OfEdge a port c port' g = (d : PullState) × (g ≡ guest.Edge d) × EdgeAnsweredBy a c.ended port c port' d

abbrev pub GuestTurn : Answered → (Ask → Grant) → SoleState → Guest → SoleState → Guest → Type 0
GuestTurn a desk port (guest.Session c) port' g = OfSession a desk port c port' g
GuestTurn a desk port (guest.Player c) port' g = OfPlayer a desk port c port' g
GuestTurn a desk port (guest.Edge c) port' g = OfEdge a port c port' g

-- ---- a recorder's turn

-- it didn't end for want of memory
abbrev pub HasRecMemory : RecEnd → Type 0
HasRecMemory rec_end.OutOfMemory = ⊥
HasRecMemory _ = Unit {0}

abbrev pub AfterRecTurn : RecTurn → Option RecEnd → Option RecEnd → Type 0
AfterRecTurn rec.Moved ended ended' = ended' ≡ ended
AfterRecTurn rec.Idle ended ended' = ended' ≡ ended
AfterRecTurn rec.Busy ended ended' = ended' ≡ ended
AfterRecTurn (rec.Ended e) ended ended' = HasRecMemory e × (ended' ≡ Some e)

-- a recorder ends as its turn says
abbrev pub EndsBy : RecTurn → Option RecEnd → Type 0
EndsBy (rec.Ended e) end = end ≡ Some e
EndsBy _ end = end ≡ None

-- the one of `Recorder::turn`, with a file in memory
abbrev pub RecTurnsBy : SoleState → RecorderState SeenState → FileState → RecTurn → SoleState → RecorderState SeenState → FileState → Type 0
RecTurnsBy port r file answer port' r' file' =
    Turns (λ (s : SoleState). sole_rules s.rules) (λ s. journal_at s.books) (λ _. 0) (λ (p : SeenState). p.seen) (λ p. p.mine) (λ p. length p.seen) FileTakes
    r.end port port' file file' r answer r'

-- the port after calls at that place: no other has a call more, and passes that fitted it still do
abbrev pub ServesAt : ℕ → SoleState → SoleState → Type 0
ServesAt place port port' =
    Serves (λ (s : SoleState). sole_rules s.rules) (λ s. journal_at s.books) (λ _. 0) (λ s q (p : SeenState). FitsSole s q p) place port port'

-- a call of a recorder at these streams at most, and no other
abbrev pub OneAsk : SoleState → SoleState → RecSeat SeenState → RecSeat SeenState → Type 0
OneAsk = OneAtMost (λ (s : SoleState). sole_rules s.rules) SoleAdds (λ s. journal_at s.books) (λ (p : SeenState). p.seen) no_kin no_branches

-- a recorder's turn. A call of its own at most comes to the history of its place, and no other to any. A file
-- that had what was sent has it, and what is written is the text
pub record RecorderTurn (port : SoleState) (c : RecState) (port' : SoleState) (d : RecState) : Type 0 where
  pub answer : RecTurn
  pub form : d.form ≡ c.form
  pub turn : RecTurnsBy port c.recorder c.file answer port' d.recorder d.file
  pub served : ServesAt c.recorder.seat.place port port'
  pub alone : OneAsk port port' c.recorder.seat d.recorder.seat
  pub fits : FitsIf (FitsSole port' d.recorder.seat.place) d.recorder.seat.pass
  pub label : (d.recorder.seat.who ≡ c.recorder.seat.who) × (d.recorder.seat.place ≡ c.recorder.seat.place)
  pub took : c.file.bytes ≡ c.recorder.tape.sent → d.file.bytes ≡ d.recorder.tape.sent
  pub text : IsText d.form d.recorder
  pub longest : d.recorder.tape.longest ≡ c.recorder.tape.longest
  pub leads : AfterRecTurn answer c.ended d.ended

-- ---- turns in the cast

-- a turn that was answered so
pub record AnsweredTurn (desk : Ask → Grant) (n : ℕ) (answer : Answered) (c d : CastState) : Type 0 where
  pub old : Guest
  pub new : Guest
  pub there : slice_get c.sessions n ≡ Some old
  pub turn : GuestTurn answer desk c.port old d.port new
  pub fixed : sole_rules d.port.rules ≡ sole_rules c.port.rules
  pub sessions : d.sessions ≡ slice_set c.sessions n new
  pub recorders : d.recorders ≡ c.recorders

abbrev pub TurnOf : (Ask → Grant) → ℕ → CastState → CastState → Type 0
TurnOf desk n c d = (a : Answered) × AnsweredTurn desk n a c d

pub record RecTurnOf (n : ℕ) (c d : CastState) : Type 0 where
  pub old : RecState
  pub new : RecState
  pub there : slice_get c.recorders n ≡ Some old
  pub turn : RecorderTurn c.port old d.port new
  pub fixed : sole_rules d.port.rules ≡ sole_rules c.port.rules
  pub recorders : d.recorders ≡ slice_set c.recorders n new
  pub sessions : d.sessions ≡ c.sessions

-- so many steps, one after another
abbrev pub Times : {A : Type 0} → ℕ → (A → A → Type 0) → A → A → Type 0
Times zero step c d = d ≡ c
Times {A} (suc k) step c d = (m : A) × (Times k step c m × step m d)

-- the steps of the first so many, in order
abbrev pub Each : {A : Type 0} → ℕ → (ℕ → A → A → Type 0) → A → A → Type 0
Each zero step c d = d ≡ c
Each {A} (suc k) step c d = (m : A) × (Each k step c m × step k m d)

-- a round: a turn of each session, then of each recorder
pub record Round (desk : Ask → Grant) (c d : CastState) : Type 0 where
  pub between : CastState
  pub sessions : Each (length c.sessions) (TurnOf desk) c between
  pub recorders : Each (length between.recorders) RecTurnOf between d

-- ---- turns of a session until it is idle

abbrev pub is_moved : Answered → Bool
is_moved answered.Nothing = false
is_moved answered.Moved = true
is_moved answered.Idle = false
is_moved answered.Ended = false

-- TURNS UNTIL IT IS IDLE, or has ended, so many at most: all but the last moved something
pub record Settles (most : ℕ) (desk : Ask → Grant) (n : ℕ) (c d : CastState) : Type 0 where
  pub moved : ℕ
  pub few : moved < most
  pub between : CastState
  pub moves : Times moved (AnsweredTurn desk n answered.Moved) c between
  pub answer : Answered
  pub last : AnsweredTurn desk n answer between d
  pub still : is_moved answer ≡ false

-- the same, or so many turns that all moved something
abbrev pub SettledBy : Bool → ℕ → (Ask → Grant) → ℕ → CastState → CastState → Type 0
SettledBy true most desk n c d = Settles most desk n c d
SettledBy false most desk n c d = Times most (AnsweredTurn desk n answered.Moved) c d
