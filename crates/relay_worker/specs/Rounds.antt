-- ONE ROUND OF A WORKER: a link if one comes, a turn of each session, a close of each that has ended, a turn
-- of each recorder
use Rattle.std.specs.Prelude.{◌≡◌, ◌⊎◌, ◌≤◌, ◌+◌, ◌^◌, ◌&&◌, ◌||◌, ℕ, Bool, true, false, zero, suc, nat_lt, is_some}
use Rattle.std.specs.Prelude.{List, length, slice_get, slice_set, Option, Some, None}
use Rattle.slab.specs.Slab.{get, slab_len, Updates}
use Rattle.relay_outside.specs.Doors.{DoorTold, Knocks, returned, with_back}
use Rattle.relay_outside.specs.Told.{LinkTold, LinkCounts}
use Rattle.relay_outside.specs.declared.door.Knock.{Knock}
use Rattle.relay_outside.specs.declared.door.Knock.TheVariants as knock
use Rattle.media_recorder.specs.declared.turn.RecEnd.{RecEnd}
use Rattle.media_recorder.specs.declared.turn.RecEnd.TheVariants as rec
use Rattle.media_recorder.specs.declared.turn.RecTurn.{RecTurn}
use Rattle.media_recorder.specs.declared.turn.RecTurn.TheVariants as turn
use Rattle.relay_session.specs.SessionState.{SessionState}
use Rattle.relay_session.specs.declared.end.End.{End}
use Rattle.relay_session.specs.declared.seat_answers.Leaving.{Leaving}
use Rattle.relay_session.specs.declared.seat_answers.Leaving.TheVariants as leaving
use Rattle.relay_session.specs.declared.turn.Turn.{Turn}
use Rattle.relay_worker.specs.Benches.{WorkerState, is_done}
use Rattle.relay_worker.specs.Sessions.{IsNewSession, is_moved, is_spent, is_worn}
use Rattle.relay_worker.specs.declared.bench.Bench.{Bench}
use Rattle.relay_worker.specs.declared.bench.Seated.{Seated}
use Rattle.relay_worker.specs.declared.bench.Terms.{Terms}
use Rattle.relay_worker.specs.declared.recorder.Recorder.{Recorder}
use Rattle.relay_worker.specs.declared.round.Round.{Round}

-- in a round so far nothing moved, and no link was dropped
abbrev pub begun : {P D Q L : Type 0} → Bench P D Q L → Bench P D Q L
begun b = record b { moved = false; dropped = false }

-- ---- a link

-- a link place is free, and the door has given fewer links than it may
abbrev pub asks_door : {P D Q L : Type 0} → Terms → Bench P D Q L → Bool
asks_door t b = nat_lt (slab_len b.sessions) t.links && nat_lt b.had (2 ^ 40)

-- a link came, and its session
pub record IsAdmitted {P D Q L : Type 0} (t : Terms) (link : L) (b b' : Bench P D Q L) : Type 0 where
  pub key : ℕ
  pub free : get b.sessions key ≡ None
  pub came : SessionState Q
  pub new : IsNewSession t b.had came
  pub there : Updates b.sessions b'.sessions key (Some (record { session = came; link = link; over = false; asked = None; due = true; stream = None; pushes = 0 }))
  pub count : slab_len b'.sessions ≡ slab_len b.sessions + 1
  pub same : b' ≡ record b { door = b'.door; sessions = b'.sessions; had = b.had + 1; moved = true }

abbrev pub Admits : {P D Q L : Type 0} → Terms → Knock L → Bench P D Q L → Bench P D Q L → Type 0
Admits t (knock.Link link) b b' = IsAdmitted t link b b'
Admits t knock.NotYet b b' = b' ≡ record b { door = b'.door }
Admits t knock.Closed b b' = b' ≡ record b { door = b'.door; closed = true }
Admits t knock.Failed b b' = b' ≡ record b { door = b'.door }

module _ {P D Q L : Type 0} (told : L → Option LinkTold) (counts : L → LinkCounts) (doors : D → DoorTold) (t : Terms) where
  -- the door is asked once, where there is room
  abbrev pub AdmitsIf : Bool → Bench P D Q L → Bench P D Q L → Type 0
  AdmitsIf false b b' = b' ≡ b
  AdmitsIf true b b' = (k : Knock L) × (Knocks told counts (doors b.door) (doors b'.door) k × Admits t k b b')

-- ---- steps at the keys from 0 on, one at each

abbrev pub Walks : {B : Type 0} → (ℕ → B → B → Type 0) → ℕ → B → B → Type 0
Walks step zero b b' = b' ≡ b
Walks {B} step (suc key) b b' = (m : B) × (Walks step key b m × step key m b')

-- no session stands from this key on
abbrev pub EndsAt : {P D Q L : Type 0} → ℕ → Bench P D Q L → Type 0
EndsAt last b = (key : ℕ) → last ≤ key → get b.sessions key ≡ None

-- one step at each key where a session stands
pub record WalksAll {P D Q L : Type 0} (step : ℕ → Bench P D Q L → Bench P D Q L → Type 0) (b b' : Bench P D Q L) : Type 0 where
  pub last : ℕ
  pub all : EndsAt last b
  pub walk : Walks step last b b'

-- ---- the session at a key takes a turn, if it is due

-- one takes a turn in the next round whatever its link says after a turn that moved, that left a call that
-- waits, or in which the port was busy once more
abbrev pub leaves_due : {Q : Type 0} → ℕ → ℕ → Turn → SessionState Q → Bool
leaves_due before after answer s = is_moved answer || (is_some s.parts.kept || nat_lt before after)

-- links that never answer that they aren't ready, as those in memory
abbrev pub AlwaysReady : {L : Type 0} → (L → Bool → Type 0) → Type 0
AlwaysReady {L} ready = (l : L) (answer : Bool) → ready l answer → answer ≡ true

module _ {P D Q L : Type 0} (takes : P → Seated P L Q → Turn → P → Seated P L Q → Type 0) (busies : P → ℕ) where
  pub record IsTurned (key : ℕ) (s : Seated P L Q) (b b' : Bench P D Q L) : Type 0 where
    pub now : Seated P L Q
    pub answer : Turn
    pub turn : takes b.port s answer b'.port now
    pub due : now.due ≡ leaves_due (busies b.port) (busies b'.port) answer now.session
    pub there : Updates b.sessions b'.sessions key (Some now)
    pub count : slab_len b'.sessions ≡ slab_len b.sessions
    pub same : b' ≡ record b {
      port = b'.port;
      sessions = b'.sessions;
      moved = b.moved || is_moved answer;
      refused = b.refused || is_spent answer;
      worn = b.worn || is_worn answer;
    }

  module _ (ready : L → Bool → Type 0) where
    -- it takes no turn, and stays as it is: it isn't due, and its link has answered that it isn't ready
    pub record IsPassed (s : Seated P L Q) (b b' : Bench P D Q L) : Type 0 where
      pub undue : s.due ≡ false
      pub unready : ready s.link false
      pub same : b' ≡ b

    -- one that has ended does nothing
    abbrev pub TurnsBy : Option End → ℕ → Seated P L Q → Bench P D Q L → Bench P D Q L → Type 0
    TurnsBy None key s b b' = IsTurned key s b b' ⊎ IsPassed s b b'
    TurnsBy (Some e) key s b b' = b' ≡ b

    abbrev pub TurnsIf : Option (Seated P L Q) → ℕ → Bench P D Q L → Bench P D Q L → Type 0
    TurnsIf None key b b' = b' ≡ b
    TurnsIf (Some s) key b b' = TurnsBy s.session.ended key s b b'

    abbrev pub TurnsAt : ℕ → Bench P D Q L → Bench P D Q L → Type 0
    TurnsAt key b b' = TurnsIf (get b.sessions key) key b b'

-- ---- the session at a key is closed, if it has ended

-- it has left its stream
abbrev pub has_left : Leaving → Bool
has_left leaving.Done = true
has_left leaving.Worn = true
has_left leaving.Busy = false
has_left leaving.OutOfMemory = false

module _ {P D Q L : Type 0} (told : L → Option LinkTold) (counts : L → LinkCounts) (doors : D → DoorTold) where
  -- its link is handed back, or it is dropped for want of memory
  abbrev pub HandsBack : L → Bench P D Q L → Bench P D Q L → Type 0
  HandsBack link b b' =
      ((doors b'.door ≡ with_back (doors b.door) (returned (told link) (counts link)))
      × (b' ≡ record b { port = b'.port; door = b'.door; sessions = b'.sessions; moved = true }))
      ⊎ ((doors b'.door ≡ doors b.door)
      × (b' ≡ record b { port = b'.port; door = b'.door; sessions = b'.sessions; moved = true; refused = true; dropped = true }))

  -- it has left, and its key is free
  pub record IsGone (key : ℕ) (s : Seated P L Q) (b b' : Bench P D Q L) : Type 0 where
    pub gone : Updates b.sessions b'.sessions key None
    pub count : slab_len b'.sessions + 1 ≡ slab_len b.sessions
    pub back : HandsBack s.link b b'

  -- it is still there with its link, and is closed again in the next round
  pub record IsLeft (key : ℕ) (s : Seated P L Q) (now : SessionState Q) (b b' : Bench P D Q L) : Type 0 where
    pub there : Updates b.sessions b'.sessions key (Some (record s { session = now; over = true }))
    pub count : slab_len b'.sessions ≡ slab_len b.sessions
    pub same : b' ≡ record b { port = b'.port; sessions = b'.sessions }

  abbrev pub GoesIf : Bool → ℕ → Seated P L Q → SessionState Q → Bench P D Q L → Bench P D Q L → Type 0
  GoesIf true key s now b b' = IsGone key s b b'
  GoesIf false key s now b b' = IsLeft key s now b b'

  module _ (closes : P → SessionState Q → Leaving → P → SessionState Q → Type 0) where
    pub record IsClosed (key : ℕ) (s : Seated P L Q) (b b' : Bench P D Q L) : Type 0 where
      pub answer : Leaving
      pub now : SessionState Q
      pub close : closes b.port s.session answer b'.port now
      pub goes : GoesIf (has_left answer) key s now b b'

    abbrev pub ClosesBy : Option End → ℕ → Seated P L Q → Bench P D Q L → Bench P D Q L → Type 0
    ClosesBy None key s b b' = b' ≡ b
    ClosesBy (Some e) key s b b' = IsClosed key s b b'

    abbrev pub ClosesIf : Option (Seated P L Q) → ℕ → Bench P D Q L → Bench P D Q L → Type 0
    ClosesIf None key b b' = b' ≡ b
    ClosesIf (Some s) key b b' = ClosesBy s.session.ended key s b b'

    abbrev pub ClosesAt : ℕ → Bench P D Q L → Bench P D Q L → Type 0
    ClosesAt key b b' = ClosesIf (get b.sessions key) key b b'

-- ---- each recorder takes a turn

abbrev pub is_written : RecTurn → Bool
is_written turn.Moved = true
is_written turn.Idle = false
is_written turn.Busy = false
is_written (turn.Ended e) = false

-- an end of a recorder for want of memory
abbrev pub starves : RecEnd → Bool
starves rec.SinkFault = false
starves rec.Full = false
starves rec.Worn = false
starves rec.OutOfMemory = true

abbrev pub is_starved : RecTurn → Bool
is_starved turn.Moved = false
is_starved turn.Idle = false
is_starved turn.Busy = false
is_starved (turn.Ended e) = starves e

module _ {P D K Q L : Type 0} (files : P → Recorder P K Q → RecTurn → P → Recorder P K Q → Type 0) where
  -- a recorder took its turn
  pub record Recorded (r : Recorder P K Q) (b : Bench P D Q L) (r' : Recorder P K Q) (b' : Bench P D Q L) : Type 0 where
    pub answer : RecTurn
    pub turn : files b.port r answer b'.port r'
    pub same : b' ≡ record b { port = b'.port; moved = b.moved || is_written answer; refused = b.refused || is_starved answer }

  pub record IsRecorded (i : ℕ) (r : Recorder P K Q) (x x' : Bench P D Q L × List (Recorder P K Q)) : Type 0 where
    pub now : Recorder P K Q
    pub turn : Recorded r x.0 now x'.0
    pub there : x'.1 ≡ slice_set x.1 i now

  abbrev pub RecordsIf : Option (Recorder P K Q) → ℕ → Bench P D Q L × List (Recorder P K Q) → Bench P D Q L × List (Recorder P K Q) → Type 0
  RecordsIf None i x x' = x' ≡ x
  RecordsIf (Some r) i x x' = IsRecorded i r x x'

  abbrev pub RecordsAt : ℕ → Bench P D Q L × List (Recorder P K Q) → Bench P D Q L × List (Recorder P K Q) → Type 0
  RecordsAt i x x' = RecordsIf (slice_get x.1 i) i x x'

-- ---- all together

abbrev pub answered : {P D Q L : Type 0} → (D → DoorTold) → Bench P D Q L → Round
answered doors b = record { moved = b.moved; live = slab_len b.sessions; closed = is_done (doors b.door); refused = b.dropped }

module _ {P D K Q L : Type 0} (told : L → Option LinkTold) (counts : L → LinkCounts) (doors : D → DoorTold)
    (takes : P → Seated P L Q → Turn → P → Seated P L Q → Type 0) (busies : P → ℕ) (ready : L → Bool → Type 0) (closes : P → SessionState Q → Leaving → P → SessionState Q → Type 0)
    (files : P → Recorder P K Q → RecTurn → P → Recorder P K Q → Type 0) where
  pub record Rounds (w : WorkerState P D K Q L) (answer : Round) (w' : WorkerState P D K Q L) : Type 0 where
    pub admitted : Bench P D Q L
    pub turned : Bench P D Q L
    pub closed : Bench P D Q L
    pub admits : AdmitsIf told counts doors w.terms (asks_door w.terms w.bench) (begun w.bench) admitted
    pub turns : WalksAll (TurnsAt takes busies ready) admitted turned
    pub closings : WalksAll (ClosesAt told counts doors closes) turned closed
    pub records : Walks (RecordsAt files) (length w.recorders) (closed, w.recorders) (w'.bench, w'.recorders)
    pub terms : w'.terms ≡ w.terms
    pub answers : answer ≡ answered doors w'.bench
