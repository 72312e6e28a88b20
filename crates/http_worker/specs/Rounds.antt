-- ONE ROUND OF A WORKER: a link if one comes, a turn of each player that is due, a close of each that has ended
use Rattle.std.specs.Prelude.{◌≡◌, ◌⊎◌, ◌≤◌, ◌+◌, ◌^◌, ◌&&◌, ◌||◌, ℕ, Bool, true, false, nat_lt, Option, Some, None}
use Rattle.slab.specs.Slab.{get, slab_len, Updates}
use Rattle.relay_outside.specs.Doors.{DoorTold, Knocks, returned, with_back}
use Rattle.relay_outside.specs.Told.{LinkTold, LinkCounts}
use Rattle.relay_outside.specs.declared.door.Knock.{Knock}
use Rattle.relay_outside.specs.declared.door.Knock.TheVariants as knock
use Rattle.relay_session.specs.declared.seat_answers.Leaving.{Leaving}
use Rattle.relay_worker.specs.Benches.{is_done}
use Rattle.relay_worker.specs.Rounds.{Walks, has_left}
use Rattle.relay_worker.specs.declared.round.Round.{Round}
use Rattle.http_flv.specs.PlayerState.{PlayerState}
use Rattle.http_flv.specs.declared.end.HttpEnd.{HttpEnd}
use Rattle.http_flv.specs.declared.stage.Stage.{Stage}
use Rattle.http_flv.specs.declared.stage.Stage.TheVariants as stage
use Rattle.http_flv.specs.declared.turn.HttpTurn.{HttpTurn}
use Rattle.http_worker.specs.Benches.{WorkerState}
use Rattle.http_worker.specs.Players.{IsNewPlayer, is_moved, is_spent, is_worn}
use Rattle.http_worker.specs.declared.bench.Bench.{Bench}
use Rattle.http_worker.specs.declared.bench.Seated.{Seated}
use Rattle.http_worker.specs.declared.bench.Terms.{Terms}

-- in a round so far nothing moved, and no link was dropped
abbrev pub begun : {P D Q L : Type 0} → Bench P D Q L → Bench P D Q L
begun b = record b { moved = false; dropped = false }

-- ---- a link

-- a link place is free, and the door has given fewer links than it may
abbrev pub asks_door : {P D Q L : Type 0} → Terms → Bench P D Q L → Bool
asks_door t b = nat_lt (slab_len b.players) t.links && nat_lt b.had (2 ^ 40)

-- a link came, and its player
pub record IsAdmitted {P D Q L : Type 0} (t : Terms) (link : L) (b b' : Bench P D Q L) : Type 0 where
  pub key : ℕ
  pub free : get b.players key ≡ None
  pub came : PlayerState Q
  pub new : IsNewPlayer t b.had came
  pub there : Updates b.players b'.players key (Some (record { player = came; link = link; over = false; asked = None; due = true; stream = None; pushes = 0 }))
  pub count : slab_len b'.players ≡ slab_len b.players + 1
  pub same : b' ≡ record b { door = b'.door; players = b'.players; had = b.had + 1; moved = true }

abbrev pub Admits : {P D Q L : Type 0} → Terms → Knock L → Bench P D Q L → Bench P D Q L → Type 0
Admits t (knock.Link link) b b' = IsAdmitted t link b b'
Admits t knock.NotYet b b' = b' ≡ record b { door = b'.door }
Admits t knock.Closed b b' = b' ≡ record b { door = b'.door; closed = true }
Admits t knock.Failed b b' = b' ≡ record b { door = b'.door }

module _ {P D Q L : Type 0} (told : L → Option LinkTold) (counts : L → LinkCounts) (doors : D → DoorTold) (t : Terms) where
  -- the door is asked once, where there is room
  abbrev pub AdmitsIf : Bool → Bench P D Q L → Bench P D Q L → Type 0
  AdmitsIf false b b' = b' ≡ b
  AdmitsIf true b b' = (k : Knock L) × (Knocks told counts (doors b.door) (doors b'.door) k × Admits t k b b')

-- ---- steps at the keys from 0 on, one at each

-- one step at each key where a player stands
pub record WalksAll {P D Q L : Type 0} (step : ℕ → Bench P D Q L → Bench P D Q L → Type 0) (b b' : Bench P D Q L) : Type 0 where
  pub last : ℕ
  pub all : (key : ℕ) → last ≤ key → get b.players key ≡ None
  pub walk : Walks step last b b'

-- ---- the player at a key takes a turn, if it is due

-- one that asks to join a stream
abbrev pub is_joining : Stage → Bool
is_joining stage.Reading = false
is_joining (stage.Joining place) = true
is_joining (stage.Telling refusal) = false
is_joining (stage.Playing place player) = false

-- one takes a turn in the next round whatever its link says after a turn that moved, that left it asking to
-- join, or in which the port was busy once more
abbrev pub leaves_due : {Q : Type 0} → ℕ → ℕ → HttpTurn → PlayerState Q → Bool
leaves_due before after answer s = is_moved answer || (is_joining s.parts.stage || nat_lt before after)

module _ {P D Q L : Type 0} (takes : P → Seated P L Q → HttpTurn → P → Seated P L Q → Type 0) (busies : P → ℕ) where
  pub record IsTurned (key : ℕ) (s : Seated P L Q) (b b' : Bench P D Q L) : Type 0 where
    pub now : Seated P L Q
    pub answer : HttpTurn
    pub turn : takes b.port s answer b'.port now
    pub due : now.due ≡ leaves_due (busies b.port) (busies b'.port) answer now.player
    pub there : Updates b.players b'.players key (Some now)
    pub count : slab_len b'.players ≡ slab_len b.players
    pub same : b' ≡ record b {
      port = b'.port;
      players = b'.players;
      moved = b.moved || is_moved answer;
      refused = b.refused || is_spent answer;
      worn = b.worn || is_worn answer;
    }

  module _ (ready : L → Bool → Type 0) where
    -- it takes no turn, and stays as it is: it isn't due, and its link has answered that it isn't ready
    pub record IsPassed (s : Seated P L Q) (b b' : Bench P D Q L) : Type 0 where
      pub undue : s.due ≡ false
      pub unready : ready s.link false
      pub same : b' ≡ b

    -- one that has ended does nothing
    abbrev pub TurnsBy : Option HttpEnd → ℕ → Seated P L Q → Bench P D Q L → Bench P D Q L → Type 0
    TurnsBy None key s b b' = IsTurned key s b b' ⊎ IsPassed s b b'
    TurnsBy (Some e) key s b b' = b' ≡ b

    abbrev pub TurnsIf : Option (Seated P L Q) → ℕ → Bench P D Q L → Bench P D Q L → Type 0
    TurnsIf None key b b' = b' ≡ b
    TurnsIf (Some s) key b b' = TurnsBy s.player.ended key s b b'

    abbrev pub TurnsAt : ℕ → Bench P D Q L → Bench P D Q L → Type 0
    TurnsAt key b b' = TurnsIf (get b.players key) key b b'

-- ---- the player at a key is closed, if it has ended

module _ {P D Q L : Type 0} (told : L → Option LinkTold) (counts : L → LinkCounts) (doors : D → DoorTold) where
  -- its link is handed back, or it is dropped for want of memory
  abbrev pub HandsBack : L → Bench P D Q L → Bench P D Q L → Type 0
  HandsBack link b b' =
      ((doors b'.door ≡ with_back (doors b.door) (returned (told link) (counts link)))
      × (b' ≡ record b { port = b'.port; door = b'.door; players = b'.players; moved = true }))
      ⊎ ((doors b'.door ≡ doors b.door)
      × (b' ≡ record b { port = b'.port; door = b'.door; players = b'.players; moved = true; refused = true; dropped = true }))

  -- it has left, and its key is free
  pub record IsGone (key : ℕ) (s : Seated P L Q) (b b' : Bench P D Q L) : Type 0 where
    pub gone : Updates b.players b'.players key None
    pub count : slab_len b'.players + 1 ≡ slab_len b.players
    pub back : HandsBack s.link b b'

  -- it is still there with its link, and is closed again in the next round
  pub record IsLeft (key : ℕ) (s : Seated P L Q) (now : PlayerState Q) (b b' : Bench P D Q L) : Type 0 where
    pub there : Updates b.players b'.players key (Some (record s { player = now; over = true }))
    pub count : slab_len b'.players ≡ slab_len b.players
    pub same : b' ≡ record b { port = b'.port; players = b'.players }

  abbrev pub GoesIf : Bool → ℕ → Seated P L Q → PlayerState Q → Bench P D Q L → Bench P D Q L → Type 0
  GoesIf true key s now b b' = IsGone key s b b'
  GoesIf false key s now b b' = IsLeft key s now b b'

  module _ (closes : P → PlayerState Q → Leaving → P → PlayerState Q → Type 0) where
    pub record IsClosed (key : ℕ) (s : Seated P L Q) (b b' : Bench P D Q L) : Type 0 where
      pub answer : Leaving
      pub now : PlayerState Q
      pub close : closes b.port s.player answer b'.port now
      pub goes : GoesIf (has_left answer) key s now b b'

    abbrev pub ClosesBy : Option HttpEnd → ℕ → Seated P L Q → Bench P D Q L → Bench P D Q L → Type 0
    ClosesBy None key s b b' = b' ≡ b
    ClosesBy (Some e) key s b b' = IsClosed key s b b'

    abbrev pub ClosesIf : Option (Seated P L Q) → ℕ → Bench P D Q L → Bench P D Q L → Type 0
    ClosesIf None key b b' = b' ≡ b
    ClosesIf (Some s) key b b' = ClosesBy s.player.ended key s b b'

    abbrev pub ClosesAt : ℕ → Bench P D Q L → Bench P D Q L → Type 0
    ClosesAt key b b' = ClosesIf (get b.players key) key b b'

-- ---- all together

abbrev pub answered : {P D Q L : Type 0} → (D → DoorTold) → Bench P D Q L → Round
answered doors b = record { moved = b.moved; live = slab_len b.players; closed = is_done (doors b.door); refused = b.dropped }

module _ {P D Q L : Type 0} (told : L → Option LinkTold) (counts : L → LinkCounts) (doors : D → DoorTold)
    (takes : P → Seated P L Q → HttpTurn → P → Seated P L Q → Type 0) (busies : P → ℕ) (ready : L → Bool → Type 0)
    (closes : P → PlayerState Q → Leaving → P → PlayerState Q → Type 0) where
  pub record Rounds (w : WorkerState P D Q L) (answer : Round) (w' : WorkerState P D Q L) : Type 0 where
    pub admitted : Bench P D Q L
    pub turned : Bench P D Q L
    pub admits : AdmitsIf told counts doors w.terms (asks_door w.terms w.bench) (begun w.bench) admitted
    pub turns : WalksAll (TurnsAt takes busies ready) admitted turned
    pub closings : WalksAll (ClosesAt told counts doors closes) turned w'.bench
    pub terms : w'.terms ≡ w.terms
    pub answers : answer ≡ answered doors w'.bench
