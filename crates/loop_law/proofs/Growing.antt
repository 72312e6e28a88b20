-- A turn of a session adds three calls at most
use Rattle.std.proofs.Common.{inl, inr, ◌≡◌, ◌≤◌, ◌+◌, ℕ, Bool, true, false, not, ◌||◌, [], length, Option, Some, None, ap}
use Rattle.std.proofs.Common.{arith, length-append}
use Rattle.std.proofs.lemmas.Bool.{cases_eq}
use Rattle.command_dialog.specs.declared.types.Ask.{Ask}
use Rattle.command_dialog.specs.declared.types.Grant.{Grant}
use Rattle.command_dialog.specs.declared.types.Playing.{Playing}
use Rattle.relay_outside.specs.Heard.{Came, CameBytes, CameEnd, CameNotYet, CameFailed}
use Rattle.relay_outside.specs.MemLinks.{MemHears, MemLinkState, MemSays}
use Rattle.relay_outside.specs.declared.link.Said.{Said}
use Rattle.relay_outside.specs.declared.link.Said.TheVariants as said
use Rattle.stream_model.specs.declared.calls.Entry.{Entry}
use Rattle.stream_registry.specs.Books.{SeenState, SoleState, journal_at}
use Rattle.relay_session.specs.Alone.{made_step}
use Rattle.relay_session.specs.SeatState.{SeatState}
use Rattle.relay_session.specs.Turns.{AfterCall, AfterKept, CalledBy, CameAs, EmptyBy, EndedBy, FedAs, FedBy, Input, InputBy, IsEnded, KeptBy}
use Rattle.relay_session.specs.Turns.{Loudly, Quietly}
use Rattle.relay_session.specs.Turns.{QuitBy, SendBy, Sent, SentAs, Stopping, Taken, TakenBy, is_hungry, is_nil, life, takes}
use Rattle.relay_session.specs.declared.end.End.{End}
use Rattle.relay_session.specs.declared.seat_answers.Made.{Made}
use Rattle.relay_session.specs.declared.seat_answers.Made.TheVariants as made
use Rattle.relay_session.specs.declared.turn.Turn.{Turn}
use Rattle.turn_law.specs.Twins.{SoleAsks, SoleLife}

-- at each place so many calls came at most
abbrev pub Adds : ℕ → SoleState → SoleState → Type 0
Adds n x y = (q : ℕ) → length (journal_at y.books q) ≤ length (journal_at x.books q) + n

one_at_most : (e : Entry) (r : Made) → length (made_step e r) ≤ 1
one_at_most e (made.Answer r) = omega arith
one_at_most e (made.Busy f) = omega arith
one_at_most e (made.Worn f) = omega arith
one_at_most e (made.OutOfMemory f) = omega arith

ask_adds : (x : SoleState) (a : SeatState SeenState) (place : ℕ) (e : Entry) (r : Made) (y : SoleState) (b : SeatState SeenState) → SoleAsks x a place e r y b
    → Adds 1 x y
ask_adds x a place e r y b k = λ q. elim (cases_eq q place) [
  | inl i ↦ omega (
    arith,
    ap (λ (n : ℕ). length (journal_at y.books n)) i,
    ap (λ (n : ℕ). length (journal_at x.books n)) i,
    ap length k.grows.here,
    length-append (journal_at x.books place) (made_step e r),
    one_at_most e r,
  )
  | inr d ↦ omega (arith, ap length (k.grows.elsewhere q d), length-append (journal_at x.books q) [])
]

pub same_adds : (n : ℕ) (x y : SoleState) → y ≡ x → Adds n x y
same_adds n x y e = λ q. omega (arith, ap (λ (z : SoleState). length (journal_at z.books q)) e)

then_adds : (m n k : ℕ) (x y z : SoleState) → m + n ≤ k → Adds m x y → Adds n y z → Adds k x z
then_adds m n k x y z le a b = λ q. omega (arith, le, a q, b q)

ended_adds : (n : ℕ) (e : End) (v : SoleLife) (a : Turn) (w : SoleLife) → IsEnded e v a w → Adds n v.port w.port
ended_adds n e v a w i = same_adds n v.port w.port i.port

-- ---- step 6

taken_by_adds : (o : Option Playing) (v : SoleLife) (moved : Bool) (a : Turn) (w : SoleLife) → TakenBy SoleAsks o v moved a w → Adds 1 v.port w.port
taken_by_adds None v moved a w t = same_adds 1 v.port w.port (ap (λ (x : SoleLife). x.port) t.1)
taken_by_adds (Some p) v moved a w t = ask_adds v.port v.seat t.place _ t.came w.port w.seat t.asked

taken_adds : (v : SoleLife) (moved : Bool) (a : Turn) (w : SoleLife) → Taken SoleAsks v moved a w → Adds 1 v.port w.port
taken_adds v moved a w (inl t) = taken_by_adds (takes t.0) (life t.0 v.input v.port v.seat) moved a w t.2
taken_adds v moved a w (inr t) = ended_adds 1 _ v a w t

-- ---- a call that waited

after_adds : (v m : SoleLife) (came : Made) (a : Turn) (w : SoleLife) → AfterCall SoleAsks v came m a w → Adds 1 m.port w.port
after_adds v m (made.Answer r) a w (inl t) = taken_adds m true a w t.1
after_adds v m (made.Answer r) a w (inr t) = ended_adds 1 _ m a w t
after_adds v m (made.Busy f) a w t = taken_adds m true a w t
after_adds v m (made.Worn f) a w t = ended_adds 1 _ m a w t
after_adds v m (made.OutOfMemory f) a w t = ended_adds 1 _ m a w t

more_adds : (m n : ℕ) (x y : SoleState) → m ≤ n → Adds m x y → Adds n x y
more_adds m n x y le a = λ q. omega (arith, le, a q)

called_adds : (o : Option Entry) (v : SoleLife) (a : Turn) (w : SoleLife) → CalledBy SoleAsks o v a w → Adds 2 v.port w.port
called_adds None v a w t = more_adds 1 2 v.port w.port (omega arith) (taken_adds v true a w t)
called_adds (Some e) v a w t =
    let k = t.1.1.0 in
    then_adds 1 1 2 v.port t.1.0.port w.port (omega arith) (ask_adds v.port v.seat k.place e t.0 t.1.0.port t.1.0.seat k.asked)
    (after_adds v t.1.0 t.0 a w t.1.1.1)

module _ (desk : Ask → Grant) where
  -- ---- step 5

  fed_as_adds : (by : FedBy) (v : SoleLife) (moved : Bool) (a : Turn) (w : SoleLife) → FedAs SoleAsks desk by v moved a w → Adds 2 v.port w.port
  fed_as_adds Quietly v moved a w t =
      more_adds 1 2 v.port w.port (omega arith) (taken_adds (life t.0 [] v.port v.seat) (moved || not (is_nil v.input)) a w t.1.2)
  fed_as_adds Loudly v moved a w t = called_adds _ (life t.0 t.1.0 v.port v.seat) a w t.1.1.2
  fed_as_adds (Stopping e) v moved a w t = ended_adds 2 e (life t.0 v.input v.port v.seat) a w t.1.1

  came_adds : (came : Came) (v : SoleLife) (moved : Bool) (a : Turn) (w : SoleLife) → CameAs SoleAsks desk came v moved a w → Adds 2 v.port w.port
  came_adds (CameBytes b) v moved a w (inl t) = fed_as_adds t.0 (life v.parts b v.port v.seat) true a w t.1
  came_adds (CameBytes b) v moved a w (inr t) = ended_adds 2 _ v a w t
  came_adds CameNotYet v moved a w t = more_adds 1 2 v.port w.port (omega arith) (taken_adds v moved a w t)
  came_adds CameEnd v moved a w t = ended_adds 2 _ v a w t
  came_adds CameFailed v moved a w t = ended_adds 2 _ v a w t

  empty_adds : (b : Bool) (v : SoleLife) (l : MemLinkState) (moved : Bool) (a : Turn) (w : SoleLife) (m : MemLinkState)
      → EmptyBy SoleAsks desk MemHears b v l moved a w m → Adds 2 v.port w.port
  empty_adds true v l moved a w m t = came_adds t.0 v moved a w t.1.1
  empty_adds false v l moved a w m t = fed_as_adds t.0.0 v moved a w t.0.1

  input_by_adds : (b : Bool) (v : SoleLife) (l : MemLinkState) (moved : Bool) (a : Turn) (w : SoleLife) (m : MemLinkState)
      → InputBy SoleAsks desk MemHears b v l moved a w m → Adds 2 v.port w.port
  input_by_adds true v l moved a w m t = empty_adds (is_nil v.input) v l moved a w m t
  input_by_adds false v l moved a w m t = more_adds 1 2 v.port w.port (omega arith) (taken_adds v moved a w t.0)

  input_adds : (v : SoleLife) (l : MemLinkState) (moved : Bool) (a : Turn) (w : SoleLife) (m : MemLinkState) → Input SoleAsks desk MemHears v l moved a w m
      → Adds 2 v.port w.port
  input_adds v l moved a w m t = input_by_adds (is_hungry v.parts) v l moved a w m t

  -- ---- steps 4, 3 and 2

  sent_as_adds : (q : Said) (v : SoleLife) (l : MemLinkState) (moved : Bool) (a : Turn) (w : SoleLife) (m : MemLinkState)
      → SentAs SoleAsks desk MemHears MemSays q v l moved a w m → Adds 2 v.port w.port
  sent_as_adds (said.Took n) v l moved a w m t = input_adds (life t.0 v.input v.port v.seat) l true a w m t.1.1
  sent_as_adds said.NotYet v l moved a w m t = input_adds v l moved a w m t
  sent_as_adds said.Failed v l moved a w m t = ended_adds 2 _ v a w t.0
  sent_as_adds said.OutOfMemory v l moved a w m t = ended_adds 2 _ v a w t.0

  send_adds : (b : Bool) (v : SoleLife) (l : MemLinkState) (moved : Bool) (a : Turn) (w : SoleLife) (m : MemLinkState)
      → SendBy SoleAsks desk MemHears MemSays b v l moved a w m → Adds 2 v.port w.port
  send_adds true v l moved a w m t = input_adds v l moved a w m t
  send_adds false v l moved a w m t = sent_as_adds t.0 v t.1.0 moved a w m t.1.1.1

  sent_adds : (v : SoleLife) (l : MemLinkState) (moved : Bool) (a : Turn) (w : SoleLife) (m : MemLinkState)
      → Sent SoleAsks desk MemHears MemSays v l moved a w m
      → Adds 2 v.port w.port
  sent_adds v l moved a w m (inl t) = send_adds _ (life t.0 v.input v.port v.seat) l moved a w m t.1.1
  sent_adds v l moved a w m (inr t) = ended_adds 2 _ v a w t.0

  quit_adds : (quit : Bool) (v : SoleLife) (l : MemLinkState) (moved : Bool) (a : Turn) (w : SoleLife) (m : MemLinkState)
      → QuitBy SoleAsks desk MemHears MemSays quit v l moved a w m → Adds 2 v.port w.port
  quit_adds true v l moved a w m t = ended_adds 2 _ v a w t.0
  quit_adds false v l moved a w m t = sent_adds v l moved a w m t

  after_kept_adds : (quit : Bool) (v k : SoleLife) (came : Made) (l : MemLinkState) (a : Turn) (w : SoleLife) (m : MemLinkState)
      → AfterKept SoleAsks desk MemHears MemSays quit v came k l a w m → Adds 2 k.port w.port
  after_kept_adds quit v k (made.Answer r) l a w m (inl t) = quit_adds quit k l true a w m t.1
  after_kept_adds quit v k (made.Answer r) l a w m (inr t) = ended_adds 2 _ k a w t.0
  after_kept_adds quit v k (made.Busy f) l a w m t = same_adds 2 k.port w.port (ap (λ (x : SoleLife). x.port) t.1)
  after_kept_adds quit v k (made.Worn f) l a w m t = ended_adds 2 _ k a w t.0
  after_kept_adds quit v k (made.OutOfMemory f) l a w m t = ended_adds 2 _ k a w t.0

  kept_adds : (o : Option Entry) (quit : Bool) (v : SoleLife) (l : MemLinkState) (a : Turn) (w : SoleLife) (m : MemLinkState)
      → KeptBy SoleAsks desk MemHears MemSays o quit v l a w m → Adds 3 v.port w.port
  kept_adds None quit v l a w m t = more_adds 2 3 v.port w.port (omega arith) (quit_adds quit v l false a w m t)
  kept_adds (Some e) quit v l a w m t =
      let k = t.1.1.0 in
      then_adds 1 2 3 v.port t.1.0.port w.port (omega arith) (ask_adds v.port v.seat k.place e t.0 t.1.0.port t.1.0.seat k.asked)
      (after_kept_adds quit v t.1.0 t.0 l a w m t.1.1.1)

  -- A TURN
  pub turn_adds : (quit : Bool) (v : SoleLife) (l : MemLinkState) (a : Turn) (w : SoleLife) (m : MemLinkState)
      → EndedBy SoleAsks desk MemHears MemSays None quit v l a w m → Adds 3 v.port w.port
  turn_adds quit v l a w m t = kept_adds v.parts.kept quit v l a w m t
