-- Only proofs and private functions use it; but that Busy means that another pass held the turn is read here
-- (`Seizes`) and in src/rule.rt. The gate's table. It has one word, the turn word, and one slot, where the
-- machine lies with the number of its calls. Each pass has a seat of it. What such a seat knows is its view.
use Rattle.std.specs.Prelude.{◌≡◌, ◌≢◌, ℕ, ◌+◌, ◌<◌, ◌≤◌, Bool, true, false, List, [], ◌∷◌, ◌++◌, length, slice_index, Option, Some, None}
use mathlib.Core.Option.{some}
use lib.ListN.{get_elem?}
use Rattle.atomic_table.specs.Table.{State, Me}
use Rattle.turn_gate.specs.declared.view.View.{View}
use Rattle.turn_gate.specs.declared.view.Branch.{Branch}
use Rattle.turn_gate.specs.Branches.{trunk, cut_off, offshoot, at_depth, cut_at, IsWhole}
use Rattle.turn_gate.specs.Histories.{Begins, longer, shorter, grown, placed, total, times, AreOwn, AreAll}

-- what never changes of the machine, as a seat of the gate knows it
abbrev pub about_of : {A : Type 0} → A → Option A → A
about_of any None = any
about_of any (Some a) = a

module _ {C R A : Type 0} where
  abbrev pub view : Bool → ℕ → List Branch → Option A → List (C × R) → List (C × R) → List (C × R) → List ℕ → View C R A
  view holds met kin of whole noted seen mine =
      record { holds = holds; met = met; kin = kin; of = of; whole = whole; noted = noted; seen = seen; mine = mine }

  -- the first pass, before any call
  abbrev pub opener : A → View C R A
  opener of = view false 0 trunk (Some of) [] [] [] []

  -- a new pass has seen what the old one had
  abbrev pub newcomer : View C R A → View C R A
  newcomer v = view false 0 (offshoot v.kin) v.of [] [] v.seen []

  -- and one seat more was cut off from the old one
  abbrev pub cutting : View C R A → View C R A
  cutting v = view v.holds v.met (cut_off v.kin) v.of v.whole v.noted v.seen v.mine

  -- what is left of a seat that was joined into another: it has no branch any more, and can't take the turn again
  abbrev pub spent : View C R A
  spent = view false 0 [] None [] [] [] []

  -- a seat takes in another, with its branches and its own calls: the longer of both is seen, the other one noted
  abbrev pub taking : View C R A → View C R A → View C R A
  taking v w = view v.holds v.met (v.kin ++ w.kin) v.of v.whole (shorter v.seen w.seen) (longer v.seen w.seen) (v.mine ++ w.mine)

  -- a seat takes in another, that has made no call, with its branches, and notes what it has seen
  abbrev pub noting : View C R A → View C R A → View C R A
  noting v w = view v.holds v.met (v.kin ++ w.kin) v.of v.whole w.seen v.seen v.mine

  -- it takes the turn, at this history
  abbrev pub seizing : View C R A → List (C × R) → View C R A
  seizing v h = view true v.met v.kin v.of h v.noted v.seen v.mine

  -- it has met another that holds the turn
  abbrev pub meeting : View C R A → View C R A
  meeting v = view false (v.met + 1) v.kin v.of v.whole v.noted v.seen v.mine

  -- it gives the turn back, and has seen the whole history, with the call that it made
  abbrev pub freeing : Option (C × R) → View C R A → View C R A
  freeing said v = view false v.met v.kin v.of [] [] (grown v.whole said) (placed v.mine (length v.whole) said)

  -- how often a view claims a place
  abbrev pub claims : ℕ → View C R A → ℕ
  claims p v = times p v.mine

  -- What the rule says of each view, where the history of all calls is this one
  pub record Fits (key : A) (whole : List (C × R)) (v : View C R A) : Type 0 where
    -- it is of this gate
    pub named : (a : A) → v.of ≡ Some a → a ≡ key
    -- where it holds the turn it has the whole history, and a branch of its own
    pub holding : v.holds ≡ true → v.whole ≡ whole
    pub grows : v.holds ≡ true → 0 < length v.kin
    -- what is seen, and what is noted, is a beginning of it
    pub seen_begins : Begins v.seen whole
    pub noted_begins : Begins v.noted whole
    -- own calls have places in what is seen
    pub own : (p : ℕ) → 0 < times p v.mine → p < length v.seen
    -- who has own calls has a branch: a seat that was taken in has none of both
    pub bears : (p : ℕ) → 0 < times p v.mine → 0 < length v.kin

  -- how many branches of a view have that depth, and how many seats were cut off from these
  abbrev pub branches_at : ℕ → View C R A → ℕ
  branches_at d v = at_depth d v.kin

  abbrev pub cuts_at : ℕ → View C R A → ℕ
  cuts_at d v = cut_at d v.kin

  -- EVERY SEAT BUT THE FIRST WAS CUT OFF FROM ONE, which counts it: there is one branch of no depth, and of
  -- each further depth there are as many as were cut off from those of one less. So no seat comes that none
  -- counts, and what is counted stays counted
  pub record Cuts (views : List (View C R A)) : Type 0 where
    pub one_first : total (branches_at 0) views ≡ 1
    pub each_counted : (d : ℕ) → total (branches_at (d + 1)) views ≡ total (cuts_at d) views

  -- just one view holds the turn
  abbrev pub OneHolds : List (View C R A) → Type 0
  OneHolds views = (k : ℕ) × (holder : View C R A) × (get_elem? views k ≡ some holder) × (holder.holds ≡ true)
      × ((j : ℕ) (v : View C R A) → get_elem? views j ≡ some v → v.holds ≡ true → j ≡ k)

  -- no view holds the turn
  abbrev pub NoneHolds : List (View C R A) → Type 0
  NoneHolds views = (j : ℕ) (v : View C R A) → get_elem? views j ≡ some v → v.holds ≡ false

  module _ {H : Type 0} (inside : A → H → List (C × R) → Type 0) where
    -- The rule, which holds at every moment. `inside key` is what is said of what lies in the slot, at a
    -- history. Nothing is asked of a slot that is out: the pass that holds the turn has its value in hand,
    -- and the history stays.
    pub record TurnRule (key : A) (s : State (Option H) (View C R A)) : Type 0 where
      pub one_word : length s.words ≡ 1
      pub one_slot : length s.homes ≡ 1
      -- the history of all calls
      pub whole : List (C × R)
      pub each : (j : ℕ) (v : View C R A) → get_elem? s.views j ≡ some v → Fits key whole v
      -- each place of it stands in the own calls of just one seat, once
      pub once : (p : ℕ) → p < length whole → total (claims p) s.views ≡ 1
      pub cuts : Cuts s.views
      -- where the word is 0 the slot is at home, and nobody holds the turn
      pub free : slice_index s.words 0 ≡ 0 → ((x : H) × (get_elem? s.homes 0 ≡ some (some (Some x))) × inside key x whole) × NoneHolds s.views
      -- where the word isn't 0 it is 1, and just one holds the turn
      pub held : slice_index s.words 0 ≢ 0 → (slice_index s.words 0 ≡ 1) × OneHolds s.views

    -- by a swap that found 0 a seat has the turn and the slot, at this history
    pub record Seized (m n : Me (Option H) (View C R A)) : Type 0 where
      pub history : List (C × R)
      pub value : H
      pub view_is : n.0 ≡ seizing m.0 history
      pub slot : n.1 ≡ (0, Some value) ∷ []
      pub fits : (a : A) → m.0.of ≡ Some a → inside a value history
      pub begins : Begins m.0.seen history

    -- What a swap that writes 1 tells, where it found the number r
    abbrev pub Seizes : Me (Option H) (View C R A) → ℕ → Me (Option H) (View C R A) → Type 0
    Seizes m r n = (r ≡ 0 → Seized m n) × (r ≢ 0 → (n.0 ≡ meeting m.0) × (n.1 ≡ []))

  module _ {H : Type 0} where
    -- What the swap that writes 0 tells: the turn and the slot are given back, and what was noted began the history
    abbrev pub Frees : Option (C × R) → Me (Option H) (View C R A) → Me (Option H) (View C R A) → Type 0
    Frees said m n = (n.0 ≡ freeing said m.0) × (n.1 ≡ []) × Begins m.0.noted m.0.whole

    -- what a load tells a pass that has taken in another; where it has taken in all others, its own calls are all
    abbrev pub Learns : Me (Option H) (View C R A) → Me (Option H) (View C R A) → Type 0
    Learns m n = (n ≡ m) × (length m.0.noted ≤ length m.0.seen → Begins m.0.noted m.0.seen) × AreOwn m.0.mine (length m.0.seen)
        × (IsWhole m.0.kin → AreAll m.0.mine (length m.0.seen))
