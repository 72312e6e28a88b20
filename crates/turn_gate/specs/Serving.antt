-- Only proofs and private functions use it.
-- A call once its pass has the turn
use Rattle.std.specs.Prelude.{◌≡◌, ℕ, ◌+◌, ◌^◌, ◌<◌, List, [], ◌∷◌, ◌++◌, length, true, Option, Some, None, Result, Ok, Err}
use Rattle.atomic_table.specs.Table.{Me}
use Rattle.turn_gate.specs.declared.gate.CallFail.{CallFail}
use Rattle.turn_gate.specs.declared.gate.CallFail.TheVariants.{Busy, Worn}
use Rattle.turn_gate.specs.declared.view.View.{View}
use Rattle.turn_gate.specs.TurnTable.{freeing}
use Rattle.turn_gate.specs.Histories.{Begins}

module _ {C R A H : Type 0} where
  -- the seat holds the turn of the gate with this key, and what lies in the slot fits the history h
  pub record ServingAt (inside : A → H → List (C × R) → Type 0) (key : A) (h : List (C × R)) (m : Me (Option H) (View C R A)) : Type 0 where
    pub holds : m.0.holds ≡ true
    pub of_is : m.0.of ≡ Some key
    pub value : H
    pub slot : m.1 ≡ (0, Some value) ∷ []
    pub fits : inside key value h

  -- it has given the turn back, after a call or after none
  pub record Gave (said : Option (C × R)) (m n : Me (Option H) (View C R A)) : Type 0 where
    pub view_is : n.0 ≡ freeing said m.0
    pub slot : n.1 ≡ []
    pub noted_begins : Begins m.0.noted m.0.whole

  -- what came of the call; `count` is the number of calls that the pass has then seen
  abbrev pub Served : (List (C × R) → Type 0) → Me (Option H) (View C R A) → C → Result R (CallFail C) → ℕ → Me (Option H) (View C R A) → Type 0
  Served lawful m call (Ok r) count n =
      Gave (Some (call, r)) m n × (length m.0.whole < 2 ^ 62) × lawful m.0.whole × lawful (m.0.whole ++ (call, r) ∷ []) × (count ≡ length m.0.whole + 1)
  Served lawful m call (Err (Worn c)) count n = (c ≡ call) × Gave None m n × (length m.0.whole ≡ 2 ^ 62) × lawful m.0.whole × (count ≡ length m.0.whole)
  Served lawful m call (Err (Busy c)) count n = ⊥
