-- Only proofs and private functions use it.
-- What lies in the slot while it is at home
use Rattle.std.specs.Prelude.{◌≡◌, ◌^◌, ◌≤◌, List, length}
use Rattle.turn_gate.specs.declared.view.Counted.{Counted}

module _ {T C R A : Type 0} (stands : T → List (C × R) → Type 0) (about : T → A) where
  -- the machine is the one that the key tells of, it stands for this history, and the number beside it is
  -- that of the calls
  pub record InSlot (key : A) (kept : Counted T) (h : List (C × R)) : Type 0 where
    pub about_is : about kept.machine ≡ key
    pub stood : stands kept.machine h
    pub counted : kept.calls ≡ length h
    pub bounded : length h ≤ 2 ^ 62
