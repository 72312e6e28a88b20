-- Only proofs and private functions use it.
-- What the parts of a ring are after the items that were pushed.
use Rattle.std.specs.Prelude.{◌≡◌, ℕ, ◌+◌, ◌-◌, ◌^◌, ◌<◌, ◌≤◌, ◌⊎◌, false, length, map, drop, Some}
use Rattle.std.specs.List.{slice_get}
use Rattle.std.specs.VecDeque.{deque_len, deque_capacity}
use Rattle.av_unit.specs.Cost.{cost_of}
use Rattle.stream_model.specs.declared.calls.StreamLimits.{StreamLimits}
use Rattle.stream_model.specs.Window.{cost_sum, fits}
use Rattle.unit_ring.specs.declared.window.Slotted.{Slotted}
use Rattle.unit_ring.specs.declared.window.Window.{Window}
use Rattle.unit_ring.specs.Marks.{marks_at}
use Rattle.unit_ring.specs.Kept.{AreKept}

-- the slots have the items from the base on and no others, each with the configurations in effect before it
pub record IsWindow (limits : StreamLimits) (w : Window) : Type 0 where
  pub within : w.base ≤ length w.items
  pub slots : map (λ s. s.item) w.slots.items ≡ drop w.base w.items
  pub marks : (i : ℕ) (s : Slotted) → slice_get w.slots.items i ≡ Some s → s.before ≡ marks_at w.items (w.base + i)
  pub kept : AreKept w.items w.base w.kept
  pub cost : w.cost ≡ cost_sum (drop w.base w.items)
  pub bytes : w.cost ≤ limits.bytes
  pub count : deque_len w.slots ≤ limits.items
  pub few : limits.items < 2 ^ 32
  pub capacity : limits.items ≤ deque_capacity w.slots
  pub each : (i : ℕ) (s : Slotted) → slice_get w.slots.items i ≡ Some s → cost_of s.item ≤ 4194368

-- the items from the base on fit together with one more that costs so much, or no slot is left
abbrev pub HasRoom : StreamLimits → ℕ → Window → Type 0
HasRoom limits more w = (w.cost + more ≤ limits.bytes) × (deque_len w.slots < limits.items)

-- from one number before the base on, the items and one more that costs so much don't fit
abbrev pub IsTight : StreamLimits → ℕ → Window → Type 0
IsTight limits more w = (0 < w.base) × ((limits.bytes < cost_sum (drop (w.base - 1) w.items) + more) ⊎ (limits.items < length (drop (w.base - 1) w.items) + 1))

-- from one number before the base on, the items don't fit
abbrev pub IsLeast : StreamLimits → Window → Type 0
IsLeast limits w = 0 < w.base → fits limits (drop (w.base - 1) w.items) ≡ false
