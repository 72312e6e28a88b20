use Rattle.std.proofs.Common.{◌≡◌, ◌⊎◌}
use Rattle.std.specs.VecDeque.{deque_len}
use Rattle.unit_ring.specs.IsWindow.{IsWindow, IsTight}
use Rattle.unit_ring.proofs.window.Window.make_room.Given as goal

abbrev pub invariant-loop-self : goal.invariant-loop-self
invariant-loop-self l = record {
  window : IsWindow l.limits l.self;
  items : l.self.items ≡ l.fn.self.items;
  tight : (l.self.base ≡ l.fn.self.base) ⊎ IsTight l.limits l.more l.self;
}

abbrev pub decreases-loop-self : goal.decreases-loop-self
decreases-loop-self l = deque_len l.self.slots
