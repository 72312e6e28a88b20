use Rattle.std.proofs.Common.{◌≡◌, ◌+◌, ap, refl, sym, arith, ◌∙◌, inl, inr}
use Rattle.std.proofs.lemmas.Bool.{false≢true}
use Rattle.std.specs.VecDeque.{deque_len}
use Rattle.av_unit.specs.Cost.{cost_of}
use Rattle.unit_ring.specs.IsWindow.{HasRoom}
use Rattle.unit_ring.proofs.Dropping.{added, gone_by, least_added}
use Rattle.unit_ring.proofs.window.Window.push.Goals as goal

pub overflow_add-self : goal.overflow_add-self
overflow_add-self c = let small = c.has_room.ensures.small c.if-has_room.true in omega arith

pub returns-then-has_room-clause-window : goal.returns-then-has_room-clause-window
returns-then-has_room-clause-window c =
    let w = c.make_room.new.self in
    let room : HasRoom c.args.limits.now (cost_of c.args.item) w = rw c.cost-more.ensures.value at (c.has_room.ensures.room.0 c.if-has_room.true) in
    let most = rw c.cost-more.ensures.value at c.cost-more.ensures.most in
    added c.args.limits.now w _ (record { item = c.args.item; before = c.args.before }) c.make_room.ensures.window c.push_back_reserved.ensures.items c.push_back_reserved.ensures.len
    c.push_back_reserved.ensures.capacity refl (ap (λ n. w.cost + n) c.cost-more.ensures.value) c.add.ensures refl room most (rw c.make_room.ensures.items c.requires.marks)

pub returns-then-has_room-clause-least : goal.returns-then-has_room-clause-least
returns-then-has_room-clause-least c =
    let w = c.make_room.new.self in
    least_added c.args.limits.now c.args.self.now w (record { slots = c.push_back_reserved.new.self; base = w.base; cost = w.cost + c.cost-more.result; kept = w.kept; items = c.add.new.self }) c.args.item
    c.requires.least c.make_room.ensures.items c.make_room.ensures.window.within (rw c.cost-more.ensures.value at c.make_room.ensures.tight) refl c.add.ensures

pub returns-else-has_room-clause-window : goal.returns-else-has_room-clause-window
returns-else-has_room-clause-window c =
    let w = c.make_room.new.self in
    let none : deque_len w.slots ≡ 0 = elim c.make_room.ensures.room [
      | inl room ↦ absurd (false≢true (sym c.if-has_room.false ∙ c.has_room.ensures.room.1 room))
      | inr none ↦ none
    ] in
    gone_by c.args.limits.now w _ c.args.item c.make_room.ensures.window none refl refl refl c.add.ensures c.pass.ensures.kept (c.pass.ensures.small c.make_room.ensures.window.kept.small)
