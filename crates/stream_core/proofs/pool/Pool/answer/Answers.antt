use Rattle.std.proofs.Common.{◌≡◌, Some, ◌<◌, length, sym}
use Rattle.stream_model.specs.Pool.{slot_for}
use Rattle.stream_core.proofs.Pools.{at_slot, open_slot, few_items}
use Rattle.stream_core.proofs.pool.Pool.answer.Goals as goal

pub answer-requires-clause-open : goal.answer-requires-clause-open
answer-requires-clause-open c =
    let slots = c.self.inside.slots.items in
    let i = c.in-Some.i in
    let x = c.index_mut.result.now in
    let lt : i < length slots = rw c.deref.ensures.value at c.in-Some.ensures.within in
    let is : slot_for slots c.args.entry.who c.args.entry.call ≡ Some i = sym (rw c.deref.ensures.value at c.in-Some.ensures.slot) in
    open_slot slots c.args.entry.who c.args.entry.call i x is (at_slot slots i x lt c.index_mut.ensures.value)

pub answer-requires-clause-few : goal.answer-requires-clause-few
answer-requires-clause-few c =
    let slots = c.self.inside.slots.items in
    let i = c.in-Some.i in
    let x = c.index_mut.result.now in
    let lt : i < length slots = rw c.deref.ensures.value at c.in-Some.ensures.within in
    few_items i x c.self.invariant (rw (← c.self.view_is) at c.requires) lt (at_slot slots i x lt c.index_mut.ensures.value)
