use Rattle.std.proofs.Common.{◌≡◌, ◌∙◌, sym, Some, None, true, false}
use Rattle.av_unit.specs.Disposable.{unit_front, is_needed, firsts_of}
use Rattle.av_unit.proofs.Spared.{starts, moves, stops, ended}
use Rattle.av_unit.proofs.disposable.are_spared.Goals as goal

pub loop-first-init : goal.loop-first-init
loop-first-init c = starts (firsts_of c.args.size c.args.units.now)

pub loop-first-preserved : goal.loop-first-preserved
loop-first-preserved c =
    let front : unit_front c.args.size c.loop-first.left.now ≡ Some (c.in-Some.first, c.in-Some.rest.now) = sym c.in-Some.ensures.value in
    let none : is_needed c.in-Some.first ≡ false = sym c.is_needed.ensures ∙ c.if-is_needed.false in
    rw c.is_slice-slices.ensures (c.loop-first.invariant ∙ moves c.args.size c.loop-first.left.now c.in-Some.rest.now c.in-Some.first c.loop-first.slices front none)

pub returns-then-is_needed : goal.returns-then-is_needed
returns-then-is_needed c =
    let front : unit_front c.args.size c.loop-first.left.now ≡ Some (c.in-Some.first, c.in-Some.rest.now) = sym c.in-Some.ensures.value in
    let needs : is_needed c.in-Some.first ≡ true = sym c.is_needed.ensures ∙ c.if-is_needed.true in
    sym (c.loop-first.invariant ∙ stops c.args.size c.loop-first.left.now c.in-Some.rest.now c.in-Some.first c.loop-first.slices front needs)

pub returns-then-slices : goal.returns-then-slices
returns-then-slices c =
    let none : unit_front c.args.size c.loop-first.left.now ≡ None = sym c.in_default.ensures.value in
    let e = c.loop-first.invariant ∙ ended c.args.size c.loop-first.left.now c.loop-first.slices none in
    c.is_end.ensures ∙ sym (rw c.if-slices.true at e)

pub returns-else-slices : goal.returns-else-slices
returns-else-slices c =
    let none : unit_front c.args.size c.loop-first.left.now ≡ None = sym c.in_default.ensures.value in
    let e = c.loop-first.invariant ∙ ended c.args.size c.loop-first.left.now c.loop-first.slices none in
    c.if-slices.false ∙ sym (rw c.if-slices.false at e)
