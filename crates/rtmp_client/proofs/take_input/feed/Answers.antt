use Rattle.std.proofs.Common.{List, ℕ, ap, length, subst}
use Rattle.rtmp_client.specs.Feeding.{IsStopped}
use Rattle.rtmp_client.proofs.Going.{fed_left, fed_light, fed_then, feeding_step, grows_then, stopped_then}
use Rattle.rtmp_client.proofs.take_input.feed.Goals as goal

pub returns-in-Err-clause-stopped : goal.returns-in-Err-clause-stopped
returns-in-Err-clause-stopped c =
    let now = c.loop-alloc.core in
    let s = subst (λ (l : List ℕ). IsStopped now l c.in-Err.end c.next_piece.new.core) c.left-in-loop-alloc.ensures.value c.in-Err.ensures.stopped in
    stopped_then c.args.core.now now c.next_piece.new.core c.args.input.now c.loop-alloc.input c.in-Err.end c.loop-alloc.invariant s

pub returns-then-part-clause-fed : goal.returns-then-part-clause-fed
returns-then-part-clause-fed c =
    let now = c.loop-alloc.core in
    fed_then c.args.core.now now c.next_piece.new.core c.args.input.now c.loop-alloc.input c.used.new.self c.loop-alloc.invariant.fed
    (fed_left now c.next_piece.new.core c.left-in-loop-alloc.result.now c.loop-alloc.input c.used.new.self c.in-Ok.part.used c.left-in-loop-alloc.ensures.value c.used.ensures c.in-Ok.ensures.fed)

pub loop-alloc-preserved : goal.loop-alloc-preserved
loop-alloc-preserved c =
    let now = c.loop-alloc.core in
    let e = c.in-Ok.ensures in
    feeding_step c.args.core.now now c.next_piece.new.core c.args.input.now c.loop-alloc.input c.left-in-loop-alloc.result.now c.used.new.self c.in-Ok.part.used c.in-Ok.part.ended
    c.left-in-loop-alloc.ensures.value c.used.ensures c.if-part.false c.loop-alloc.invariant e.fed e.heard e.sound e.some.1 e.quiet c.next_piece.ensures.apart

pub returns-in-Err-clause-light : goal.returns-in-Err-clause-light
returns-in-Err-clause-light c =
    fed_light c.args.core.now c.loop-alloc.core c.next_piece.new.core c.args.input.now c.loop-alloc.input (length c.left-in-loop-alloc.result.now) c.loop-alloc.invariant c.requires.hungry c.requires.short
    (ap length c.left-in-loop-alloc.ensures.value) c.in-Err.ensures.light

pub returns-then-part-clause-light : goal.returns-then-part-clause-light
returns-then-part-clause-light c =
    fed_light c.args.core.now c.loop-alloc.core c.next_piece.new.core c.args.input.now c.loop-alloc.input (length c.left-in-loop-alloc.result.now) c.loop-alloc.invariant c.requires.hungry c.requires.short
    (ap length c.left-in-loop-alloc.ensures.value) c.in-Ok.ensures.light

pub returns-then-part-clause-grows : goal.returns-then-part-clause-grows
returns-then-part-clause-grows c = λ e. (
    let now = c.loop-alloc.core in
    let s = c.in-Ok.ensures in
    grows_then c.args.core.now now c.next_piece.new.core c.args.input.now c.loop-alloc.input c.left-in-loop-alloc.result.now c.in-Ok.part.used c.loop-alloc.invariant.fed s.fed s.some.0 s.some.1)
