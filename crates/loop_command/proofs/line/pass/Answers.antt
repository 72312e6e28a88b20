use Rattle.std.proofs.Common.{◌∙◌, ap, arith, length}
use Rattle.loop_command.proofs.Links.{passes_none, passes_some}
use Rattle.loop_command.proofs.line.pass.Goals as goal

pub returns-then-count-eq0-clause-passed : goal.returns-then-count-eq0-clause-passed
returns-then-count-eq0-clause-passed c =
    let p = c.take_sent-piece in
    let n = c.size_of-count.ensures ∙ ap length (c.deref.ensures.value ∙ p.ensures.handed) in
    passes_none c.args.from.now c.args.to.now p.new.self c.size_of-count.result p.ensures.left n c.if-count-eq0.true

pub returns-then-count-eq0-clause-total : goal.returns-then-count-eq0-clause-total
returns-then-count-eq0-clause-total c =
    let n = c.size_of-count.ensures ∙ ap length (c.deref.ensures.value ∙ c.take_sent-piece.ensures.handed) in
    omega (arith, n, c.if-count-eq0.true)

pub returns-in-Ok-clause-passed : goal.returns-in-Ok-clause-passed
returns-in-Ok-clause-passed c =
    let p = c.take_sent-piece in
    let n = c.size_of-count.ensures ∙ ap length (c.deref.ensures.value ∙ p.ensures.handed) in
    passes_some c.args.from.now c.args.to.now p.new.self c.give.new.self c.size_of-count.result p.result.items p.ensures.left p.ensures.handed n
    c.if-count-eq0.false c.in-Ok.ensures.ok

pub returns-in-Ok-clause-total : goal.returns-in-Ok-clause-total
returns-in-Ok-clause-total c =
    let n = c.size_of-count.ensures ∙ ap length (c.deref.ensures.value ∙ c.take_sent-piece.ensures.handed) in
    omega (arith, n)
