use Rattle.std.proofs.Common.{sym}
use Rattle.relay_program.specs.Outcome.{in_out}
use Rattle.relay_program.proofs.Outcomes.{refused, finished, failed}
use Rattle.relay_program.proofs.drills.drill.Goals as goal

pub returns-then-not-is_drill-clause-outcome : goal.returns-then-not-is_drill-clause-outcome
returns-then-not-is_drill-clause-outcome g c =
    let now = in_out (g.S.Source.left c.args.script.now) (g.K.Sink.holds c.args.out.now) (g.S.Source.faults c.args.script.now)
    (g.K.Sink.faults c.args.out.now) in
    refused _ now (sym c.if-not-is_drill.ensures)

pub returns-in-Ok-clause-outcome : goal.returns-in-Ok-clause-outcome
returns-in-Ok-clause-outcome g c =
    let script = c.answer_script.new.script in
    let out = c.answer_script.new.out in
    let old = in_out (g.S.Source.left c.args.script.now) (g.K.Sink.holds c.args.out.now) (g.S.Source.faults c.args.script.now)
    (g.K.Sink.faults c.args.out.now) in
    let new = in_out (g.S.Source.left script) (g.K.Sink.holds out) (g.S.Source.faults script) (g.K.Sink.faults out) in
    finished _ old new (sym c.if-not-is_drill.ensures) c.in-Ok.ensures.read c.in-Ok.ensures.ends c.answer_script.ensures.part_read c.in-Ok.ensures.source
    c.in-Ok.ensures.sink

pub returns-in-Err-clause-outcome : goal.returns-in-Err-clause-outcome
returns-in-Err-clause-outcome g c =
    let script = c.answer_script.new.script in
    let out = c.answer_script.new.out in
    let old = in_out (g.S.Source.left c.args.script.now) (g.K.Sink.holds c.args.out.now) (g.S.Source.faults c.args.script.now)
    (g.K.Sink.faults c.args.out.now) in
    let new = in_out (g.S.Source.left script) (g.K.Sink.holds out) (g.S.Source.faults script) (g.K.Sink.faults out) in
    rw c.status_of.ensures
    (failed c.in-Err.fail _ old new (sym c.if-not-is_drill.ensures) c.in-Err.ensures.ends c.answer_script.ensures.part_read c.in-Err.ensures.as_it_goes
    c.in-Err.ensures.source c.in-Err.ensures.sink)
