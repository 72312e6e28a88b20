use Rattle.std.proofs.Common.{rules}
use Rattle.loop_command.proofs.Rounding.{publishes_by, push_stops}
use Rattle.loop_command.proofs.publishing.publish.Goals as goal

pub returns-in_err-push_part-clause-goes : goal.returns-in_err-push_part-clause-goes
returns-in_err-push_part-clause-goes c = λ file old now h.
    let e = c.in_err-push_part in
    let x = push_stops e.field-0.0 _ file c.args.run.now c.push_part.new.run old now (e.ensures.goes file old now h) in
    search (rules, x)

pub returns-clause-goes : goal.returns-clause-goes
returns-clause-goes c = λ file old now h.
    let t = c.serve_publisher in
    let p = c.in_ok-push_part.ensures.goes file old now h in
    publishes_by t.result file c.args.run.now c.push_part.new.run t.new.run old now p.made (t.ensures.goes file old now p.is_run)
