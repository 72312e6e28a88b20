use Rattle.loop_command.proofs.Outcomes.{whole_ends, whole_stops}
use Rattle.loop_command.proofs.run.run_whole.Goals as goal

pub returns-in-Ok : goal.returns-in-Ok
returns-in-Ok g c = λ held.
    let K = g.K.Sink in
    let e = c.in-Ok in
    let t = c.run_all.new in
    whole_ends c.finish.result c.args.run.now t.run c.args.rounds held (K.holds c.args.out.now) (K.holds t.out) (K.faults c.args.out.now) (K.faults t.out)
    (λ file. e.ensures.goes file held) e.ensures.faults
    (λ file. c.finish.ensures.looped file held (K.holds t.out)) c.finish.ensures.unskipped c.finish.ensures.err

pub returns-in-Err : goal.returns-in-Err
returns-in-Err g c = λ held.
    let K = g.K.Sink in
    let e = c.in-Err in
    let t = c.run_all.new in
    whole_stops e.stop c.args.run.now t.run c.args.rounds held (K.holds c.args.out.now) (K.holds t.out) (K.faults c.args.out.now) (K.faults t.out)
    (λ file. e.ensures.goes file held) (λ file. e.ensures.part file held) e.ensures.faults
