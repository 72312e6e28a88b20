use Rattle.std.proofs.Common.{◌∷◌, rules}
use Rattle.relay_program.proofs.ReplaySteps.{run_stops, run_goes, result_then}
use Rattle.relay_program.proofs.replays.Replaying.whole_line.Goals as goal

pub returns-in_err-extend-clause-goes : goal.returns-in_err-extend-clause-goes
returns-in_err-extend-clause-goes g c = λ more clean.
    let h = run_stops c.in_err-extend.field-0.0 c.args.self.now c.args.run.now (10 ∷ more) c.requires clean c.in_err-extend.ensures.extended in
    search (rules, h)

pub returns-clause-goes : goal.returns-clause-goes
returns-clause-goes g c = λ more clean.
    result_then c.end_line.result c.args.self.now c.extend.new.self c.end_line.new.self _ _ more
    (run_goes c.args.self.now c.extend.new.self c.args.run.now (10 ∷ more) clean c.in_ok-extend.ensures.extended) (c.end_line.ensures.goes more)
