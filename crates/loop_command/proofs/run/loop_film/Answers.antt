use Rattle.loop_command.proofs.Outcomes.{film_ends, is_short}
use Rattle.loop_command.proofs.run.loop_film.Goals as goal

pub run_film-requires-clause-short : goal.run_film-requires-clause-short
run_film-requires-clause-short g c = is_short c.in-Ok.film _ _ _ _ c.in-Ok.ensures

pub run_film-requires-clause-writable : goal.run_film-requires-clause-writable
run_film-requires-clause-writable g c = c.in-Ok.ensures.writable

pub returns-in-Ok : goal.returns-in-Ok
returns-in-Ok g c =
    let S = g.S.Source in
    let t = c.read_film.new in
    c.run_film.ensures (S.left c.args.input.now) (S.left t.input) (S.faults c.args.input.now) (S.faults t.input) c.in-Ok.ensures

pub returns-in-Err : goal.returns-in-Err
returns-in-Err g c =
    let S = g.S.Source in
    let K = g.K.Sink in
    let t = c.read_film.new in
    film_ends c.in-Err.stop (S.left c.args.input.now) (S.left t.input) (K.holds c.args.out.now) (S.faults c.args.input.now) (S.faults t.input)
    (K.faults c.args.out.now) c.in-Err.ensures
