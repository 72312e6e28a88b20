use Rattle.std.proofs.Common.{subst, sym}
use Rattle.loop_command.specs.Rounds.{ReadStops}
use Rattle.loop_command.specs.declared.stop.Stop.{Stop}
use Rattle.loop_command.proofs.Counting.{next_goes, next_stops}
use Rattle.loop_command.proofs.film.next_within.Goals as goal

pub returns-in-Ok : goal.returns-in-Ok
returns-in-Ok g c = λ start w.
    let S = g.S.Source in
    let t = c.next.new in
    next_goes c.in-Ok.tag c.args.film.now t.film start (S.left t.input) (S.faults c.args.input.now) (S.faults t.input) c.in-Ok.ensures.fine
    (c.in-Ok.ensures.goes start w)

pub returns-in-Err : goal.returns-in-Err
returns-in-Err g c = λ start w.
    let S = g.S.Source in
    let t = c.next.new in
    let r = c.in-Err.ensures.goes start w in
    subst (λ (s : Stop). ReadStops s start (S.left t.input) (S.faults c.args.input.now) (S.faults t.input)) (sym c.within.ensures)
    (next_stops c.in-Err.stop c.args.film.now.reader.given r.0 start (S.left t.input) (S.faults c.args.input.now) (S.faults t.input) r.1 r.2)
