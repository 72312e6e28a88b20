use Rattle.std.proofs.Common.{inl, refl}
use Rattle.loop_command.proofs.Outcomes.{memory_ends}
use Rattle.loop_command.proofs.run.run_film.Goals as goal

pub returns-in-Ok : goal.returns-in-Ok
returns-in-Ok g c = λ left left' n n' h.
    let held = g.K.Sink.holds c.args.out.now in
    let new = c.in-Ok.ensures.new in
    c.run_whole-how.ensures held c.args.film left left' n n' h c.rounds_of-rounds.ensures new.first (new.is_run held)

pub returns-in-Err : goal.returns-in-Err
returns-in-Err g c = λ left left' n n' h.
    let K = g.K.Sink in
    let held = K.holds c.args.out.now in
    let faults = K.faults c.args.out.now in
    memory_ends c.in-Err.stop c.args.film left left' held held n n' faults faults c.in-Err.ensures.err h refl (inl refl)
