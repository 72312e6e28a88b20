use Rattle.client_command.proofs.pushing.push_all.Goals as goal

pub returns-in-Err : goal.returns-in-Err
returns-in-Err g c = λ k old v. c.in-Err.ensures.goes k old v

pub returns-in-Ok : goal.returns-in-Ok
returns-in-Ok g c = λ k old v.
    let t = c.give_all.new in
    c.turn_out.ensures k old (g.S.Source.left t.input) (g.S.Source.faults t.input) (c.in-Ok.ensures.goes k old v)
