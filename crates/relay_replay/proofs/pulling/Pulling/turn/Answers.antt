use Rattle.std.proofs.Common.{rules}
use Rattle.relay_replay.specs.Guests.{PullState}
use Rattle.relay_replay.proofs.Keep.{edge_turned}
use Rattle.relay_replay.proofs.pulling.Pulling.turn.Goals as goal

pub returns-clause-turn : goal.returns-clause-turn
returns-clause-turn c =
    let i = c.self.inside in
    let old : PullState = record { edge = i.edge; link = i.link; ended = i.ended } in
    let new : PullState = record { edge = c.after.new.edge; link = c.turn-answer.new.link; ended = c.after.new.ended } in
    rw (← c.self.view_is) (edge_turned c.args.port.now c.turn-answer.new.port c.after.new.port old new
    c.turn-answer.new.self c.turn-answer.result c.told_edge.result c.told_edge.ensures (search rules) c.turn-answer.ensures.turn
    c.turn-answer.ensures.stands c.turn-answer.ensures.lasts c.in_ok-after.ensures.leads)

pub returns-clause-fits : goal.returns-clause-fits
returns-clause-fits c = λ q p h. c.after.ensures.fits q p (c.turn-answer.ensures.goes_on.passes q p h)

pub returns-in_err-after-clause-fits : goal.returns-in_err-after-clause-fits
returns-in_err-after-clause-fits c = λ q p h. c.after.ensures.fits q p (c.turn-answer.ensures.goes_on.passes q p h)
