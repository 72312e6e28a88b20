use Rattle.std.proofs.Common.{rules}
use Rattle.config_desk.specs.Grants.{granted_from}
use Rattle.relay_replay.specs.Guests.{ConnState}
use Rattle.relay_replay.proofs.Keep.{turned}
use Rattle.relay_replay.proofs.connection.Connection.turn.Goals as goal

pub returns-clause-turn : goal.returns-clause-turn
returns-clause-turn g c =
    let i = c.self.inside in
    let old : ConnState = record { session = i.session; link = i.link; ended = i.ended } in
    let new : ConnState = record { session = c.after.new.session; link = c.turn-answer.new.link; ended = c.after.new.ended } in
    rw (← c.self.view_is) (turned (granted_from 0 c.args.desk.now.list.now c.args.desk.now.opens.now) c.args.port.now c.turn-answer.new.port
    c.after.new.port old new
    c.turn-answer.new.self c.turn-answer.result c.told_turn.result c.told_turn.ensures (search rules) c.turn-answer.ensures.turn
    c.turn-answer.ensures.stands (c.owed_law.ensures.owed (granted_from 0 c.args.desk.now.list.now c.args.desk.now.opens.now))
    (c.owed_law.ensures.whole (granted_from 0 c.args.desk.now.list.now c.args.desk.now.opens.now)) c.turn-answer.ensures.acts
    c.turn-answer.ensures.lasts c.turn-answer.ensures.goes_on.roots c.turn-answer.ensures.ended c.turn-answer.ensures.quit c.in_ok-after.ensures.leads)

pub returns-clause-fits : goal.returns-clause-fits
returns-clause-fits g c = λ q p h. c.after.ensures.fits q p (c.turn-answer.ensures.goes_on.passes q p h)

pub returns-in_err-after-clause-fits : goal.returns-in_err-after-clause-fits
returns-in_err-after-clause-fits g c = λ q p h. c.after.ensures.fits q p (c.turn-answer.ensures.goes_on.passes q p h)
