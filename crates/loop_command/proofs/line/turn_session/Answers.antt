use Rattle.std.proofs.Common.{rules}
use Rattle.loop_command.proofs.Serving.{was_served, session_stops, session_wants, turned_so}
use Rattle.loop_command.proofs.Home.{offered}
use Rattle.loop_command.proofs.line.turn_session.Goals as goal

pub returns-in_err-lasts_after-clause-turned : goal.returns-in_err-lasts_after-clause-turned
returns-in_err-lasts_after-clause-turned c =
    let e = c.in_err-lasts_after in
    let t = c.turn-answer in
    let x = session_stops e.field-0.0 c.args.port.now t.new.port c.args.line.now (record c.args.line.now { session = t.new.self; far = t.new.link })
    t.new.self t.new.link t.result e.ensures t.ensures.turn t.ensures.ended t.ensures.stands t.ensures.lasts in
    search (rules, x)

pub returns-in_err-line-clause-turned : goal.returns-in_err-line-clause-turned
returns-in_err-line-clause-turned c =
    let e = c.in_err-line in
    let x = session_wants e.field-0.0 c.args.port.now c.turn-answer.new.port c.args.line.now c.args.line.now e.ensures.err in
    search (rules, x)

pub returns-clause-goes : goal.returns-clause-goes
returns-clause-goes c = λ who s p.
    let t = c.turn-answer in
    let e = c.in_ok-line in
    was_served who c.args.port.now t.new.port c.args.line.now t.new.self t.new.link c.pass.new.from c.pass.new.to _ t.result t.ensures.turn
    t.ensures.goes_on t.ensures.ended c.in_ok-lasts_after.ensures t.ensures.quit t.ensures.lasts
    (t.ensures.stands) t.ensures.units t.ensures.rises t.ensures.at e.ensures.passed e.ensures.total e.ensures.few s p

pub returns-clause-turned : goal.returns-clause-turned
returns-clause-turned c =
    let t = c.turn-answer in
    turned_so c.args.port.now t.new.port c.args.line.now t.new.self t.new.link c.pass.new.from c.pass.new.to _ t.result t.ensures.turn t.ensures.ended
    c.in_ok-lasts_after.ensures t.ensures.quit c.in_ok-line.ensures.passed

pub turn-answer-requires-clause-offered : goal.turn-answer-requires-clause-offered
turn-answer-requires-clause-offered c = offered _ c.requires.one
