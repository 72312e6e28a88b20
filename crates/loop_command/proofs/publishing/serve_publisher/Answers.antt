use Rattle.loop_command.specs.Course.{PublisherServed}
use Rattle.loop_command.specs.Desk.{publisher}
use Rattle.loop_command.specs.Rounds.{Goes}
use Rattle.loop_command.proofs.Refusing.{publisher_lasts}
use Rattle.loop_command.proofs.Rounding.{own_session, session_by}
use Rattle.loop_command.proofs.Running.{publisher_goes, publisher_ok}
use Rattle.std.proofs.Common.{ap}
use Rattle.stream_registry.specs.Names.{places}
use Rattle.loop_command.proofs.publishing.serve_publisher.Goals as goal

pub returns-clause-sound : goal.returns-clause-sound
returns-clause-sound c =
    let t = c.turn_session in
    publisher_ok t.result c.args.run.now t.new.port t.new.line t.ensures.few t.ensures.at t.ensures.rules t.ensures.passes t.ensures.turned c.requires.sound

pub returns-clause-goes : goal.returns-clause-goes
returns-clause-goes c = λ file old now h.
    let t = c.turn_session in
    let r = c.args.run.now in
    let s = record r { port = t.new.port; push = t.new.line } in
    session_by t.result r.port t.new.port r.push t.new.line (Goes file s old now (PublisherServed r s))
    (λ x. publisher_goes t.result file old now r t.new.port t.new.line (t.ensures.goes publisher h.publishes h.push_passed) h x)
    (publisher_lasts c.a_session_is_ended_by_no_byte.ensures c.decided_law.ensures file old now r h) t.ensures.turned

pub returns-clause-err : goal.returns-clause-err
returns-clause-err c = own_session c.turn_session.result c.args.run.now.port c.turn_session.new.port c.args.run.now.push c.turn_session.new.line
    c.turn_session.ensures.turned

pub turn_session-requires-clause-one : goal.turn_session-requires-clause-one
turn_session-requires-clause-one c = ap places c.requires.sound.rules_are
