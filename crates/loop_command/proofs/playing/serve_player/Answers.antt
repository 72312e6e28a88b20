use Rattle.loop_command.specs.Course.{PlayerServed}
use Rattle.loop_command.specs.Desk.{player}
use Rattle.loop_command.specs.Rounds.{Goes}
use Rattle.loop_command.proofs.Refusing.{player_lasts}
use Rattle.loop_command.proofs.Rounding.{own_session, session_by}
use Rattle.loop_command.proofs.Running.{player_goes, player_ok}
use Rattle.std.proofs.Common.{ap}
use Rattle.stream_registry.specs.Names.{places}
use Rattle.loop_command.proofs.playing.serve_player.Goals as goal

pub returns-clause-sound : goal.returns-clause-sound
returns-clause-sound c =
    let t = c.turn_session in
    player_ok t.result c.args.run.now t.new.port t.new.line t.ensures.few t.ensures.at t.ensures.rules t.ensures.passes t.ensures.turned c.requires.sound

pub returns-clause-goes : goal.returns-clause-goes
returns-clause-goes c = λ file old now h.
    let t = c.turn_session in
    let r = c.args.run.now in
    let s = record r { port = t.new.port; pull = t.new.line } in
    session_by t.result r.port t.new.port r.pull t.new.line (Goes file s old now (PlayerServed r s))
    (λ x. player_goes t.result file old now r t.new.port t.new.line (t.ensures.goes player h.plays h.pull_passed) h x)
    (player_lasts c.a_session_is_ended_by_no_byte.ensures c.decided_law.ensures file old now r h) t.ensures.turned

pub returns-clause-err : goal.returns-clause-err
returns-clause-err c = own_session c.turn_session.result c.args.run.now.port c.turn_session.new.port c.args.run.now.pull c.turn_session.new.line
    c.turn_session.ensures.turned

pub turn_session-requires-clause-one : goal.turn_session-requires-clause-one
turn_session-requires-clause-one c = ap places c.requires.sound.rules_are
