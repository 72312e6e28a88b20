use Rattle.loop_command.proofs.Serving.{quits}
use Rattle.std.proofs.Common.{ap, subst, sym}
use Rattle.stream_registry.specs.Books.{FitsSole, SeenState, sole_rules}
use Rattle.stream_registry.specs.Names.{places}
use Rattle.relay_session.specs.Places.{IsAt}
use Rattle.relay_session.specs.SessionState.{SessionState}
use Rattle.loop_command.proofs.Home.{offered}
use Rattle.loop_command.proofs.ending.end_session.Goals as goal

pub returns-in-Ended-Quit-clause-side : goal.returns-in-Ended-Quit-clause-side
returns-in-Ended-Quit-clause-side c = λ who s.
    let t = c.turn in
    (quits who c.args.port.now t.new.port c.args.line.now.session c.quit.new.self t.new.self c.args.line.now.far t.new.link t.result c.requires.rules
    c.requires.still c.quit.ensures t.ensures.turn t.ensures.stands t.ensures.ended s).side

pub returns-in-Ended-Quit-clause-port : goal.returns-in-Ended-Quit-clause-port
returns-in-Ended-Quit-clause-port c = λ who s.
    let t = c.turn in
    (quits who c.args.port.now t.new.port c.args.line.now.session c.quit.new.self t.new.self c.args.line.now.far t.new.link t.result c.requires.rules
    c.requires.still c.quit.ensures t.ensures.turn t.ensures.stands t.ensures.ended s).port

pub returns-in-Ended-Quit-clause-far : goal.returns-in-Ended-Quit-clause-far
returns-in-Ended-Quit-clause-far c = λ who s.
    let t = c.turn in
    (quits who c.args.port.now t.new.port c.args.line.now.session c.quit.new.self t.new.self c.args.line.now.far t.new.link t.result c.requires.rules
    c.requires.still c.quit.ensures t.ensures.turn t.ensures.stands t.ensures.ended s).link

pub returns-in_default-clause-port : goal.returns-in_default-clause-port
returns-in_default-clause-port c = λ who s.
    let t = c.turn in
    (quits who c.args.port.now t.new.port c.args.line.now.session c.quit.new.self t.new.self c.args.line.now.far t.new.link t.result c.requires.rules
    c.requires.still c.quit.ensures t.ensures.turn t.ensures.stands t.ensures.ended s).port

pub returns-in_default-clause-far : goal.returns-in_default-clause-far
returns-in_default-clause-far c = λ who s.
    let t = c.turn in
    (quits who c.args.port.now t.new.port c.args.line.now.session c.quit.new.self t.new.self c.args.line.now.far t.new.link t.result c.requires.rules
    c.requires.still c.quit.ensures t.ensures.turn t.ensures.stands t.ensures.ended s).link

pub turn-requires-clause-at : goal.turn-requires-clause-at
turn-requires-clause-at c =
    subst (λ (s : SessionState SeenState). IsAt (FitsSole c.args.port.now) (places (sole_rules c.args.port.now.rules)) s.parts s.seat)
    (sym c.quit.ensures) c.requires.at

pub turn-requires-clause-offered : goal.turn-requires-clause-offered
turn-requires-clause-offered c = offered _ (ap places c.requires.rules)
