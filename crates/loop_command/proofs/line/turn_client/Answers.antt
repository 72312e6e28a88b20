use Rattle.std.proofs.Common.{rules}
use Rattle.loop_command.proofs.Clients.{client_goes, client_passed, client_stops, client_turned, client_wants, turn_goes, turn_lives}
use Rattle.loop_command.proofs.line.turn_client.Goals as goal

pub returns-in_err-lives-clause-turned : goal.returns-in_err-lives-clause-turned
returns-in_err-lives-clause-turned c =
    let e = c.in_err-lives in
    let t = c.turn-answer in
    let l = c.args.line.now in
    let x = client_stops e.field-0.0 l (record l { client = t.new.self; near = t.new.link }) t.new.self t.new.link t.result e.ensures t.ensures.turn
    t.ensures.stands t.ensures.lasts t.ensures.input in
    search (rules, x)

pub returns-in_err-line-clause-turned : goal.returns-in_err-line-clause-turned
returns-in_err-line-clause-turned c =
    let e = c.in_err-line in
    let x = client_wants e.field-0.0 c.args.line.now c.args.line.now e.ensures.err in
    search (rules, x)

pub returns-clause-passed : goal.returns-clause-passed
returns-clause-passed c = λ p.
    let t = c.turn-answer in
    let e = c.in_ok-line in
    client_passed c.args.line.now t.new.self t.new.link c.pass.new.from c.pass.new.to _ t.result t.ensures.turn e.ensures.passed e.ensures.total e.ensures.few p

pub returns-clause-live : goal.returns-clause-live
returns-clause-live c = λ l e.
    let t = c.turn-answer in
    turn_lives t.result c.in_ok-lives.lives c.args.line.now.client t.new.self c.args.line.now.near t.new.link t.ensures.turn t.ensures.stands
    t.ensures.lasts t.ensures.input c.in_ok-lives.ensures.0 e l

pub returns-clause-goes : goal.returns-clause-goes
returns-clause-goes c = λ k r.
    let t = c.turn-answer in
    let v = c.in_ok-lives in
    client_goes v.lives k c.args.line.now.client t.new.self t.new.link c.pass.new.from c.args.line.now.far c.pass.new.to c.in_ok-line.ensures.passed
    (turn_goes t.result v.lives k c.args.line.now.client t.new.self c.args.line.now.near t.new.link t.ensures.turn t.ensures.stands t.ensures.lasts t.ensures.input
    v.ensures.0 v.ensures.1 r)

pub returns-clause-turned : goal.returns-clause-turned
returns-clause-turned c =
    let t = c.turn-answer in
    client_turned c.args.line.now t.new.self t.new.link c.pass.new.from c.pass.new.to _ t.result c.in_ok-lives.lives t.ensures.turn
    c.in_ok-line.ensures.passed c.in_ok-line.ensures.total c.in_ok-lives.ensures
