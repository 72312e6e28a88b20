use Rattle.relay_session.proofs.Pending.{say_none, say_some}
use Rattle.relay_session.proofs.outgoing.Outgoing.say_all.Goals as goal

pub returns-in-None-clause-said : goal.returns-in-None-clause-said
returns-in-None-clause-said c =
    let i = c.self.inside in
    say_none c.args.self.now i.first i.offset i.item i.hand i.later i.writer c.write_all.new.writer c.write_all.new.out c.args.messages.now c.write_all.result
    c.self.view_is c.self.invariant c.in-None.is c.write_all.ensures.writer c.write_all.ensures.bytes

pub returns-in-Some-clause-said : goal.returns-in-Some-clause-said
returns-in-Some-clause-said c =
    let i = c.self.inside in
    say_some c.args.self.now i.first i.offset i.item i.hand c.in-Some.field-0 i.later i.writer c.write_all-in-Some.new.writer c.write_all-in-Some.new.out c.args.messages.now c.write_all-in-Some.result
    c.self.view_is c.in-Some.is c.write_all-in-Some.ensures.writer c.write_all-in-Some.ensures.bytes
