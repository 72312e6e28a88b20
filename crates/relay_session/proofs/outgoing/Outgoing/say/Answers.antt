use Rattle.std.proofs.Common.{◌∷◌, []}
use Rattle.relay_session.proofs.Pending.{none_kept, none_light, one_after, one_bytes, say_none, say_some, some_kept, some_light}
use Rattle.relay_session.proofs.outgoing.Outgoing.say.Goals as goal

pub returns-in-None-clause-said : goal.returns-in-None-clause-said
returns-in-None-clause-said c =
    let i = c.self.inside in
    let m = c.args.message.now in
    let r = c.put_message.result in
    say_none c.args.self.now i.first i.offset i.item i.hand i.later i.writer c.put_message.new.self c.put_message.new.out (m ∷ []) r
    c.self.view_is c.self.invariant c.in-None.is (one_after i.writer c.put_message.new.self m r c.put_message.ensures.writer) (one_bytes i.writer i.first c.put_message.new.out m r c.put_message.ensures.bytes)

pub returns-in-Some-clause-said : goal.returns-in-Some-clause-said
returns-in-Some-clause-said c =
    let i = c.self.inside in
    let m = c.args.message.now in
    let r = c.put_message-in-Some.result in
    say_some c.args.self.now i.first i.offset i.item i.hand c.in-Some.field-0 i.later i.writer c.put_message-in-Some.new.self c.put_message-in-Some.new.out (m ∷ []) r
    c.self.view_is c.in-Some.is (one_after i.writer c.put_message-in-Some.new.self m r c.put_message-in-Some.ensures.writer) (one_bytes i.writer i.later c.put_message-in-Some.new.out m r c.put_message-in-Some.ensures.bytes)

pub invariant_of-self : goal.invariant_of-self
invariant_of-self c =
    let i = c.self.inside in
    let e = c.put_message.ensures in
    none_kept i.first c.put_message.new.out i.offset i.item i.hand i.later i.writer c.put_message.new.self c.args.message.now c.put_message.result c.self.invariant c.in-None.is c.requires e.writer e.bytes e.err

pub invariant_of-self-in-Some : goal.invariant_of-self-in-Some
invariant_of-self-in-Some c =
    let i = c.self.inside in
    let e = c.put_message-in-Some.ensures in
    some_kept i.first i.offset i.item i.hand c.in-Some.field-0 i.later c.put_message-in-Some.new.out i.writer c.put_message-in-Some.new.self c.args.message.now c.put_message-in-Some.result c.self.invariant c.in-Some.is c.requires e.writer e.err

pub returns-in-None-clause-light : goal.returns-in-None-clause-light
returns-in-None-clause-light c =
    let i = c.self.inside in
    let e = c.put_message.ensures in
    none_light c.args.self.now i.first c.put_message.new.out i.offset i.item i.hand i.later i.writer c.put_message.new.self c.args.message.now c.put_message.result c.self.view_is c.self.invariant.sized c.in-None.is e.bytes e.err

pub returns-in-Some-clause-light : goal.returns-in-Some-clause-light
returns-in-Some-clause-light c =
    let i = c.self.inside in
    let e = c.put_message-in-Some.ensures in
    some_light c.args.self.now i.first i.offset i.item i.hand c.in-Some.field-0 i.later c.put_message-in-Some.new.out i.writer c.put_message-in-Some.new.self c.args.message.now c.put_message-in-Some.result c.self.view_is c.self.invariant.sized
    c.in-Some.is e.bytes e.err
