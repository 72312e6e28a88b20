use Rattle.rtmp_client.proofs.Pending.{kept_tag, most_tag, shown_tag}
use Rattle.rtmp_client.proofs.outgoing.Outgoing.show.Goals as goal

pub invariant_of-self-2 : goal.invariant_of-self-2
invariant_of-self-2 c =
    let i = c.self.inside in
    let e = c.in_ok-put_message.ensures in
    kept_tag i.bytes c.put_message.new.out i.offset i.tag c.len-self-inside.result i.writer c.put_message.new.self c.args.message.now c.self.invariant c.requires.sayable e.writer e.bytes c.len-self-inside.ensures

pub returns-clause-shown : goal.returns-clause-shown
returns-clause-shown c =
    let i = c.self.inside in
    let e = c.in_ok-put_message.ensures in
    shown_tag c.args.self.now i.bytes c.put_message.new.out i.offset i.tag c.len-self-inside.result i.writer c.put_message.new.self c.args.message.now c.self.view_is c.self.invariant e.writer e.bytes c.len-self-inside.ensures

pub returns-clause-most : goal.returns-clause-most
returns-clause-most c =
    let i = c.self.inside in
    most_tag c.args.self.now i.bytes c.put_message.new.out i.offset i.tag i.writer c.args.message.now c.self.view_is c.requires.nothing c.in_ok-put_message.ensures.bytes
