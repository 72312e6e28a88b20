use Rattle.rtmp_client.proofs.Pending.{kept_said, light_one, said_one}
use Rattle.rtmp_client.proofs.outgoing.Outgoing.say.Goals as goal

pub invariant_of-self : goal.invariant_of-self
invariant_of-self c =
    let i = c.self.inside in
    let e = c.put_message.ensures in
    kept_said i.bytes c.put_message.new.out i.offset i.tag i.writer c.put_message.new.self c.args.message.now c.put_message.result c.self.invariant c.requires e.writer e.bytes e.err

pub returns-clause-said : goal.returns-clause-said
returns-clause-said c =
    let i = c.self.inside in
    let e = c.put_message.ensures in
    said_one c.args.self.now i.bytes c.put_message.new.out i.offset i.tag i.writer c.put_message.new.self c.args.message.now c.put_message.result c.self.view_is c.self.invariant e.writer e.bytes

pub returns-clause-light : goal.returns-clause-light
returns-clause-light c =
    let i = c.self.inside in
    let e = c.put_message.ensures in
    light_one c.args.self.now i.bytes c.put_message.new.out i.offset i.tag i.writer c.put_message.new.self c.args.message.now c.put_message.result c.self.view_is c.self.invariant e.bytes e.err
