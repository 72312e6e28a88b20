-- What the step means gives what is told.
use Rattle.std.proofs.Common.{rules, length, take}
use Rattle.relay_outside.specs.Heard.{CameBytes}
use Rattle.relay_outside.specs.MemLinks.{MemLinkState}
use Rattle.relay_outside.specs.MemLinkLaws.{mem_hears_mean}
use Rattle.relay_outside.proofs.mem_link.MemLinkLink.recv.Goals as goal

pub returns-in-Some-clause-told : goal.returns-in-Some-clause-told
returns-in-Some-clause-told c =
    let bytes = take c.in-Some.count c.give.new.into in
    let inside = c.self.inside in
    let after : MemLinkState = record {
      pieces = c.give.new.self;
      ended = inside.closed;
      gave = c.add_all.new.self;
      handed = inside.handed;
      sent = inside.output.items;
      room = inside.space;
      recv_fails = c.replace.new.dest;
      send_fails = inside.send_due;
      counts = inside.tally;
    } in
    (mem_hears_mean c.args.self.now (length c.args.into.now) (CameBytes bytes) after c.requires (search rules)).told
