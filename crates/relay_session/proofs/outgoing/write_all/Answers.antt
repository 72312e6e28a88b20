use Rattle.relay_session.proofs.Pending.{writing_more, written_all}
use Rattle.relay_session.proofs.outgoing.write_all.Goals as goal

pub loop-left-preserved : goal.loop-left-preserved
loop-left-preserved c = writing_more c.args.writer.now c.loop-left.writer c.put_message.new.self c.args.out.now c.loop-left.out c.put_message.new.out c.args.messages.now c.loop-left.left.now c.message-item.result
    c.in-len1-up.len_at_least c.message-item.is c.loop-left.invariant c.in_ok-put_message.ensures.writer c.in_ok-put_message.ensures.bytes

pub returns-clause-writer : goal.returns-clause-writer
returns-clause-writer c = (written_all c.args.writer.now c.loop-left.writer c.args.out.now c.loop-left.out c.args.messages.now c.loop-left.left.now c.in_default.len_below c.loop-left.invariant).0

pub returns-clause-bytes : goal.returns-clause-bytes
returns-clause-bytes c = (written_all c.args.writer.now c.loop-left.writer c.args.out.now c.loop-left.out c.args.messages.now c.loop-left.left.now c.in_default.len_below c.loop-left.invariant).1
