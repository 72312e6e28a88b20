use Rattle.ts_writer.proofs.Texts.{begin_text, end_text}
use Rattle.ts_writer.proofs.writer.write.Goals as goal

pub returns-in-Begin-clause-bytes : goal.returns-in-Begin-clause-bytes
returns-in-Begin-clause-bytes c = begin_text c.args.in_force.now c.args.item.now c.args.out.now c.args.text.now c.in-Begin.is

pub returns-in-End-clause-bytes : goal.returns-in-End-clause-bytes
returns-in-End-clause-bytes c = end_text c.args.in_force.now c.args.item.now c.args.out.now c.args.text.now c.in-End.is
