use Rattle.std.proofs.Common.{ap, ◌∙◌, Ok}
use Rattle.ts_writer.specs.Text.{listed, reading_of}
use Rattle.ts_writer.proofs.Texts.{no_text, left_text}
use Rattle.ts_writer.proofs.writer.write_unit.Goals as goal

pub returns-in-Ok-None-clause-bytes : goal.returns-in-Ok-None-clause-bytes
returns-in-Ok-None-clause-bytes c =
    no_text (listed c.args.in_force.now) (reading_of c.args.in_force.now c.args.unit.now.kind c.args.unit.now.time c.args.unit.now.body) c.args.out.now c.args.text.now
    (c.in-Ok-None.ensures.made ∙ ap Ok c.in-Ok-None.field-0-is)

pub returns-in-Err-Out-clause-bytes : goal.returns-in-Err-Out-clause-bytes
returns-in-Err-Out-clause-bytes c =
    left_text (listed c.args.in_force.now) (reading_of c.args.in_force.now c.args.unit.now.kind c.args.unit.now.time c.args.unit.now.body) c.in-Err-Out.left c.args.out.now c.args.text.now
    (rw c.in-Err-Out.field-0-is at c.in-Err-Out.ensures).made
