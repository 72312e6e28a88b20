use Rattle.std.proofs.Common.{arith, length, length-drop, ap, ◌∙◌}
use Rattle.ts_writer.proofs.Sizes.{record_within, within_more}
use Rattle.ts_writer.proofs.units.read_video.Goals as goal

pub returns-clause-short : goal.returns-clause-short
returns-clause-short c =
    within_more (length c.after.result.now) (length c.args.body.now) c.in_ok-read.field-0 (omega (arith, ap length c.after.ensures ∙ length-drop 5 c.args.body.now))
    (record_within c.after.result.now c.in_ok-read.field-0 c.in_ok-read.ensures.exact c.in_ok-read.ensures.found.config)
