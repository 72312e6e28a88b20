use Rattle.std.proofs.Common.{◌≡◌, ◌∙◌, ap, arith, length, length-append}
use Rattle.ts_writer.proofs.Bounds.{item_most}
use Rattle.ts_writer.proofs.writer.TsWriter.item.Goals as goal

pub returns-in-Ok-clause-most : goal.returns-in-Ok-clause-most
returns-in-Ok-clause-most c =
    let m = item_most c.self.inside.in_force c.args.item.now c.self.inside.text c.self.invariant.small in
    omega (arith, ap length c.in-Ok.ensures.bytes ∙ length-append c.args.out.now _, m)
