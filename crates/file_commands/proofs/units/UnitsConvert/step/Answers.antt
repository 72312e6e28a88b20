use Rattle.std.proofs.Common.{◌≡◌, Some, arith, rules}
use Rattle.file_commands.proofs.UnitLines.{few_units, unit_steps}
use Rattle.file_commands.proofs.units.UnitsConvert.step.Goals as goal

pub overflow_add-self : goal.overflow_add-self
overflow_add-self c = omega (arith, few_units c.args.self.now.reader c.requires.fits.stands, c.requires.fits.counted, c.requires.near)

pub returns-in_ok-put_line-in-Ok-Some-clause-ok : goal.returns-in_ok-put_line-in-Ok-Some-clause-ok
returns-in_ok-put_line-in-Ok-Some-clause-ok c =
    let is : c.in-Ok-Some.field-0.unit ≡ Some c.in-Ok-Some.unit = search rules in
    unit_steps c.args.self.now.reader c.feed.new.self c.args.piece.now c.in-Ok-Some.field-0.used c.in-Ok-Some.field-0.unit c.in-Ok-Some.unit c.args.out.now
    c.put_line.new.out is (c.in-Ok-Some.ensures.ok c.requires.fits.lives) c.in_ok-put_line-in-Ok-Some.ensures
