use Rattle.std.proofs.Common.{arith}
use Rattle.file_commands.proofs.UnitLines.{few_units}
use Rattle.file_commands.proofs.units.UnitsConvert.finish.Goals as goal

pub put_last-requires : goal.put_last-requires
put_last-requires c = omega (arith, few_units c.args.self.now.reader c.requires.fits.stands, c.requires.fits.counted, c.requires.near)
