use Rattle.series_medium.proofs.Parting.{first_part, part_on}
use Rattle.series_medium.proofs.laws.parts_law.Goals as goal

pub returns-clause-on : goal.returns-clause-on
returns-clause-on c = part_on

pub returns-clause-first : goal.returns-clause-first
returns-clause-first c = first_part
