use Rattle.std.proofs.Common.{false}
use Rattle.origin_calls.proofs.Whole.{are_broadcasts, are_units}
use Rattle.origin_calls.proofs.calls_law.broadcasts_law.Goals as goal

pub returns-clause-broadcasts : goal.returns-clause-broadcasts
returns-clause-broadcasts c = are_broadcasts false

pub returns-clause-units : goal.returns-clause-units
returns-clause-units c = are_units false
