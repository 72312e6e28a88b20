use Rattle.amf0_value.proofs.Patterns.{is_pattern}
use Rattle.amf0_value.proofs.laws.patterns.Goals as goal

pub returns : goal.returns
returns c = is_pattern
