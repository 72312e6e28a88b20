use Rattle.origin_pull.proofs.Granting.{granted_live}
use Rattle.origin_pull.proofs.granted.granted_law.Goals as goal

pub returns : goal.returns
returns c = granted_live
