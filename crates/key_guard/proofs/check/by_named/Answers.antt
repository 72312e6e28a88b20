use Rattle.std.proofs.Common.{rules}
use Rattle.key_guard.specs.declared.check.Mode.TheVariants.{Named}
use Rattle.key_guard.proofs.Found.{allowed_is}
use Rattle.key_guard.proofs.check.by_named.Goals as goal

pub returns-clause-allowed : goal.returns-clause-allowed
returns-clause-allowed c = allowed_is _ Named _ _ _ (search rules)
