use Rattle.std.proofs.Common.{rules}
use Rattle.key_guard.specs.declared.check.Mode.TheVariants.{Digest}
use Rattle.key_guard.proofs.Found.{allowed_is}
use Rattle.key_guard.proofs.check.by_digest.Goals as goal

pub returns-clause-allowed : goal.returns-clause-allowed
returns-clause-allowed c = allowed_is _ Digest _ c.args.name.now _ (search rules)
