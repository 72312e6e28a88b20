use Rattle.key_guard.specs.declared.check.Mode.TheVariants.{Plain}
use Rattle.key_guard.proofs.Found.{allowed_is}
use Rattle.key_guard.proofs.check.by_name.Goals as goal

pub returns-clause-allowed : goal.returns-clause-allowed
returns-clause-allowed c = allowed_is _ Plain _ c.args.name.now _ c.have.ensures
