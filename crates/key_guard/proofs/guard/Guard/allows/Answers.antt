use Rattle.key_guard.proofs.Found.{allowed_is}
use Rattle.key_guard.proofs.guard.Guard.allows.Goals as goal

pub returns-clause-allowed : goal.returns-clause-allowed
returns-clause-allowed g c = allowed_is _ _ _ _ _ c.answer.ensures
