use Rattle.client_owed.proofs.Standing.{stands_taken}
use Rattle.client_owed.proofs.steps.take_step.Goals as goal

pub returns : goal.returns
returns c = λ k max. stands_taken k max
