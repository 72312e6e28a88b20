use Rattle.client_owed.proofs.Standing.{stands_greet}
use Rattle.client_owed.proofs.steps.greet_step.Goals as goal

pub returns : goal.returns
returns c = λ k max. stands_greet k max
