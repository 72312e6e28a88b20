use Rattle.client_owed.proofs.Standing.{stands_new}
use Rattle.client_owed.proofs.steps.new_step.Goals as goal

pub returns : goal.returns
returns c = λ k max. stands_new k max
