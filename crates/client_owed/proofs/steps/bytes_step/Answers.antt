use Rattle.client_owed.proofs.Standing.{stands_fed}
use Rattle.client_owed.proofs.steps.bytes_step.Goals as goal

pub returns : goal.returns
returns c = λ k max. stands_fed k max
