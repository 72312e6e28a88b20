use Rattle.client_owed.proofs.Standing.{stands_sent}
use Rattle.client_owed.proofs.steps.send_step.Goals as goal

pub returns : goal.returns
returns c = λ k max. stands_sent k max
