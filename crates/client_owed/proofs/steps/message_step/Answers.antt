use Rattle.client_owed.proofs.Standing.{stands_message}
use Rattle.client_owed.proofs.steps.message_step.Goals as goal

pub returns : goal.returns
returns c = λ k max. stands_message k max
