use Rattle.client_owed.proofs.Standing.{stands_hand}
use Rattle.client_owed.proofs.steps.hand_step.Goals as goal

pub returns : goal.returns
returns c = λ k max. stands_hand k max
