use Rattle.client_owed.proofs.Standing.{stands_gave}
use Rattle.client_owed.proofs.steps.give_step.Goals as goal

pub returns : goal.returns
returns c = λ k max. stands_gave k max
