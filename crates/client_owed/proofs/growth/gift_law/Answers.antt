use Rattle.client_owed.specs.declared.types.Phase.TheVariants.{Connecting}
use Rattle.client_owed.proofs.Growing.{pulled_more}
use Rattle.client_owed.proofs.growth.gift_law.Goals as goal

pub returns : goal.returns
returns c = λ k. pulled_more k Connecting
