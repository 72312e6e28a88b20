use Rattle.flv_tags.proofs.Single.{one_stop}
use Rattle.flv_tags.proofs.laws.one_refusal.Goals as goal

pub returns : goal.returns
returns c = one_stop
