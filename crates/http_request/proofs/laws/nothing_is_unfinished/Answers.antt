use Rattle.http_request.proofs.Nothing.{nothing_unfinished}
use Rattle.http_request.proofs.laws.nothing_is_unfinished.Goals as goal

pub returns : goal.returns
returns c = nothing_unfinished
