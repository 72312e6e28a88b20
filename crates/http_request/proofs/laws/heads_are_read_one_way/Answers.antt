use Rattle.http_request.proofs.Reading.{agree}
use Rattle.http_request.proofs.laws.heads_are_read_one_way.Goals as goal

pub returns : goal.returns
returns c = agree
