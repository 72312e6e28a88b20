use Rattle.http_request.proofs.Reading.{head_stays, refused_stays}
use Rattle.http_request.proofs.laws.decided_heads_stay.Goals as goal

pub returns-clause-head : goal.returns-clause-head
returns-clause-head c = head_stays

pub returns-clause-refused : goal.returns-clause-refused
returns-clause-refused c = refused_stays
