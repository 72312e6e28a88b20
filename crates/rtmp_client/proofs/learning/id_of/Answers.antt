use Rattle.rtmp_client.proofs.Ids.{low_none}
use Rattle.rtmp_client.proofs.learning.id_of.Goals as goal

pub returns-then-exponent-lt1023 : goal.returns-then-exponent-lt1023
returns-then-exponent-lt1023 c = low_none c.args.bits c.if-exponent-lt1023.true
