use Rattle.rtmp_client.proofs.Turning.{client_without}
use Rattle.rtmp_client.proofs.client.Client.take.Goals as goal

pub invariant_of-self : goal.invariant_of-self
invariant_of-self c = (client_without c.self.inside.ended c.self.inside.core c.take_gift.new.core c.take_gift.ensures.left c.self.invariant.0, c.self.invariant.1)
