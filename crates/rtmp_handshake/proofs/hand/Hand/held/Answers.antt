use Rattle.std.proofs.Common.{◌∙◌}
use Rattle.rtmp_handshake.proofs.Kept.{held_is}
use Rattle.rtmp_handshake.proofs.hand.Hand.held.Goals as goal

pub returns-clause-value : goal.returns-clause-value
returns-clause-value c =
    rw (← c.self.view_is) (c.len.ensures ∙ held_is c.self.inside.count c.self.inside.kept c.self.inside.fed c.self.inside.failed c.self.invariant)
