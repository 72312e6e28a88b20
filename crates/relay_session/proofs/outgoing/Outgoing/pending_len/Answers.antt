use Rattle.std.proofs.Common.{ap, length}
use Rattle.relay_session.proofs.Unsent.{pending_sum}
use Rattle.relay_session.proofs.outgoing.Outgoing.pending_len.Goals as goal

pub returns : goal.returns
returns c =
    let i = c.self.inside in
    pending_sum c.args.self.now i.first i.offset i.item i.hand i.later i.writer _ _ _ c.self.view_is (ap length c.ready-ready.ensures.value) c.hand_len-unit.ensures.value (ap length c.later-later.ensures)
