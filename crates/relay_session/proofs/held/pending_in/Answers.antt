use Rattle.std.proofs.Common.{arith}
use Rattle.relay_session.proofs.Holds.{others_few}
use Rattle.relay_session.proofs.held.pending_in.Goals as goal

pub pending_len-requires : goal.pending_len-requires
pending_len-requires c =
    let d = c.args.core.now in
    omega (arith, others_few d.outgoing.others d.kept c.requires)
