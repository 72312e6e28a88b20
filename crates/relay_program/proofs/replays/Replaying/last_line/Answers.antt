use Rattle.std.proofs.Common.{◌<◌, length, arith}
use Rattle.relay_program.proofs.ReplaySteps.{ends_after}
use Rattle.relay_program.proofs.replays.Replaying.last_line.Goals as goal

pub returns-clause-ends : goal.returns-clause-ends
returns-clause-ends g c =
    let some : 0 < length c.args.self.now.line = omega (arith, c.if-len-eq0.false, c.len.ensures) in
    ends_after c.obey.result c.args.self.now c.obey.new.scene c.requires some (rw c.as_slice.ensures at c.obey.ensures.obeyed)
