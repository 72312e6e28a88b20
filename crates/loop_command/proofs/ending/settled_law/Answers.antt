use Rattle.loop_command.proofs.Settling.{quiet_stills, settled}
use Rattle.loop_command.proofs.ending.settled_law.Goals as goal

pub returns : goal.returns
returns c = λ t.
    let r = c.args.run.now in
    settled r (λ q. let s = quiet_stills r q in (c.still_law.ensures s.0, c.still_law-2.ensures s.1)) t
