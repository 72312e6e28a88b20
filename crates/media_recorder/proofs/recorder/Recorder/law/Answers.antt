use Rattle.std.proofs.Common.{◌++◌}
use Rattle.media_recorder.specs.Taken.{taken}
use Rattle.media_recorder.proofs.Texts.{out_first}
use Rattle.media_recorder.proofs.recorder.Recorder.law.Goals as goal

pub returns-clause-prefix : goal.returns-clause-prefix
returns-clause-prefix g c =
    let i = c.self.inside in
    rw (← c.self.view_is) (out_first g.M.Medium.text i.end i.tape.items (taken i.seat.calls) (i.tape.sent ++ i.tape.pending) g.met.M.Medium.goes_on c.law.ensures.text c.self.invariant.written)
