use Rattle.media_recorder.specs.Taken.{taken}
use Rattle.media_recorder.specs.Mediums.{most_held}
use Rattle.media_recorder.proofs.Texts.{held_within}
use Rattle.media_recorder.proofs.recorder.Recorder.held.Goals as goal

pub returns-clause-most : goal.returns-clause-most
returns-clause-most g c =
    rw (← c.self.view_is) (held_within c.self.inside.end c.self.inside.tape.items (taken c.self.inside.seat.calls) c.held.result most_held c.self.invariant.written c.held.ensures.most)
