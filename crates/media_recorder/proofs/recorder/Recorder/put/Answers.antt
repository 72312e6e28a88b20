use Rattle.std.proofs.Common.{inl, refl}
use Rattle.media_recorder.proofs.recorder.Recorder.put.Goals as goal

pub returns-clause-alone : goal.returns-clause-alone
returns-clause-alone g c = rw (← c.self.view_is) (inl (refl, refl))
