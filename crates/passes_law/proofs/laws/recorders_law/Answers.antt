use Rattle.passes_law.proofs.Turning.{recorder_keeps}
use Rattle.passes_law.proofs.laws.recorders_law.Goals as goal

pub returns : goal.returns
returns g c = λ x y s t there a. let P = g.P.StreamPort in recorder_keeps P.rules P.adds P.root P.seen P.kin P.branches x y s t there a
