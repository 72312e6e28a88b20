use Rattle.passes_law.proofs.Passing.{left_keeps}
use Rattle.passes_law.proofs.Turning.{keeps_ended}
use Rattle.passes_law.proofs.laws.sessions_law.Goals as goal

pub returns-clause-turn : goal.returns-clause-turn
returns-clause-turn g c = λ desk ended quit v w l m a t.
    let P = g.P.StreamPort in
    let L = g.L.Link in
    keeps_ended P.fits P.rules P.root P.seen P.count P.wants P.busies P.adds P.kin P.branches desk L.hears L.says ended quit v l a w m t

pub returns-clause-close : goal.returns-clause-close
returns-clause-close g c = λ x y s t r at k. let P = g.P.StreamPort in left_keeps P.branches P.kin x y s.spot t.spot s.visits t.visits r at k
