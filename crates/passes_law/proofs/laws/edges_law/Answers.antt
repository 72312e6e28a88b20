use Rattle.passes_law.proofs.Guests.{edge_keeps}
use Rattle.passes_law.proofs.laws.edges_law.Goals as goal

pub returns : goal.returns
returns g c = λ ended v w l m a t.
    let P = g.P.StreamPort in
    let L = g.L.Link in
    edge_keeps P.fits P.rules P.root P.seen P.count P.wants P.busies P.adds P.kin P.branches L.hears L.says ended v l a w m t
