use Rattle.passes_law.proofs.HttpWorking.{http_gone, http_rounds}
use Rattle.passes_law.proofs.laws.http_workers_law.Goals as goal

pub returns-clause-rounds : goal.returns-clause-rounds
returns-clause-rounds g c = λ desk w v b.
    let P = g.P.StreamPort in
    let L = g.D.Link.Link in
    http_rounds P.kin P.branches P.fits P.rules P.root P.seen P.count P.wants P.busies P.adds L.told L.counts L.hears L.says L.ready g.D.Door.told desk w v b

pub returns-clause-gone : goal.returns-clause-gone
returns-clause-gone g c = λ w v e f k q. let P = g.P.StreamPort in http_gone P.kin P.branches w v e f k q
