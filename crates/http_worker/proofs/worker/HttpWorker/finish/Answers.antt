use Rattle.std.proofs.Common.{ap, subst, sym}
use Rattle.http_worker.specs.Benches.{IsSound}
use Rattle.http_worker.specs.Books.{Settled}
use Rattle.http_worker.proofs.Booking.{settles}
use Rattle.http_worker.proofs.worker.HttpWorker.finish.Goals as goal

pub returns-clause-books : goal.returns-clause-books
returns-clause-books g c desk works =
    let rules = g.P.StreamPort.rules in
    let root = g.P.StreamPort.root in
    let w = c.args.self in
    let sound = subst (λ v. IsSound g.P.StreamPort.fits rules g.D.Door.told v.terms v.bench) c.self.view_is c.self.invariant in
    subst (λ b. Settled desk w.terms (rules b.port).limits (root b.port) (g.D.Door.told b.door) b.refused b.worn) (sym (ap (λ v. v.bench) c.self.view_is))
    (settles rules root g.P.StreamPort.seen g.D.Link.Link.told g.D.Link.Link.counts g.D.Door.told desk w.terms g.P.StreamPort.fits w.bench sound c.requires
    works)
