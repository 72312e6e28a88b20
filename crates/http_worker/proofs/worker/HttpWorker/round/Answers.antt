use Rattle.std.proofs.Common.{refl, subst, sym}
use Rattle.relay_worker.proofs.Sounding.{ahead_trans}
use Rattle.http_worker.specs.Benches.{IsSound}
use Rattle.http_worker.specs.Books.{Works}
use Rattle.http_worker.proofs.Booking.{round_works}
use Rattle.http_worker.proofs.Sounding.{keeps_at, rounds_at}
use Rattle.http_worker.proofs.worker.HttpWorker.round.Goals as goal

pub returns-clause-rounds : goal.returns-clause-rounds
returns-clause-rounds g c =
    rounds_at _ _ _ _ _ _ _ _ c.args.self.now _ c.round.result c.self.view_is
    (record {
      admitted = c.admit.new.self;
      turned = c.turn_all.new.self;
      admits = c.admit.ensures.admits;
      turns = c.turn_all.ensures.turns;
      closings = c.close_all.ensures.closes;
      terms = refl;
      answers = c.round.ensures;
    })

pub returns-clause-keeps : goal.returns-clause-keeps
returns-clause-keeps g c =
    let fits = g.P.StreamPort.fits in
    let rules = g.P.StreamPort.rules in
    let root = g.P.StreamPort.root in
    keeps_at fits rules root _ c.args.self.now _ c.self.view_is
    (record {
      terms = refl;
      port = ahead_trans fits rules root c.self.inside.bench.port c.admit.new.self.port c.close_all.new.self.port c.admit.ensures.ahead
          (ahead_trans fits rules root c.admit.new.self.port c.turn_all.new.self.port c.close_all.new.self.port c.turn_all.ensures.ahead
          c.close_all.ensures.ahead);
    })

pub returns-clause-books : goal.returns-clause-books
returns-clause-books g c works =
    let fits = g.P.StreamPort.fits in
    let rules = g.P.StreamPort.rules in
    let root = g.P.StreamPort.root in
    let desk = g.G.Desk.grants c.args.desk.now in
    let w = c.args.self.now in
    let r = returns-clause-rounds g c in
    let sound = subst (λ v. IsSound fits rules g.D.Door.told v.terms v.bench) c.self.view_is c.self.invariant in
    subst (λ t. Works rules root g.P.StreamPort.seen g.D.Link.Link.told g.D.Link.Link.counts g.D.Door.told desk t c.close_all.new.self) (sym r.terms)
    (round_works rules root g.P.StreamPort.seen g.D.Link.Link.told g.D.Link.Link.counts g.D.Door.told desk w.terms fits g.P.StreamPort.count
    g.P.StreamPort.wants g.P.StreamPort.busies g.P.StreamPort.adds g.P.StreamPort.kin g.P.StreamPort.branches
    g.D.Link.Link.hears c.link_law.ensures.heard g.D.Link.Link.says c.link_law.ensures.said
    g.P.StreamPort.busies g.D.Link.Link.ready fits w _ c.round.result refl sound r works)
