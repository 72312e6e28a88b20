use Rattle.std.proofs.Common.{◌≡◌, ◌∙◌, ap, arith, length, map, refl, subst, sym}
use Rattle.std.specs.Prelude.{All}
use Rattle.std.proofs.lemmas.List.Elements.{All-same}
use Rattle.relay_worker.specs.Benches.{IsFiled, IsSound}
use Rattle.relay_worker.specs.Books.{Works}
use Rattle.relay_worker.specs.Filed.{TakesTurn, Tallies, state_of}
use Rattle.relay_worker.specs.Running.{label_of}
use Rattle.relay_worker.proofs.Booking.{round_works}
use Rattle.relay_worker.proofs.Sounding.{ahead_serves, ahead_trans, filed_on, goes_of, keeps_at, kept, records_at, rounds_at}
use Rattle.relay_worker.proofs.worker.Worker.round.Goals as goal

pub invariant_of-self : goal.invariant_of-self
invariant_of-self g c =
    let new = c.record_all.new.recorders in
    let items = c.self.inside.recorders.items in
    let a : length new ≡ length items = omega (arith, c.record_all.auto.recorders, ap length c.as_mut_slice.ensures.value) in
    let y = c.record_all.new.self.port in
    (c.record_all.ensures.sound, All-same (IsFiled (g.P.StreamPort.fits y) (length (g.P.StreamPort.rules y).names)) _ new (kept c.self.inside.recorders.len new items a c.self.inside.recorders.ok.0) c.record_all.ensures.filed)

pub record_all-requires-clause-filed : goal.record_all-requires-clause-filed
record_all-requires-clause-filed g c κs within =
    let fits = g.P.StreamPort.fits in
    let rules = g.P.StreamPort.rules in
    let root = g.P.StreamPort.root in
    let x = c.self.inside.bench.port in
    let y = c.close_all.new.self.port in
    let ahead = ahead_trans fits rules root x c.admit.new.self.port y c.admit.ensures.ahead
    (ahead_trans fits rules root c.admit.new.self.port c.turn_all.new.self.port y c.turn_all.ensures.ahead c.close_all.ensures.ahead) in
    filed_on fits rules x y c.as_mut_slice.result.now (goes_of fits rules root x y ahead)
    (All-same (IsFiled (fits x) (length (rules x).names)) c.as_mut_slice.result.now c.self.inside.recorders.items c.as_mut_slice.ensures.value c.self.invariant.1)

pub returns-clause-rounds : goal.returns-clause-rounds
returns-clause-rounds g c =
    let new = c.record_all.new.recorders in
    let items = c.self.inside.recorders.items in
    let a : length new ≡ length items = omega (arith, c.record_all.auto.recorders, ap length c.as_mut_slice.ensures.value) in
    rounds_at _ _ _ _ _ _ _ _ _ c.args.self.now _ c.round.result c.self.view_is
    (record {
      admitted = c.admit.new.self;
      turned = c.turn_all.new.self;
      closed = c.close_all.new.self;
      admits = c.admit.ensures.admits;
      turns = c.turn_all.ensures.turns;
      closings = c.close_all.ensures.closes;
      records = records_at _ c.close_all.new.self c.record_all.new.self c.as_mut_slice.result.now items new _ c.as_mut_slice.ensures.value (kept c.self.inside.recorders.len new items a c.self.inside.recorders.ok.0) c.record_all.ensures.records;
      terms = refl;
      answers = c.round.ensures;
    })

pub returns-clause-keeps : goal.returns-clause-keeps
returns-clause-keeps g c =
    let fits = g.P.StreamPort.fits in
    let rules = g.P.StreamPort.rules in
    let root = g.P.StreamPort.root in
    let new = c.record_all.new.recorders in
    let items = c.self.inside.recorders.items in
    let a : length new ≡ length items = omega (arith, c.record_all.auto.recorders, ap length c.as_mut_slice.ensures.value) in
    keeps_at fits rules root _ c.args.self.now _ c.self.view_is
    (record {
      terms = refl;
      port = ahead_trans fits rules root c.self.inside.bench.port c.admit.new.self.port c.record_all.new.self.port c.admit.ensures.ahead
          (ahead_trans fits rules root c.admit.new.self.port c.turn_all.new.self.port c.record_all.new.self.port c.turn_all.ensures.ahead
          (ahead_trans fits rules root c.turn_all.new.self.port c.close_all.new.self.port c.record_all.new.self.port c.close_all.ensures.ahead c.record_all.ensures.ahead));
      labels = ap (map label_of) (kept c.self.inside.recorders.len new items a c.self.inside.recorders.ok.0) ∙ (c.record_all.ensures.labels ∙ ap (map label_of) c.as_mut_slice.ensures.value);
    })

pub returns-clause-tallies : goal.returns-clause-tallies
returns-clause-tallies g c was =
    let new = c.record_all.new.recorders in
    let items = c.self.inside.recorders.items in
    let a : length new ≡ length items = omega (arith, c.record_all.auto.recorders, ap length c.as_mut_slice.ensures.value) in
    let tally = Tallies g.P.StreamPort.count g.K.Sink.holds g.K.Sink.faults in
    let old = subst (λ v. All tally v.recorders) (sym c.self.view_is) was in
    All-same tally _ new (kept c.self.inside.recorders.len new items a c.self.inside.recorders.ok.0)
    (c.record_all.ensures.tallies (All-same tally c.as_mut_slice.result.now items c.as_mut_slice.ensures.value old))

pub returns-clause-books : goal.returns-clause-books
returns-clause-books g c works =
    let fits = g.P.StreamPort.fits in
    let rules = g.P.StreamPort.rules in
    let root = g.P.StreamPort.root in
    let desk = g.G.Desk.grants c.args.desk.now in
    let w = c.args.self.now in
    let files = TakesTurn fits rules root g.P.StreamPort.busies g.P.StreamPort.seen g.P.StreamPort.mine g.P.StreamPort.count g.P.StreamPort.adds g.P.StreamPort.kin g.P.StreamPort.branches g.K.Sink.takes g.K.Sink.holds in
    let r = returns-clause-rounds g c in
    let sound = subst (λ v. IsSound fits rules g.D.Door.told v.terms v.bench) c.self.view_is c.self.invariant.0 in
    subst (λ t. Works rules root g.P.StreamPort.seen g.D.Link.Link.told g.D.Link.Link.counts g.D.Door.told desk t c.record_all.new.self) (sym r.terms)
    (round_works rules root g.P.StreamPort.seen g.D.Link.Link.told g.D.Link.Link.counts g.D.Door.told desk w.terms fits g.P.StreamPort.count g.P.StreamPort.wants g.P.StreamPort.busies g.P.StreamPort.adds g.P.StreamPort.kin g.P.StreamPort.branches files
    (λ x q a y q' k. let s = ahead_serves fits rules root g.P.StreamPort.busies (state_of q).seat.place x y k.serves in (s.fixed, s.roots))
    g.D.Link.Link.hears c.link_law.ensures.heard g.D.Link.Link.says c.link_law.ensures.said c.decided_law.ensures g.P.StreamPort.busies g.D.Link.Link.ready fits w _ c.round.result refl sound r works)
