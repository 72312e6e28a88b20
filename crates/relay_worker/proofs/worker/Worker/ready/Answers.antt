use Rattle.std.proofs.Common.{◌≡◌, ◌∙◌, ap, arith, length, map, refl, subst, sym, true}
use Rattle.std.specs.Prelude.{All}
use Rattle.std.proofs.lemmas.List.Elements.{All-same}
use Rattle.relay_worker.specs.Benches.{IsFiled, IsSound}
use Rattle.relay_worker.specs.Books.{Works}
use Rattle.relay_worker.specs.Filed.{Tallies, is_ready}
use Rattle.relay_worker.specs.Running.{IsReadied, label_of}
use Rattle.relay_worker.proofs.Booking.{readied_works}
use Rattle.relay_worker.proofs.Sounding.{keeps_at, kept}
use Rattle.relay_worker.proofs.worker.Worker.ready.Goals as goal

pub invariant_of-self : goal.invariant_of-self
invariant_of-self g c =
    let new = c.ready_all.new.recorders in
    let items = c.self.inside.recorders.items in
    let a : length new ≡ length items = omega (arith, c.ready_all.auto.recorders, ap length c.as_mut_slice.ensures.value) in
    let y = c.ready_all.new.self.port in
    (c.ready_all.ensures.sound, All-same (IsFiled (g.P.StreamPort.fits y) (length (g.P.StreamPort.rules y).names)) _ new (kept c.self.inside.recorders.len new items a c.self.inside.recorders.ok.0) c.ready_all.ensures.filed)

pub returns-clause-keeps : goal.returns-clause-keeps
returns-clause-keeps g c =
    let new = c.ready_all.new.recorders in
    let items = c.self.inside.recorders.items in
    let a : length new ≡ length items = omega (arith, c.ready_all.auto.recorders, ap length c.as_mut_slice.ensures.value) in
    keeps_at g.P.StreamPort.fits g.P.StreamPort.rules g.P.StreamPort.root _ c.args.self.now _ c.self.view_is
    (record {
      terms = refl;
      port = c.ready_all.ensures.ahead;
      labels = ap (map label_of) (kept c.self.inside.recorders.len new items a c.self.inside.recorders.ok.0) ∙ (c.ready_all.ensures.labels ∙ ap (map label_of) c.as_mut_slice.ensures.value);
    })

pub returns-clause-ready : goal.returns-clause-ready
returns-clause-ready g c =
    let new = c.ready_all.new.recorders in
    let items = c.self.inside.recorders.items in
    let a : length new ≡ length items = omega (arith, c.ready_all.auto.recorders, ap length c.as_mut_slice.ensures.value) in
    All-same (λ r. is_ready r ≡ true) _ new (kept c.self.inside.recorders.len new items a c.self.inside.recorders.ok.0) c.ready_all.ensures.ready

pub returns-clause-readied : goal.returns-clause-readied
returns-clause-readied g c = subst (λ v. IsReadied v.bench c.ready_all.new.self) c.self.view_is c.ready_all.ensures.readied

pub returns-clause-tallies : goal.returns-clause-tallies
returns-clause-tallies g c was =
    let new = c.ready_all.new.recorders in
    let items = c.self.inside.recorders.items in
    let a : length new ≡ length items = omega (arith, c.ready_all.auto.recorders, ap length c.as_mut_slice.ensures.value) in
    let tally = Tallies g.P.StreamPort.count g.K.Sink.holds g.K.Sink.faults in
    let old = subst (λ v. All tally v.recorders) (sym c.self.view_is) was in
    All-same tally _ new (kept c.self.inside.recorders.len new items a c.self.inside.recorders.ok.0)
    (c.ready_all.ensures.tallies (All-same tally c.as_mut_slice.result.now items c.as_mut_slice.ensures.value old))

pub returns-clause-books : goal.returns-clause-books
returns-clause-books g c desk works =
    let fits = g.P.StreamPort.fits in
    let rules = g.P.StreamPort.rules in
    let root = g.P.StreamPort.root in
    let w = c.args.self.now in
    let k = returns-clause-keeps g c in
    let sound = subst (λ v. IsSound fits rules g.D.Door.told v.terms v.bench) c.self.view_is c.self.invariant.0 in
    subst (λ t. Works rules root g.P.StreamPort.seen g.D.Link.Link.told g.D.Link.Link.counts g.D.Door.told desk t c.ready_all.new.self) (sym k.terms)
    (readied_works rules root g.P.StreamPort.seen g.D.Link.Link.told g.D.Link.Link.counts g.D.Door.told desk w.terms fits w.bench c.ready_all.new.self sound
    (returns-clause-readied g c) k.port.fixed k.port.roots works)
