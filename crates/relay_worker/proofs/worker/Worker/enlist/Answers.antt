use Rattle.std.proofs.Common.{◌≡◌, [], ◌∷◌, ◌++◌, length, rules, subst, sym}
use Rattle.std.proofs.lemmas.List.Elements.{All-push, All-same}
use Rattle.relay_worker.specs.Benches.{IsFiled}
use Rattle.relay_worker.proofs.worker.Worker.enlist.Goals as goal

pub invariant_of-self : goal.invariant_of-self
invariant_of-self g c =
    let items = c.self.inside.recorders.items in
    let y = c.self.inside.bench.port in
    let e : c.push.new.self.items ≡ items = search rules in
    (c.self.invariant.0, All-same (IsFiled (g.P.StreamPort.fits y) (length (g.P.StreamPort.rules y).names)) c.push.new.self.items items e c.self.invariant.1)

pub invariant_of-self-2 : goal.invariant_of-self-2
invariant_of-self-2 g c =
    let items = c.self.inside.recorders.items in
    let y = c.self.inside.bench.port in
    let e : c.push.new.self.items ≡ items ++ c.args.recorder ∷ [] = search rules in (
      c.self.invariant.0,
      All-same (IsFiled (g.P.StreamPort.fits y) (length (g.P.StreamPort.rules y).names)) c.push.new.self.items (items ++ c.args.recorder ∷ []) e
          (All-push (IsFiled (g.P.StreamPort.fits y) (length (g.P.StreamPort.rules y).names)) items c.args.recorder c.self.invariant.1
          (subst (λ w. IsFiled (g.P.StreamPort.fits w.bench.port) (length (g.P.StreamPort.rules w.bench.port).names) c.args.recorder) (sym c.self.view_is) c.requires)),
    )
