use Rattle.std.proofs.Common.{rules, arith, ◌≡◌, [], ◌∷◌, ◌++◌, length, length-append, ap, sym, subst}
use Rattle.stream_model.specs.declared.calls.Shape.{Shape}
use Rattle.stream_registry.specs.Names.{no_shape, shape_at}
use Rattle.stream_registry.specs.Roots.{AreTrunks}
use Rattle.stream_registry.specs.Sites.{site, AreNewRoots}
use Rattle.stream_registry.proofs.Placing.{no_roots, root_more}
use Rattle.stream_registry.proofs.Rooting.{trunks_more}
use Rattle.stream_registry.proofs.Shaping.{shape_got}
use Rattle.stream_registry.proofs.shared.new_ways.Goals as goal

pub loop-place-init : goal.loop-place-init
loop-place-init c = record { all = subst (AreNewRoots c.args.shapes.now) (sym c.new-ways.ensures) (no_roots c.args.shapes.now); count = search rules; trunks = subst (λ l. AreTrunks l) (sym c.new-ways.ensures) (λ q l. absurd (omega (arith, l))) }

pub loop-place-preserved : goal.loop-place-preserved
loop-place-preserved c =
    let items : c.add.new.self ≡ c.loop-place.ways ++ c.in_ok-way.way ∷ [] = search rules in
    let here = c.loop-place.place in
    let new = c.in_ok-way.ensures in
    let way : (c.in_ok-way.way.seen ≡ []) × (c.in_ok-way.way.gate.about ≡ site here (shape_at c.args.shapes.now here)) =
    (new.0, subst (λ (s : Shape). c.in_ok-way.way.gate.about ≡ site here s) (sym (shape_got c.args.shapes.now here no_shape (omega arith))) new.2) in
    record {
      all = root_more c.args.shapes.now c.loop-place.ways c.add.new.self c.in_ok-way.way c.loop-place.place c.loop-place.invariant.all c.loop-place.invariant.count way items;
      count = let e = ap length items in let l = length-append c.loop-place.ways (c.in_ok-way.way ∷ []) in let k = c.loop-place.invariant.count in omega arith;
      trunks = trunks_more c.loop-place.ways c.add.new.self c.in_ok-way.way c.loop-place.invariant.trunks new.1 items;
    }
