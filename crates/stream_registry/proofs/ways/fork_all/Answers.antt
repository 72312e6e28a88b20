use Rattle.std.proofs.Common.{rules, ◌≡◌, [], length, ap, sym, subst}
use Rattle.stream_registry.proofs.Rooting.{Forking, forks_first, forks_more, forks_so_far, forks_not, forks_all, length_cut, cut_as, shoot_as, kept_as}
use Rattle.stream_registry.proofs.ways.fork_all.Goals as goal

pub loop-i-init : goal.loop-i-init
loop-i-init g c = let none : c.new-list.result.items ≡ [] = search rules in subst (λ l. Forking c.args.places.now c.args.places.now l 0) (sym none) (forks_first c.args.places.now)

pub loop-i-preserved : goal.loop-i-preserved
loop-i-preserved g c =
    forks_more c.args.places.now c.loop-i.places c.loop-i.list.items c.push.new.self.items c.loop-i.i c.index-places-i.result c.fork.new.self c.in_ok-place.place
    c.loop-i.invariant (search rules) c.index-places-i.is (cut_as _ _ _ c.index-places-i.is c.in_ok-place.ensures.same c.in_ok-place.ensures.fork.1) (shoot_as _ _ _ c.index-places-i.is c.in_ok-place.ensures.fork.0) (search rules)

pub returns-in_err-place-clause-same : goal.returns-in_err-place-clause-same
returns-in_err-place-clause-same g c =
    forks_not c.args.places.now c.loop-i.places c.loop-i.list.items c.loop-i.i c.index-places-i.result c.fork.new.self
    c.loop-i.invariant c.index-places-i.is (search rules) (kept_as _ _ _ c.index-places-i.is c.in_err-place.ensures.same)

pub returns-then-is_err-clause-same : goal.returns-then-is_err-clause-same
returns-then-is_err-clause-same g c =
    forks_not c.args.places.now c.loop-i.places c.loop-i.list.items c.loop-i.i c.index-places-i.result c.fork.new.self
    c.loop-i.invariant c.index-places-i.is (search rules) (kept_as _ _ _ c.index-places-i.is c.in_ok-place.ensures.same)

pub returns-clause-fork : goal.returns-clause-fork
returns-clause-fork g c =
    let same = ap length c.loop-i.invariant.places_are in let l = length_cut c.args.places.now c.loop-i.i in
    forks_all c.args.places.now c.loop-i.places c.loop-i.list.items c.loop-i.i c.loop-i.invariant (search rules)

pub returns-clause-same : goal.returns-clause-same
returns-clause-same g c = forks_so_far c.args.places.now c.loop-i.places c.loop-i.list.items c.loop-i.i c.loop-i.invariant
