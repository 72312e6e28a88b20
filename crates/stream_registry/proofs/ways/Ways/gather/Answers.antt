use Rattle.std.proofs.Common.{rules, subst}
use Rattle.stream_registry.proofs.Rooting.{gathered, gathered_kin, gathered_longest, gathered_mine}
use Rattle.stream_registry.specs.Roots.{AreOwnAll}
use Rattle.stream_registry.proofs.ways.Ways.gather.Goals as goal

pub returns-clause-grown : goal.returns-clause-grown
returns-clause-grown g c = (gathered c.as_mut_slice.result.now c.self.inside.places.items c.gather_all.new.places c.other.inside.places.items c.args.self.now c.args.other c.self.inside.places.len (search rules) (search rules) c.self.view_is c.other.view_is c.gather_all.ensures.grown c.gather_all.ensures.later c.requires).0

pub returns-clause-later : goal.returns-clause-later
returns-clause-later g c = (gathered c.as_mut_slice.result.now c.self.inside.places.items c.gather_all.new.places c.other.inside.places.items c.args.self.now c.args.other c.self.inside.places.len (search rules) (search rules) c.self.view_is c.other.view_is c.gather_all.ensures.grown c.gather_all.ensures.later c.requires).1

pub returns-clause-kin : goal.returns-clause-kin
returns-clause-kin g c = gathered_kin c.as_mut_slice.result.now c.self.inside.places.items c.gather_all.new.places c.other.inside.places.items c.args.self.now c.args.other c.self.inside.places.len (search rules) (search rules) c.self.view_is c.other.view_is c.gather_all.ensures.grown c.gather_all.ensures.kin

pub returns-clause-longest : goal.returns-clause-longest
returns-clause-longest g c = gathered_longest c.as_mut_slice.result.now c.self.inside.places.items c.gather_all.new.places c.other.inside.places.items c.args.self.now c.args.other c.self.inside.places.len (search rules) (search rules) c.self.view_is c.other.view_is c.gather_all.ensures.grown c.gather_all.ensures.longest

pub returns-clause-mine : goal.returns-clause-mine
returns-clause-mine g c = (gathered_mine c.as_mut_slice.result.now c.self.inside.places.items c.gather_all.new.places c.other.inside.places.items c.args.self.now c.args.other c.self.inside.places.len (search rules) (search rules) c.self.view_is c.other.view_is c.gather_all.ensures.grown c.gather_all.ensures.mine c.gather_all.ensures.whole).0

pub returns-clause-whole : goal.returns-clause-whole
returns-clause-whole g c = (gathered_mine c.as_mut_slice.result.now c.self.inside.places.items c.gather_all.new.places c.other.inside.places.items c.args.self.now c.args.other c.self.inside.places.len (search rules) (search rules) c.self.view_is c.other.view_is c.gather_all.ensures.grown c.gather_all.ensures.mine c.gather_all.ensures.whole).1

pub returns-clause-own : goal.returns-clause-own
returns-clause-own g c = (
  subst (λ l. AreOwnAll l) (search rules) c.gather_all.ensures.own.0,
  subst (λ l. AreOwnAll l) c.other.view_is c.gather_all.ensures.own.1,
)
