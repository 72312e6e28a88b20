use Rattle.std.proofs.Common.{◌≡◌, subst, sym, slice_set}
use Rattle.turn_gate.specs.Histories.{Begins}
use Rattle.stream_registry.specs.Roots.{seen_at}
use Rattle.stream_registry.proofs.Rooting.{detaches, here_longer, seen_set_else, there_by_gate, takes_in, owns_more, own_at}
use Rattle.stream_registry.proofs.ways.Ways.detach.Goals as goal

pub returns-clause-grown : goal.returns-clause-grown
returns-clause-grown g c = (detaches c.args.self.now c.self.inside.places.items c.args.place c.args.pass.gate c.index_mut.result.now c.detach.new.self c.self.view_is c.requires c.index_mut.ensures.value c.detach.ensures.stays.0).0

pub returns-clause-seen : goal.returns-clause-seen
returns-clause-seen g c =
    let d = detaches c.args.self.now c.self.inside.places.items c.args.place c.args.pass.gate c.index_mut.result.now c.detach.new.self c.self.view_is c.requires c.index_mut.ensures.value c.detach.ensures.stays.0 in
    subst (λ l. Begins c.args.pass.seen l) (sym d.1) c.detach.ensures.stays.1

pub returns-clause-longer : goal.returns-clause-longer
returns-clause-longer g c = here_longer c.args.self.now c.self.inside.places.items c.args.place c.args.pass.gate c.index_mut.result.now c.detach.new.self c.args.pass.seen c.self.view_is c.requires c.index_mut.ensures.value c.detach.ensures.longer

pub returns-clause-others : goal.returns-clause-others
returns-clause-others g c = λ q d. subst (λ l. seen_at (slice_set c.self.inside.places.items c.args.place c.detach.new.self) q ≡ seen_at l q) c.self.view_is (seen_set_else c.self.inside.places.items c.args.place c.detach.new.self q d)

pub returns-clause-kin : goal.returns-clause-kin
returns-clause-kin g c = takes_in c.args.self.now c.self.inside.places.items c.args.place c.index_mut.result.now c.detach.new.self c.args.pass.kin c.self.view_is c.index_mut.ensures.value
    (there_by_gate c.args.self.now c.self.inside.places.items c.args.place c.args.pass.gate c.self.view_is c.requires) c.detach.ensures.kin

pub returns-clause-mine : goal.returns-clause-mine
returns-clause-mine g c = (owns_more c.args.self.now c.self.inside.places.items c.args.place c.index_mut.result.now c.detach.new.self c.args.pass.mine c.self.view_is c.index_mut.ensures.value
    (there_by_gate c.args.self.now c.self.inside.places.items c.args.place c.args.pass.gate c.self.view_is c.requires) c.detach.ensures.mine c.detach.ensures.whole).0

pub returns-clause-whole : goal.returns-clause-whole
returns-clause-whole g c = (owns_more c.args.self.now c.self.inside.places.items c.args.place c.index_mut.result.now c.detach.new.self c.args.pass.mine c.self.view_is c.index_mut.ensures.value
    (there_by_gate c.args.self.now c.self.inside.places.items c.args.place c.args.pass.gate c.self.view_is c.requires) c.detach.ensures.mine c.detach.ensures.whole).1

pub returns-clause-own : goal.returns-clause-own
returns-clause-own g c = (
  own_at c.args.self.now c.self.inside.places.items c.args.place c.index_mut.result.now c.self.view_is c.index_mut.ensures.value
      (there_by_gate c.args.self.now c.self.inside.places.items c.args.place c.args.pass.gate c.self.view_is c.requires) c.detach.ensures.own.0,
  c.detach.ensures.own.1,
)
