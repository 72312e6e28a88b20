use Rattle.std.proofs.Common.{rules, refl}
use Rattle.turn_gate.specs.Branches.{cut_off}
use Rattle.stream_registry.proofs.Rooting.{splits_off, newcomer_at, mine_kept, split_as}
use Rattle.stream_registry.proofs.ways.Ways.attach.Goals as goal

pub returns-clause-new : goal.returns-clause-new
returns-clause-new g c = newcomer_at c.args.self.now c.self.inside.places.items c.args.place c.index_mut.result.now c.attach.new.self c.attach.result c.self.view_is c.index_mut.ensures.value (search rules) (search rules)

pub returns-clause-same : goal.returns-clause-same
returns-clause-same g c = (splits_off c.args.self.now c.self.inside.places.items c.args.place c.index_mut.result.now c.attach.new.self c.self.view_is c.index_mut.ensures.value (search rules) (search rules)).0

pub returns-clause-kin : goal.returns-clause-kin
returns-clause-kin g c = (splits_off c.args.self.now c.self.inside.places.items c.args.place c.index_mut.result.now c.attach.new.self c.self.view_is c.index_mut.ensures.value (search rules) (search rules)).1

pub returns-clause-mine : goal.returns-clause-mine
returns-clause-mine g c = mine_kept c.args.self.now c.self.inside.places.items c.args.place c.index_mut.result.now c.attach.new.self c.self.view_is c.index_mut.ensures.value (search rules) (split_as c.index_mut.result.now c.index_mut.result.now c.attach.new.self (cut_off c.index_mut.result.now.kin) refl c.attach.ensures.same)
