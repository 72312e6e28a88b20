use Rattle.stream_registry.proofs.Rooting.{there_by_gate, unlearned_set, splits_once, set_at, mine_kept}
use Rattle.stream_registry.proofs.ways.Ways.call.Goals as goal

pub returns-clause-port : goal.returns-clause-port
returns-clause-port g c = unlearned_set c.args.self.now c.self.inside.places.items c.args.place c.index_mut.result.now c.call.new.self c.self.view_is c.index_mut.ensures.value
    (there_by_gate c.args.self.now c.self.inside.places.items c.args.place c.args.pass.now.gate c.self.view_is c.requires) c.call.ensures.port

pub returns-clause-kin : goal.returns-clause-kin
returns-clause-kin g c = splits_once c.args.self.now c.self.inside.places.items c.args.place c.index_mut.result.now c.call.new.self c.args.pass.now.kin c.call.new.pass.kin c.call.result c.self.view_is c.index_mut.ensures.value
    (there_by_gate c.args.self.now c.self.inside.places.items c.args.place c.args.pass.now.gate c.self.view_is c.requires) c.call.ensures.kin

pub returns-clause-others : goal.returns-clause-others
returns-clause-others g c = (set_at c.args.self.now c.self.inside.places.items c.args.place c.index_mut.result.now c.call.new.self c.self.view_is c.index_mut.ensures.value
    (there_by_gate c.args.self.now c.self.inside.places.items c.args.place c.args.pass.now.gate c.self.view_is c.requires)).others

pub returns-clause-mine : goal.returns-clause-mine
returns-clause-mine g c = mine_kept c.args.self.now c.self.inside.places.items c.args.place c.index_mut.result.now c.call.new.self c.self.view_is c.index_mut.ensures.value
    (there_by_gate c.args.self.now c.self.inside.places.items c.args.place c.args.pass.now.gate c.self.view_is c.requires) c.call.ensures.port
