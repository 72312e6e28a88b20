use Rattle.std.proofs.Common.{rules}
use Rattle.stream_registry.proofs.Rooting.{gathers_first, gathers_gate_at, gathers_more_at, gathered_all, gathered_own}
use Rattle.stream_registry.proofs.ways.gather_all.Goals as goal

pub loop-other-init : goal.loop-other-init
loop-other-init g c = gathers_first c.args.others.items c.args.places.now

pub gather-requires : goal.gather-requires
gather-requires g c =
    gathers_gate_at c.args.others.items c.loop-other.others.items c.pop.new.self.items c.args.places.now c.loop-other.places c.in-Some.other c.index-places-len.result c.len.result
    c.loop-other.invariant c.requires c.in-Some.ensures.items (search rules)

pub loop-other-preserved : goal.loop-other-preserved
loop-other-preserved g c =
    gathers_more_at c.args.others.items c.loop-other.others.items c.pop.new.self.items c.args.places.now c.loop-other.places c.in-Some.other c.index-places-len.result c.gather.new.self c.len.result
    c.loop-other.invariant c.requires c.in-Some.ensures.items (search rules) c.gather.ensures.stays.0 c.gather.ensures.stays.1 c.gather.ensures.kin c.gather.ensures.longer c.gather.ensures.mine c.gather.ensures.whole c.gather.ensures.own

pub returns-clause-kin : goal.returns-clause-kin
returns-clause-kin g c = record { at_each = λ q. c.loop-other.invariant.taken q (search rules) }

pub returns-clause-longest : goal.returns-clause-longest
returns-clause-longest g c = λ q. c.loop-other.invariant.longest q (search rules)

pub returns-clause-mine : goal.returns-clause-mine
returns-clause-mine g c = (gathered_all c.args.others.items c.loop-other.others.items c.args.places.now c.loop-other.places c.loop-other.invariant c.requires (search rules)).0

pub returns-clause-whole : goal.returns-clause-whole
returns-clause-whole g c = (gathered_all c.args.others.items c.loop-other.others.items c.args.places.now c.loop-other.places c.loop-other.invariant c.requires (search rules)).1

pub returns-clause-own : goal.returns-clause-own
returns-clause-own g c = gathered_own c.args.others.items c.loop-other.others.items c.args.places.now c.loop-other.places c.loop-other.invariant c.requires (search rules)
