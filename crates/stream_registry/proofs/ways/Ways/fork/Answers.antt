use Rattle.std.proofs.Common.{rules}
use Rattle.stream_registry.proofs.Rooting.{forked, forked_kin}
use Rattle.stream_registry.proofs.ways.Ways.fork.Goals as goal

pub returns-in_err-places-clause-same : goal.returns-in_err-places-clause-same
returns-in_err-places-clause-same g c = forked c.as_mut_slice.result.now c.self.inside.places.items c.fork_all.new.places c.args.self.now c.self.inside.places.len (search rules) (search rules) c.self.view_is c.in_err-places.ensures.same

pub returns-clause-same : goal.returns-clause-same
returns-clause-same g c = forked c.as_mut_slice.result.now c.self.inside.places.items c.fork_all.new.places c.args.self.now c.self.inside.places.len (search rules) (search rules) c.self.view_is c.in_ok-places.ensures.same

pub returns-clause-fork : goal.returns-clause-fork
returns-clause-fork g c = forked_kin c.as_mut_slice.result.now c.self.inside.places.items c.fork_all.new.places c.args.self.now c.in_ok-places.places.items c.self.inside.places.len (search rules) (search rules) c.self.view_is c.in_ok-places.ensures.same c.in_ok-places.ensures.fork
