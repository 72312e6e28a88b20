use Rattle.std.proofs.Common.{length}
use Rattle.stream_model.specs.Shape.{pool_shape}
use Rattle.stream_core.proofs.pool.Pool.history_law.Goals as goal

pub returns-clause-viewers : goal.returns-clause-viewers
returns-clause-viewers c =
    let p = c.self.inside in
    rw (← c.self.view_is) (c.tables_law.ensures (pool_shape p.limits (length p.slots.items)) p.past c.self.invariant.lawful)
