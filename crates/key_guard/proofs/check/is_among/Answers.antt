use Rattle.key_guard.proofs.Found.{found_more}
use Rattle.key_guard.proofs.check.is_among.Goals as goal

pub loop-key-preserved : goal.loop-key-preserved
loop-key-preserved c = found_more _ _ _ _ _ _ _ c.loop-key-test.true c.key-item.is (rw c.as_slice.ensures at c.is_same-found.ensures) c.loop-key.invariant
