use Rattle.std.proofs.Common.{length}
use Rattle.chunk_writer.specs.Written.{header_with}
use Rattle.chunk_writer.proofs.Spread.{Done}
use Rattle.chunk_writer.proofs.chunks.write_payload.Given as goal

abbrev pub invariant-loop-left : goal.invariant-loop-left
invariant-loop-left l = Done (header_with 3 l.fn.begun) l.fn.size l.fn.body l.fn.out l.out l.left

abbrev pub decreases-loop-left : goal.decreases-loop-left
decreases-loop-left l = length l.left
