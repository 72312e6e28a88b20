use Rattle.std.proofs.Common.{◌≡◌, ◌+◌, ◌++◌, length}
use Rattle.live_segments.specs.Listing.{lines}
use Rattle.live_segments.proofs.listing.put_rows.Given as goal

abbrev pub invariant-loop-left : goal.invariant-loop-left
invariant-loop-left l = record {
  place : l.number + length l.left ≡ l.fn.first + length l.fn.rows;
  text : l.out ++ lines l.fn.name l.number l.left ≡ l.fn.out ++ lines l.fn.name l.fn.first l.fn.rows;
}

abbrev pub decreases-loop-left : goal.decreases-loop-left
decreases-loop-left l = length l.left
