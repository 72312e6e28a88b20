use Rattle.std.proofs.Common.{◌≡◌, ◌+◌, ◌++◌, length}
use Rattle.hls_segments.specs.Playlist.{entries}
use Rattle.hls_segments.proofs.playlist.put_entries.Given as goal

abbrev pub invariant-loop-left : goal.invariant-loop-left
invariant-loop-left l = record {
  place : l.number + length l.left ≡ length l.fn.spans;
  text : l.out ++ entries l.fn.name l.number l.left ≡ l.fn.out ++ entries l.fn.name 0 l.fn.spans;
}

abbrev pub decreases-loop-left : goal.decreases-loop-left
decreases-loop-left l = length l.left
