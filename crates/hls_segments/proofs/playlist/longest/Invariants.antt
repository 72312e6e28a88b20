use Rattle.std.proofs.Common.{◌≡◌, ◌≤◌, ◌++◌, length}
use Rattle.std.specs.Prelude.{max, option_to_list}
use Rattle.hls_segments.specs.Playlist.{target}
use Rattle.hls_segments.proofs.playlist.longest.Given as goal

abbrev pub invariant-loop-left : goal.invariant-loop-left
invariant-loop-left l = record {
  some : 1 ≤ l.most;
  greatest : max l.most (target l.left) ≡ target (l.fn.spans ++ option_to_list l.fn.last);
}

abbrev pub decreases-loop-left : goal.decreases-loop-left
decreases-loop-left l = length l.left
