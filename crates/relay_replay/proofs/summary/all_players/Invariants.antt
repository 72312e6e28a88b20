use Rattle.std.proofs.Common.{◌≡◌, ◌++◌, ◌+◌, length}
use Rattle.relay_replay.specs.Sums.{players_text}
use Rattle.relay_replay.proofs.summary.all_players.Given as goal

abbrev pub invariant-loop-left : goal.invariant-loop-left
invariant-loop-left l = record {
  same : l.out ++ players_text l.n l.calls l.left ≡ l.fn.out ++ players_text 1 l.calls l.fn.sessions;
  count : l.n + length l.left ≡ length l.fn.sessions + 1;
}

abbrev pub decreases-loop-left : goal.decreases-loop-left
decreases-loop-left l = length l.left
