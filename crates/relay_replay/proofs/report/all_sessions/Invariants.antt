use Rattle.std.proofs.Common.{◌≡◌, ◌++◌, ◌+◌, length}
use Rattle.relay_replay.specs.Prints.{sessions_text}
use Rattle.relay_replay.proofs.report.all_sessions.Given as goal

abbrev pub invariant-loop-left : goal.invariant-loop-left
invariant-loop-left l = record {
  same : l.out ++ sessions_text l.n l.left ≡ l.fn.out ++ sessions_text 0 l.fn.sessions;
  count : l.n + length l.left ≡ length l.fn.sessions;
}

abbrev pub decreases-loop-left : goal.decreases-loop-left
decreases-loop-left l = length l.left
