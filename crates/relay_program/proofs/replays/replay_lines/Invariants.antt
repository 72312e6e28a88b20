use Rattle.std.proofs.Common.{◌≡◌, ◌-◌, ◌^◌, List, ℕ, Some}
use Rattle.relay_program.specs.ReplayParts.{Fit, Ahead}
use Rattle.relay_program.proofs.replays.replay_lines.Given as goal

abbrev pub invariant-loop-count : goal.invariant-loop-count
invariant-loop-count g l = record {
  fit : Fit l.replay;
  ahead : (text : List ℕ) → g.S.Source.left l.fn.script ≡ Some text → Ahead l.replay (g.S.Source.left l.script) text;
  source : g.S.Source.faults l.script ≡ g.S.Source.faults l.fn.script;
}

abbrev pub decreases-loop-count : goal.decreases-loop-count
decreases-loop-count g l = 2 ^ 28 - l.replay.place
