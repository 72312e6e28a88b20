use Rattle.std.proofs.Common.{◌≡◌, ◌-◌, ◌^◌, List, ℕ, Some}
use Rattle.relay_program.specs.Parts.{Fit}
use Rattle.relay_program.specs.Ends.{Ahead}
use Rattle.relay_program.proofs.drills.answer_lines.Given as goal

abbrev pub invariant-loop-count : goal.invariant-loop-count
invariant-loop-count g l = record {
  fit : Fit l.drill;
  ahead : (text : List ℕ) → g.S.Source.left l.fn.script ≡ Some text
      → Ahead l.drill (g.S.Source.left l.script) (g.K.Sink.holds l.out) text (g.K.Sink.holds l.fn.out);
  source : g.S.Source.faults l.script ≡ g.S.Source.faults l.fn.script;
  sink : g.K.Sink.faults l.out ≡ g.K.Sink.faults l.fn.out;
}

abbrev pub decreases-loop-count : goal.decreases-loop-count
decreases-loop-count g l = 2 ^ 28 - l.drill.place
