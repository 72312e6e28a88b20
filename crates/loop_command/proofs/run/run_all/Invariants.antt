use Rattle.std.proofs.Common.{◌≡◌, List, ℕ}
use Rattle.std.specs.declared.option.Option.{Option}
use Rattle.flv_tags.specs.declared.tag.Tag.{Tag}
use Rattle.loop_command.specs.Rounds.{IsRun, IsSound, RunsOn}
use Rattle.loop_command.proofs.run.run_all.Given as goal

abbrev pub invariant-loop-left : goal.invariant-loop-left
invariant-loop-left g l = record {
  sound : IsSound l.run;
  goes : (file : List Tag) (held : Option (List ℕ)) → IsRun file l.fn.run held (g.K.Sink.holds l.fn.out)
      → RunsOn file l.fn.run l.run l.fn.rounds l.left held (g.K.Sink.holds l.out);
  faults : g.K.Sink.faults l.out ≡ g.K.Sink.faults l.fn.out;
}

abbrev pub decreases-loop-left : goal.decreases-loop-left
decreases-loop-left g l = l.left
