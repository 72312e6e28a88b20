use Rattle.std.proofs.Common.{◌≡◌}
use Rattle.relay_worker.specs.Running.{label_of}
use Rattle.stream_registry.specs.Gates.{told_at}
use Rattle.stream_registry.specs.Roots.{Later}
use Rattle.stream_registry.specs.SharedState.{shared_rules}
use Rattle.relay_serve.specs.Starts.{HasTally, IsFiledBy}
use Rattle.relay_serve.proofs.ending.settle.Given as goal

abbrev pub invariant-loop : goal.invariant-loop
invariant-loop g l =
    record {
      more : (goal.iterator-loop g).can_next l.iterator';
      finite : (goal.iterator-loop g).is_finite l.iterator';
      filed : IsFiledBy (shared_rules l.fn.port) l.recorder;
      tally : HasTally g.K.Sink.holds g.K.Sink.faults l.recorder;
      label : label_of l.recorder ≡ label_of l.fn.recorder;
      rules : shared_rules l.port ≡ shared_rules l.fn.port;
      grown : Later (told_at l.fn.port.roots) (told_at l.port.roots);
    }
