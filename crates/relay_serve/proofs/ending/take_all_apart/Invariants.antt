use Rattle.std.proofs.Common.{◌≡◌, ◌≤◌, ◌+◌, false, length}
use Rattle.std.specs.Prelude.{All}
use Rattle.relay_worker.specs.Running.{EachAt, HasRun}
use Rattle.stream_registry.specs.Gates.{told_at}
use Rattle.stream_registry.specs.Roots.{Later}
use Rattle.stream_registry.specs.SharedState.{shared_rules}
use Rattle.relay_serve.specs.Settling.{IsBalanced, IsLeft, IsServing}
use Rattle.relay_serve.specs.Starts.{HasRules}
use Rattle.relay_serve.proofs.ending.take_all_apart.Given as goal

abbrev pub invariant-loop-worker : goal.invariant-loop-worker
invariant-loop-worker g l = record {
  run : All (λ x. HasRun g.D.Door.told x) l.workers.items;
  workers : All (λ x. HasRules (shared_rules l.fn.first) x.bench.port) l.workers.items;
  serving : EachAt (IsServing l.config g.D.Link.Link.told g.D.Link.Link.counts g.D.Door.told g.K.Sink.holds g.K.Sink.faults) l.workers.items;
  few : length l.workers.items ≤ 16;
  rules : shared_rules l.first ≡ shared_rules l.fn.first;
  grown : Later (told_at l.fn.first.roots) (told_at l.first.roots);
  all : length l.list.items + length l.workers.items ≡ length l.fn.workers.items;
  numbered : EachAt (λ i x. x.number + i + 1 ≡ length l.fn.workers.items) l.list.items;
  left : All (λ x. IsLeft l.config g.K.Sink.holds g.K.Sink.faults (shared_rules l.fn.first) x.number (g.D.Door.told x.door) x.recorders.items) l.list.items;
  balanced : l.refused ≡ false
      → All (λ x. IsBalanced l.config (shared_rules l.fn.first).limits (told_at l.first.roots) l.worn x.number (g.D.Door.told x.door)) l.list.items;
}

abbrev pub decreases-loop-worker : goal.decreases-loop-worker
decreases-loop-worker g l = length l.workers.items
