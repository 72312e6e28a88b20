use Rattle.std.specs.Prelude.{All}
use Rattle.relay_worker.proofs.Numbered.{FirstAre}
use Rattle.relay_worker.specs.Running.{EachAt}
use Rattle.stream_registry.specs.SharedState.{shared_rules}
use Rattle.relay_serve.specs.Settling.{IsServing}
use Rattle.relay_serve.specs.Starts.{AreReady, HasRules}
use Rattle.relay_serve.proofs.serving.ready_all.Given as goal

abbrev pub invariant-loop-worker : goal.invariant-loop-worker
invariant-loop-worker g l = record {
  rules : All (λ x. HasRules (shared_rules l.port) x.bench.port) l.workers;
  serving : EachAt (IsServing l.config g.D.Link.Link.told g.D.Link.Link.counts g.D.Door.told g.K.Sink.holds g.K.Sink.faults) l.workers;
  ready : FirstAre AreReady l.worker-index l.workers;
}
