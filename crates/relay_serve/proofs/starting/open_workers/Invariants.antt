use Rattle.std.proofs.Common.{◌≡◌, ◌+◌, length}
use Rattle.std.specs.List.{range_with_len}
use Rattle.std.specs.Prelude.{All}
use Rattle.stream_registry.specs.SharedState.{shared_rules}
use Rattle.relay_worker.specs.Running.{EachAt}
use Rattle.relay_serve.specs.Settling.{AsksFor, IsServing, TellsMore}
use Rattle.relay_serve.specs.Recordings.{names_upto, with_names}
use Rattle.relay_serve.specs.Starts.{HasRules}
use Rattle.relay_serve.proofs.starting.open_workers.Given as goal

abbrev pub invariant-loop-port : goal.invariant-loop-port
invariant-loop-port g l = record {
  ports : All (HasRules (shared_rules l.first)) l.ports.items;
  workers : All (λ x. HasRules (shared_rules l.first) x.bench.port) l.workers.items;
  count : length l.workers.items + length l.ports.items ≡ length l.fn.ports.items;
  serving : EachAt (IsServing l.config g.H.Door.Link.Link.told g.H.Door.Link.Link.counts g.H.Door.Door.told g.H.File.Sink.holds g.H.File.Sink.faults) l.workers.items;
  house : g.H.House.told l.house ≡ g.H.House.told l.fn.house;
  asked : TellsMore (AsksFor l.config) (range_with_len 0 (length l.workers.items)) (g.H.House.asked l.fn.house) (g.H.House.asked l.house);
  named : g.H.House.named l.house ≡ with_names (g.H.House.named l.fn.house) (names_upto l.config (length l.workers.items));
}

abbrev pub decreases-loop-port : goal.decreases-loop-port
decreases-loop-port g l = length l.ports.items
