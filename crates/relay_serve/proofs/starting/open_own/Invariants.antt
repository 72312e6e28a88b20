use Rattle.std.proofs.Common.{◌≡◌, ◌+◌, ◌++◌, length}
use Rattle.std.specs.Prelude.{All, map}
use Rattle.relay_worker.specs.Running.{label_of}
use Rattle.relay_serve.specs.Recordings.{names_from, names_of, own_from, recordings_of, with_names}
use Rattle.relay_serve.specs.Starts.{HasTally}
use Rattle.relay_serve.proofs.starting.open_own.Given as goal

abbrev pub invariant-loop-left : goal.invariant-loop-left
invariant-loop-left g l = record {
  at : l.place + length l.left ≡ length l.config.places;
  bench : l.worker.bench ≡ l.fn.worker.bench;
  terms : l.worker.terms ≡ l.fn.worker.terms;
  labels : map label_of l.worker.recorders ++ own_from l.config.limits.max_message l.config.workers l.number l.place l.left
      ≡ map label_of l.fn.worker.recorders ++ recordings_of l.config l.number;
  tallies : All (HasTally g.H.File.Sink.holds g.H.File.Sink.faults) l.fn.worker.recorders → All (HasTally g.H.File.Sink.holds g.H.File.Sink.faults) l.worker.recorders;
  house : g.H.House.told l.house ≡ g.H.House.told l.fn.house;
  asked : g.H.House.asked l.house ≡ g.H.House.asked l.fn.house;
  named : with_names (g.H.House.named l.house) (names_from l.config.workers l.number l.place l.left) ≡ with_names (g.H.House.named l.fn.house) (names_of l.config l.number);
}

abbrev pub decreases-loop-left : goal.decreases-loop-left
decreases-loop-left g l = length l.left
