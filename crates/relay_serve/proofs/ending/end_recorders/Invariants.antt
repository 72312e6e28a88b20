use Rattle.std.proofs.Common.{◌≡◌, ◌++◌, ℕ, List, true, length}
use Rattle.std.specs.Prelude.{All, Contains, map, reverse}
use Rattle.relay_worker.specs.Running.{Label, label_of}
use Rattle.stream_registry.specs.Gates.{told_at}
use Rattle.stream_registry.specs.Roots.{Later}
use Rattle.stream_registry.specs.SharedState.{shared_rules}
use Rattle.relay_serve.specs.Recorded.{IsRecorded}
use Rattle.relay_serve.specs.Settling.{TellsMore}
use Rattle.relay_serve.specs.Starts.{HasTally, IsFiledBy}
use Rattle.relay_serve.proofs.ending.end_recorders.Given as goal

abbrev pub invariant-loop-recorder : goal.invariant-loop-recorder
invariant-loop-recorder g l = record {
  filed : All (IsFiledBy (shared_rules l.fn.port)) l.recorders.items;
  tallies : All (HasTally g.H.File.Sink.holds g.H.File.Sink.faults) l.recorders.items;
  rules : shared_rules l.port ≡ shared_rules l.fn.port;
  grown : Later (told_at l.fn.port.roots) (told_at l.port.roots);
  faults : (g.H.House.told l.house).faults ≡ (g.H.House.told l.fn.house).faults;
  asked : g.H.House.asked l.house ≡ g.H.House.asked l.fn.house;
  named : g.H.House.named l.house ≡ g.H.House.named l.fn.house;
  shut : (g.H.House.told l.house).shut ≡ (g.H.House.told l.fn.house).shut;
  noted : (q : ℕ) → Contains l.fn.full.items q → Contains l.full.items q;
  done : List Label;
  left : done ++ map label_of (reverse l.recorders.items) ≡ map label_of l.fn.recorders.items;
  kept : l.whole ≡ true → TellsMore (IsRecorded (shared_rules l.fn.port).limits (told_at l.fn.port.roots) (told_at l.port.roots) (Contains l.full.items) l.places) done
      (g.H.House.told l.fn.house).kept (g.H.House.told l.house).kept;
}

abbrev pub decreases-loop-recorder : goal.decreases-loop-recorder
decreases-loop-recorder g l = length l.recorders.items
