use Rattle.std.proofs.Common.{◌≡◌, ◌≤◌, ◌+◌, ◌-◌, ℕ, Bool, true, length}
use Rattle.std.specs.List.{range_with_len}
use Rattle.std.specs.Prelude.{All, Contains}
use Rattle.stream_registry.specs.Gates.{told_at}
use Rattle.stream_registry.specs.Roots.{Later}
use Rattle.stream_registry.specs.SharedState.{shared_rules}
use Rattle.relay_worker.specs.Running.{EachAt}
use Rattle.relay_serve.specs.Recorded.{IsRecorded}
use Rattle.relay_serve.specs.Recordings.{recordings_upto}
use Rattle.relay_serve.specs.Settling.{IsBalanced, IsLeft, IsShut, TellsMore}
use Rattle.relay_serve.proofs.ending.end_all.Given as goal

abbrev pub invariant-loop-left : goal.invariant-loop-left
invariant-loop-left g l = record {
  numbered : EachAt (λ i x. x.number + i + 1 ≡ length l.fn.list.items) l.list.items;
  left : All (λ x. IsLeft l.config g.H.File.Sink.holds g.H.File.Sink.faults (shared_rules l.fn.port) x.number (g.H.Door.Door.told x.door) x.recorders.items) l.list.items;
  rules : shared_rules l.port ≡ shared_rules l.fn.port;
  grown : Later (told_at l.fn.port.roots) (told_at l.port.roots);
  faults : (g.H.House.told l.house).faults ≡ (g.H.House.told l.fn.house).faults;
  asked : g.H.House.asked l.house ≡ g.H.House.asked l.fn.house;
  named : g.H.House.named l.house ≡ g.H.House.named l.fn.house;
  noted : (q : ℕ) → Contains l.fn.full.items q → Contains l.full.items q;
  fewer : length l.list.items ≤ length l.fn.list.items;
  rest : (worn : Bool) → All (λ x. IsBalanced l.config (shared_rules l.fn.port).limits (told_at l.fn.port.roots) worn x.number (g.H.Door.Door.told x.door)) l.fn.list.items
      → All (λ x. IsBalanced l.config (shared_rules l.fn.port).limits (told_at l.fn.port.roots) worn x.number (g.H.Door.Door.told x.door)) l.list.items;
  kept : l.whole ≡ true → TellsMore (IsRecorded (shared_rules l.fn.port).limits (told_at l.fn.port.roots) (told_at l.port.roots) (Contains l.full.items) l.config.places)
      (recordings_upto l.config (length l.fn.list.items - length l.list.items)) (g.H.House.told l.fn.house).kept (g.H.House.told l.house).kept;
  shut : l.whole ≡ true → (worn : Bool)
      → All (λ x. IsBalanced l.config (shared_rules l.fn.port).limits (told_at l.fn.port.roots) worn x.number (g.H.Door.Door.told x.door)) l.fn.list.items
      → TellsMore (IsShut l.config (shared_rules l.fn.port).limits (told_at l.fn.port.roots) worn) (range_with_len 0 (length l.fn.list.items - length l.list.items))
      (g.H.House.told l.fn.house).shut (g.H.House.told l.house).shut;
}

abbrev pub decreases-loop-left : goal.decreases-loop-left
decreases-loop-left g l = length l.list.items
