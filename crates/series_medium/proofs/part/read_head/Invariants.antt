use Rattle.std.proofs.Common.{◌≤◌, ◌-◌, length, take}
use Rattle.series_medium.specs.Reading.{IsDue}
use Rattle.series_medium.specs.Heads.{Leads}
use Rattle.series_medium.proofs.part.read_head.Given as goal

abbrev pub invariant-loop-used : goal.invariant-loop-used
invariant-loop-used l = record {
  within : l.used ≤ length l.piece;
  reads : Leads l.fn.part (take l.used l.piece) l.now;
  due : IsDue l.fn.part → IsDue l.now;
}

abbrev pub decreases-loop-used : goal.decreases-loop-used
decreases-loop-used l = length l.piece - l.used
