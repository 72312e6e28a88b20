use Rattle.std.proofs.Common.{take}
use Rattle.relay_replay.specs.Prints.{AllHold, RecHolds}
use Rattle.relay_replay.proofs.report.recorders_hold.Given as goal

abbrev pub invariant-loop-i : goal.invariant-loop-i
invariant-loop-i l = record { hold : AllHold RecHolds (take l.i l.recorders) l.total }
