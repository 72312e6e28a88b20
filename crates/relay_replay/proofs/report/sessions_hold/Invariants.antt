use Rattle.std.proofs.Common.{take}
use Rattle.relay_replay.specs.Prints.{AllHold, GuestHolds}
use Rattle.relay_replay.proofs.report.sessions_hold.Given as goal

abbrev pub invariant-loop-i : goal.invariant-loop-i
invariant-loop-i l = record { hold : AllHold GuestHolds (take l.i l.sessions) l.total }
