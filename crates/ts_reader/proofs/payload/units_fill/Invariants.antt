use Rattle.std.proofs.Common.{◌≡◌, length}
use Rattle.ts_reader.specs.Payloads.{units_fill}
use Rattle.ts_reader.proofs.payload.units_fill.Given as goal

-- what is left is filled where all is
abbrev pub invariant-loop-left : goal.invariant-loop-left
invariant-loop-left l = units_fill (length l.left) l.left ≡ units_fill (length l.bytes) l.bytes

abbrev pub decreases-loop-left : goal.decreases-loop-left
decreases-loop-left l = length l.left
