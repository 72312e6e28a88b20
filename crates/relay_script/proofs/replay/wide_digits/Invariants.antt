use Rattle.std.proofs.Common.{◌≡◌, ◌<◌, length}
use Rattle.relay_script.specs.Lines.{digits_from}
use Rattle.relay_script.proofs.replay.wide_digits.Given as goal

abbrev pub invariant-loop-left : goal.invariant-loop-left
invariant-loop-left l = record {
  same : digits_from 0 l.fn.word ≡ digits_from l.value l.left;
  small : l.value < 18446744073709551616;
}

abbrev pub decreases-loop-left : goal.decreases-loop-left
decreases-loop-left l = length l.left
