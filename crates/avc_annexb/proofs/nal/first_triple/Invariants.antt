use Rattle.std.proofs.Common.{◌≡◌, ◌-◌, ◌≤◌, length}
use Rattle.avc_annexb.specs.Nal.{triple_in, further}
use Rattle.avc_annexb.proofs.nal.first_triple.Given as goal

-- what is left has the place, if there is one
abbrev pub invariant-loop-left : goal.invariant-loop-left
invariant-loop-left l = record {
  short : length l.left ≤ length l.bytes;
  place : further (length l.bytes - length l.left) (triple_in l.left) ≡ triple_in l.bytes;
}

abbrev pub decreases-loop-left : goal.decreases-loop-left
decreases-loop-left l = length l.left
