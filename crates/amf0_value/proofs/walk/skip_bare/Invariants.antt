use Rattle.std.proofs.Common.{◌≤◌, ◌-◌}
use Rattle.amf0_value.specs.Brief.{HasBare}
use Rattle.amf0_value.proofs.walk.skip_bare.Given as goal

-- so many values of one byte stand before what is left
abbrev pub invariant-loop-count : goal.invariant-loop-count
invariant-loop-count l = record {
  most : l.count ≤ l.most;
  values : HasBare l.count l.bytes l.rest;
}

abbrev pub decreases-loop-count : goal.decreases-loop-count
decreases-loop-count l = l.most - l.count
