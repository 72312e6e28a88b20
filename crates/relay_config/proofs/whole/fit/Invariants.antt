use Rattle.std.proofs.Common.{◌≡◌, drop, nat_le}
use Rattle.relay_config.specs.Sum.{names_of}
use Rattle.relay_config.proofs.whole.fit.Given as goal

abbrev pub invariant-loop-rule : goal.invariant-loop-rule
invariant-loop-rule l = nat_le (names_of (drop l.rule-index l.opens)) l.left ≡ nat_le (names_of l.opens) l.room
