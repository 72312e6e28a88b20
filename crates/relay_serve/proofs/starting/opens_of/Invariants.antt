use Rattle.std.proofs.Common.{◌≡◌, map, take}
use Rattle.relay_serve.specs.Places.{open_of}
use Rattle.relay_serve.proofs.starting.opens_of.Given as goal

abbrev pub invariant-loop-rule : goal.invariant-loop-rule
invariant-loop-rule l = l.opens ≡ map open_of (take l.rule-index l.rules)
