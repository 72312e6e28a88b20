use Rattle.std.proofs.Common.{◌≡◌, ◌+◌, drop}
use Rattle.relay_config.specs.Sum.{names_of}
use Rattle.relay_replay.proofs.places.names_of.Given as goal

abbrev pub invariant-loop-rule : goal.invariant-loop-rule
invariant-loop-rule l = l.names + names_of (drop l.rule-index l.opens) ≡ names_of l.opens
