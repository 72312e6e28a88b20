use Rattle.std.proofs.Common.{◌≡◌, ◌++◌, drop, map}
use Rattle.relay_replay.specs.Scenes.{name_of}
use Rattle.relay_replay.proofs.places.name_list.Given as goal

abbrev pub invariant-loop-rule : goal.invariant-loop-rule
invariant-loop-rule l = l.names ++ map name_of (drop l.rule-index l.streams) ≡ map name_of l.streams
