use Rattle.std.proofs.Common.{◌≡◌, ◌++◌, drop, map}
use Rattle.relay_replay.specs.Scenes.{open_name}
use Rattle.relay_replay.proofs.places.table_list.Given as goal

abbrev pub invariant-loop-rule : goal.invariant-loop-rule
invariant-loop-rule l = l.tables ++ map open_name (drop l.rule-index l.opens) ≡ map open_name l.opens
