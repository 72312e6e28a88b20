use Rattle.std.proofs.Common.{◌≡◌, map, take}
use Rattle.toml.specs.View.{view}
use Rattle.relay_config.specs.Values.{keys_of_texts}
use Rattle.relay_config.proofs.values.keys.Given as goal

abbrev pub invariant-loop-value : goal.invariant-loop-value
invariant-loop-value l = l.keys.items ≡ keys_of_texts l.mode (map view (take l.value-index l.list))
