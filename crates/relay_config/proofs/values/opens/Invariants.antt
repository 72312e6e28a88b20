use Rattle.std.proofs.Common.{◌≡◌, map, take}
use Rattle.toml.specs.View.{view}
use Rattle.relay_config.specs.Values.{open_of}
use Rattle.relay_config.proofs.values.opens.Given as goal

abbrev pub invariant-loop-table : goal.invariant-loop-table
invariant-loop-table l = l.opens.items ≡ map (λ v. open_of (view v)) (take l.table-index l.tables)
