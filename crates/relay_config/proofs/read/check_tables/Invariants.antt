use Rattle.std.proofs.Common.{◌≡◌, map, drop}
use Rattle.toml.specs.View.{view}
use Rattle.relay_config.specs.Refusals.{tables_refusal}
use Rattle.relay_config.proofs.read.check_tables.Given as goal

abbrev pub invariant-loop-table : goal.invariant-loop-table
invariant-loop-table l = tables_refusal l.rows (map view (drop l.table-index l.tables)) ≡ tables_refusal l.rows (map view l.tables)
