use Rattle.std.proofs.Common.{map, ap}
use Rattle.toml.specs.View.{view}
use Rattle.relay_config.specs.declared.config.Config.{Config}
use Rattle.relay_config.proofs.Ranges.{in_range}
use Rattle.relay_config.proofs.Lawful.{lawful, rooms}
use Rattle.relay_config.proofs.read.read_whole.Goals as goal

pub check_whole-requires-clause-numbers : goal.check_whole-requires-clause-numbers
check_whole-requires-clause-numbers c =
    in_range (view c.in-Some.relay.now) (map view c.tables_at-streams.result.now) (map view c.tables_at-opens.result.now) c.in_ok-config.config
    (rw c.relay.ensures at c.in_ok-check_table-2.ensures) c.in_ok-config.ensures

pub check_whole-requires-clause-rooms : goal.check_whole-requires-clause-rooms
check_whole-requires-clause-rooms c =
    let get : Config → _ = λ r. r.opens in
    rooms c.in_ok-config.config (map view c.tables_at-opens.result.now) (ap get c.in_ok-config.ensures)
    (rw c.open_table.ensures at c.in_ok-check_tables-2.ensures)

pub returns-clause-lawful : goal.returns-clause-lawful
returns-clause-lawful c =
    let streams = map view c.tables_at-streams.result.now in
    let tables = map view c.tables_at-opens.result.now in
    let numbers = in_range (view c.in-Some.relay.now) streams tables c.in_ok-config.config
    (rw c.relay.ensures at c.in_ok-check_table-2.ensures) c.in_ok-config.ensures in
    let places : Config → _ = λ r. r.places in
    let opens : Config → _ = λ r. r.opens in
    lawful c.in_ok-config.config streams tables (ap places c.in_ok-config.ensures) (ap opens c.in_ok-config.ensures)
    (rw c.stream.ensures at c.in_ok-check_tables.ensures) (rw c.open_table.ensures at c.in_ok-check_tables-2.ensures) numbers
    c.in_ok-check_whole.ensures.tells
