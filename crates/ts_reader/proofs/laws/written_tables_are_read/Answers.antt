use Rattle.ts_reader.proofs.ReadTables.{pat_read, pmt_read}
use Rattle.ts_reader.proofs.laws.written_tables_are_read.Goals as goal

pub returns-clause-association : goal.returns-clause-association
returns-clause-association c = pat_read

pub returns-clause-map : goal.returns-clause-map
returns-clause-map c = pmt_read
