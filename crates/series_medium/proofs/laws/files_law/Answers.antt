use Rattle.series_medium.proofs.Growths.{flv_files, flv_parts, ts_files, ts_parts}
use Rattle.series_medium.proofs.laws.files_law.Goals as goal

pub returns-clause-flv : goal.returns-clause-flv
returns-clause-flv c = flv_files

pub returns-clause-ts : goal.returns-clause-ts
returns-clause-ts c = ts_files

pub returns-clause-flv_part : goal.returns-clause-flv_part
returns-clause-flv_part c = flv_parts

pub returns-clause-ts_part : goal.returns-clause-ts_part
returns-clause-ts_part c = ts_parts
