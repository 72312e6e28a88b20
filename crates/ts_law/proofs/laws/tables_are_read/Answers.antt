use Rattle.std.proofs.Common.{refl}
use Rattle.ts_law.proofs.Tables.{tables_lead}
use Rattle.ts_law.proofs.laws.tables_are_read.Goals as goal

pub returns : goal.returns
returns c = λ n version m v a u h. tables_lead n m.pat m.pmt version m v a u refl h.pat refl h.pmt h.version_fits h.ends
