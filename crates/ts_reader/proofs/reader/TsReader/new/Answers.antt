use Rattle.ts_reader.proofs.Feeding.{sound_new}
use Rattle.ts_reader.proofs.reader.TsReader.new.Goals as goal

pub invariant_of-result : goal.invariant_of-result
invariant_of-result c = sound_new c.before-2.result c.new.result c.new-2.result c.new-3.result c.before-2.ensures c.new.ensures c.new-2.ensures c.new-3.ensures
