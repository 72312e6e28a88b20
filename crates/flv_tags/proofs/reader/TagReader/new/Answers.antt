use Rattle.flv_tags.proofs.Feeding.{sound_new}
use Rattle.flv_tags.proofs.reader.TagReader.new.Goals as goal

pub invariant_of-result : goal.invariant_of-result
invariant_of-result c = sound_new c.nothing.result c.new.result c.new-2.result c.nothing.ensures.part c.nothing.ensures.none c.new.ensures c.new-2.ensures
