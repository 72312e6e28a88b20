use Rattle.chunk_reader.proofs.Sounds.{sound_new}
use Rattle.chunk_reader.proofs.reader.Reader.new.Goals as goal

pub invariant_of-result : goal.invariant_of-result
invariant_of-result c = sound_new c.fresh.result c.new.result c.new-2.result c.fresh.ensures.size c.fresh.ensures.slots c.fresh.ensures.head c.fresh.ensures.need c.fresh.ensures.held c.new.ensures c.new-2.ensures
