use Rattle.chunk_writer.proofs.writer.Writer.begin.Goals as goal

pub invariant_of-self-2 : goal.invariant_of-self-2
invariant_of-self-2 c = rw c.add.ensures (record {
  some = c.self.invariant.some;
  lasts_are = c.in_ok-keep.ensures.ok c.self.inside.said c.self.invariant.lasts_are;
})
