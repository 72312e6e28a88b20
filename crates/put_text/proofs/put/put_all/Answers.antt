use Rattle.std.proofs.Common.{◌∙◌}
use Rattle.put_text.proofs.Writing.{put_more}
use Rattle.put_text.proofs.put.put_all.Goals as goal

pub loop-left-preserved : goal.loop-left-preserved
loop-left-preserved g c = record {
  writes = put_more c.args.text.now c.loop-left.left.now c.in-Took.count (g.K.Sink.holds c.args.out.now) (g.K.Sink.holds c.loop-left.out)
      (g.K.Sink.holds c.put.new.self)
      c.in-Took.ensures.count.1 c.loop-left.invariant.writes c.in-Took.ensures.bytes;
  faults = c.in-Took.ensures.cause ∙ c.loop-left.invariant.faults;
}
