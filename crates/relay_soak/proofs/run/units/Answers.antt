use Rattle.std.proofs.Common.{◌∙◌}
use Rattle.relay_soak.proofs.Running.{runs_more}
use Rattle.relay_soak.proofs.run.units.Goals as goal

pub loop-i-preserved : goal.loop-i-preserved
loop-i-preserved g c = record {
  sound = c.in_ok-unit.ensures.sound;
  runs = runs_more c.loop-i.i c.args.scene.now c.loop-i.scene c.unit.new.scene c.loop-i.invariant.runs c.in_ok-unit.ensures.runs;
  places = c.in_ok-unit.ensures.places ∙ c.loop-i.invariant.places;
  writer = c.in_ok-unit.ensures.written;
}
