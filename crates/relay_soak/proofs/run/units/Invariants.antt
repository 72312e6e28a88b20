use Rattle.std.proofs.Common.{◌≡◌}
use Rattle.relay_replay.specs.Scenes.{IsSound}
use Rattle.relay_soak.specs.Runs.{Runs, units}
use Rattle.relay_soak.specs.Units.{before}
use Rattle.relay_soak.proofs.run.units.Given as goal

abbrev pub invariant-loop-i : goal.invariant-loop-i
invariant-loop-i g l = record {
  sound : IsSound l.scene;
  runs : Runs (units l.i) l.fn.scene l.scene;
  places : l.scene.places ≡ l.fn.scene.places;
  writer : l.writer ≡ before l.i;
}
