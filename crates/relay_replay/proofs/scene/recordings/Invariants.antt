use Rattle.std.proofs.Common.{◌≡◌, All, take}
use Rattle.relay_replay.specs.Scenes.{AreNew}
use Rattle.relay_replay.proofs.scene.recordings.Given as goal

abbrev pub invariant-loop-i : goal.invariant-loop-i
invariant-loop-i l = record {
  made : AreNew 0 (take l.i l.plans) l.list.items;
  longest : All (λ r. r.recorder.tape.longest ≡ l.longest) l.list.items;
}
