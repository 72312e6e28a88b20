use Rattle.std.proofs.Common.{◌≡◌, length}
use Rattle.relay_replay.specs.Cast.{Each, RecTurnOf}
use Rattle.relay_replay.specs.Scenes.{Sits}
use Rattle.relay_replay.proofs.cast.Cast.each_recorder.Given as goal

abbrev pub invariant-loop-n : goal.invariant-loop-n
invariant-loop-n g l = record {
  sits : Sits l.desk.list.now l.desk.opens.now (length l.fn.self.recorders) l.self;
  count : length l.self.sessions ≡ length l.fn.self.sessions;
  files : length l.self.recorders ≡ length l.fn.self.recorders;
  turns : Each l.n RecTurnOf l.fn.self l.self;
}
