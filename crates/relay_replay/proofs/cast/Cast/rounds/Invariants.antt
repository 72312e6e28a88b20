use Rattle.std.proofs.Common.{◌≡◌, length}
use Rattle.config_desk.specs.Grants.{granted_from}
use Rattle.relay_replay.specs.Cast.{Round, Times}
use Rattle.relay_replay.specs.Scenes.{Sits}
use Rattle.relay_replay.proofs.cast.Cast.rounds.Given as goal

abbrev pub invariant-loop : goal.invariant-loop
invariant-loop g l = record {
  sits : Sits l.desk.list.now l.desk.opens.now (length l.fn.self.recorders) l.self;
  count : length l.self.sessions ≡ length l.fn.self.sessions;
  files : length l.self.recorders ≡ length l.fn.self.recorders;
  turns : Times l.counter (Round (granted_from 0 l.desk.list.now l.desk.opens.now)) l.fn.self l.self;
}
