use Rattle.std.proofs.Common.{ap, ◌∙◌, length, subst}
use Rattle.config_desk.specs.Grants.{granted_from}
use Rattle.relay_replay.specs.Cast.{TurnOf}
use Rattle.relay_replay.specs.Scenes.{Sits}
use Rattle.relay_replay.proofs.Keep.{each_more}
use Rattle.relay_replay.proofs.cast.Cast.each_session.Goals as goal

pub loop-n-preserved : goal.loop-n-preserved
loop-n-preserved g c =
    let list = c.args.desk.now.list.now in
    let opens = c.args.desk.now.opens.now in
    let one = c.in_ok-turn.ensures in
    let before = c.loop-n.invariant in
    record {
      sits = subst (λ k. Sits list opens k c.turn.new.self) before.files one.sits;
      count = one.count ∙ before.count;
      files = ap length one.turn.recorders ∙ before.files;
      turns = each_more c.loop-n.n (TurnOf (granted_from 0 list opens)) c.args.self.now c.loop-n.self c.turn.new.self before.turns
          (c.in_ok-turn.field-0, one.turn);
    }
