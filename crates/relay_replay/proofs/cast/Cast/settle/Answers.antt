use Rattle.std.proofs.Common.{rules, ◌≡◌, true, ap, ◌∙◌, length, subst}
use Rattle.config_desk.specs.Grants.{granted_from}
use Rattle.relay_replay.specs.Cast.{is_moved}
use Rattle.relay_replay.specs.Scenes.{Sits}
use Rattle.relay_replay.proofs.Keep.{moved_more}
use Rattle.relay_replay.proofs.cast.Cast.settle.Goals as goal

pub loop-preserved : goal.loop-preserved
loop-preserved g c =
    let list = c.args.desk.now.list.now in
    let opens = c.args.desk.now.opens.now in
    let one = c.in_ok-answer.ensures in
    let before = c.loop.invariant in
    let moved : is_moved c.in_ok-answer.answer ≡ true = search rules in
    record {
      sits = subst (λ k. Sits list opens k c.turn.new.self) before.files one.sits;
      count = one.count ∙ before.count;
      files = ap length one.turn.recorders ∙ before.files;
      moves = moved_more (granted_from 0 list opens) c.args.n c.loop.counter c.in_ok-answer.answer c.args.self.now c.loop.self c.turn.new.self moved
          before.moves one.turn;
    }
