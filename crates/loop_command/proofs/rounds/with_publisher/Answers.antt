use Rattle.std.proofs.Common.{false, refl, subst, sym}
use Rattle.loop_command.specs.Rounds.{IsNewRun}
use Rattle.loop_command.specs.declared.rounds.Run.{Run}
use Rattle.loop_command.specs.declared.rounds.Stage.TheVariants.{Giving}
use Rattle.loop_command.proofs.Beginning.{begins_new}
use Rattle.loop_command.proofs.rounds.with_publisher.Goals as goal

pub returns-in-Ok-clause-new : goal.returns-in-Ok-clause-new
returns-in-Ok-clause-new c =
    let r : Run = record {
      port = c.args.port;
      pull = c.args.pull;
      push = c.in-Ok.push;
      tags = c.args.tags;
      stage = Giving;
      begun = false;
      over = false;
      told = 0;
    } in
    subst (λ (x : Run). IsNewRun c.args.tags.items x) (sym c.run_of.ensures)
    (begins_new r c.requires.port c.requires.pull c.in-Ok.ensures.new refl refl refl refl c.requires.tags)
