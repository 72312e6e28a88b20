use Rattle.std.proofs.Common.{rules, ◌≡◌, ◌++◌}
use Rattle.std.specs.Prelude.{codes}
use Rattle.std.specs.Fmt.{decimal}
use Rattle.relay_replay.specs.Scenes.{start}
use Rattle.relay_soak.specs.Runs.{joining, opening, units}
use Rattle.relay_soak.proofs.Running.{runs_both}
use Rattle.relay_soak.proofs.run.told.Goals as goal

pub returns : goal.returns
returns g c =
    let n = c.args.n in
    let text : c.append-2.new.self ≡ (codes "soak " ++ decimal n ++ codes "\n") ++ c.in_ok-summary.summary = search rules in
    record {
      state = c.units.new.scene;
      run = runs_both opening (joining ++ units n) start c.open.new.scene c.units.new.scene c.in_ok-open.ensures.runs
          (runs_both joining (units n) c.open.new.scene c.join.new.scene c.units.new.scene c.in_ok-writer.ensures.runs c.in_ok-units.ensures.runs);
      sums = c.in_ok-summary.summary;
      summary = c.in_ok-summary.ensures.sums;
      text_is = text;
    }
