use Rattle.std.proofs.Common.{◌∙◌, List, ℕ, OnOk, ap, subst}
use Rattle.relay_soak.specs.Clients.{first_input}
use Rattle.relay_soak.specs.Runs.{Runs, given}
use Rattle.relay_soak.proofs.run.join_player.Goals as goal

pub returns-clause-runs : goal.returns-clause-runs
returns-clause-runs g c =
    subst (λ (b : List ℕ). OnOk c.give.result (Runs (given c.args.session b) c.args.scene.now c.give.new.scene)) (c.in_ok-bytes.ensures.bytes ∙ ap first_input c.play.ensures.value) c.give.ensures.runs
