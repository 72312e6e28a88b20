use Rattle.std.proofs.Common.{◌∙◌, ◌++◌, List, ℕ, ap, subst}
use Rattle.relay_soak.specs.Clients.{first_input, publish}
use Rattle.relay_soak.specs.Runs.{Runs, given, plays}
use Rattle.relay_soak.proofs.Running.{runs_both}
use Rattle.relay_soak.proofs.run.join.Goals as goal

pub returns-clause-runs : goal.returns-clause-runs
returns-clause-runs g c =
    let a = c.give.new.scene in
    let b = c.join_player.new.scene in
    let d = c.join_player-2.new.scene in
    let e = c.join_player-3.new.scene in
    let first = subst (λ (l : List ℕ). Runs (given 0 l) c.args.scene.now a) (c.in_ok-bytes.ensures.bytes ∙ ap first_input c.publish.ensures.value) c.in_ok-give.ensures.runs in
    runs_both (given 0 (first_input publish)) (plays 1 ++ (plays 2 ++ plays 3)) c.args.scene.now a e first
    (runs_both (plays 1) (plays 2 ++ plays 3) a b e c.in_ok-join_player.ensures.runs (runs_both (plays 2) (plays 3) b d e c.in_ok-join_player-2.ensures.runs c.in_ok-join_player-3.ensures.runs))
