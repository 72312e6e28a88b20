use Rattle.std.proofs.Common.{◌++◌, List, ℕ, subst}
use Rattle.relay_soak.specs.Runs.{Runs, given, turn_if}
use Rattle.relay_soak.specs.Units.{piece}
use Rattle.relay_soak.proofs.Running.{runs_both}
use Rattle.relay_soak.proofs.run.unit.Goals as goal

pub returns-clause-runs : goal.returns-clause-runs
returns-clause-runs g c =
    let i = c.args.i in
    let a = c.give.new.scene in
    let b = c.turn_if.new.scene in
    let d = c.turn_if-2.new.scene in
    let e = c.turn_if-3.new.scene in
    let first = subst (λ (l : List ℕ). Runs (given 0 l) c.args.scene.now a) c.in_ok-bytes.ensures.bytes c.in_ok-give.ensures.runs in
    runs_both (given 0 (piece i)) (turn_if 1 i ++ (turn_if 2 i ++ turn_if 3 i)) c.args.scene.now a e first
    (runs_both (turn_if 1 i) (turn_if 2 i ++ turn_if 3 i) a b e c.in_ok-turn_if.ensures.runs (runs_both (turn_if 2 i) (turn_if 3 i) b d e c.in_ok-turn_if-2.ensures.runs c.in_ok-turn_if-3.ensures.runs))
