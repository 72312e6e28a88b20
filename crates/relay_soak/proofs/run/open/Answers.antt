use Rattle.std.proofs.Common.{rules, ◌≡◌, List, ℕ, refl, subst}
use Rattle.std.specs.Prelude.{codes}
use Rattle.relay_script.specs.declared.replay.ReplayLine.TheVariants.{Limits, Stream}
use Rattle.relay_replay.specs.Scenes.{Does, SceneState}
use Rattle.relay_soak.proofs.run.open.Goals as goal

pub returns-clause-runs : goal.returns-clause-runs
returns-clause-runs g c =
    let a = c.act.new.scene in
    let b = c.act-2.new.scene in
    let app : c.append.new.self ≡ codes "live" = search rules in
    let name : c.append-2.new.self ≡ codes "soak" = search rules in
    let limits = subst (λ (s : SceneState). Does (Limits 4096 1048576 4096 4 2500000) s a) c.requires.begins c.in_ok-act.ensures.does in
    let stream = subst (λ (l : List ℕ). Does (Stream l (codes "soak")) a b) app (subst (λ (l : List ℕ). Does (Stream c.append.new.self l) a b) name c.in_ok-act-2.ensures.does) in
    (a, (limits, (b, (stream, (c.act-3.new.scene, (c.in_ok-act-3.ensures.does, (c.act-4.new.scene, (c.in_ok-act-4.ensures.does, (c.act-5.new.scene, (c.in_ok-act-5.ensures.does, (c.act-6.new.scene, (c.in_ok-act-6.ensures.does, refl))))))))))))
