use Rattle.std.proofs.Common.{rules, ◌≡◌, ◌∙◌, List, Some, None, false, ap, sym, subst}
use Rattle.command_dialog.specs.declared.types.Ask.{Ask}
use Rattle.command_dialog.specs.declared.types.Grant.{Grant}
use Rattle.relay_config.specs.declared.config.OpenRule.{OpenRule}
use Rattle.relay_config.specs.declared.config.PlaceRule.{PlaceRule}
use Rattle.config_desk.specs.Grants.{granted_from}
use Rattle.relay_replay.specs.Plays.{Plays}
use Rattle.relay_replay.specs.Scenes.{Does, SceneState, desk_of}
use Rattle.relay_replay.proofs.Acting.{acted_does, is_there}
use Rattle.relay_replay.proofs.scene.Scene.play.Goals as goal

pub play-played-requires-clause-there : goal.play-played-requires-clause-there
play-played-requires-clause-there g c = is_there c.args.line c.args.self.now c.in_ok-cast.cast c.requires.allowed c.in_ok-cast.ensures.open
    c.in_ok-cast.ensures.sits

pub returns-clause-does : goal.returns-clause-does
returns-clause-does g c =
    let i = c.self.inside in
    let s = c.args.self.now in
    let before = c.in_ok-cast.cast in
    let now = c.play-played.new.cast in
    let there : SceneState = record { fresh = i.fresh; limits = i.limits; places = i.places; opens = i.opens; recorders = i.recorders.items; cast = None } in
    let same : there ≡ record s { cast = None } = search rules in
    let desk : granted_from 0 c.new-desk.result.list.now c.new-desk.result.opens.now ≡ granted_from 0 i.places i.opens =
    ap (λ (l : List PlaceRule). granted_from 0 l c.new-desk.result.opens.now) c.new-desk.ensures.0
    ∙ ap (λ (l : List OpenRule). granted_from 0 i.places l) c.new-desk.ensures.1 in
    let plays : Plays i.limits (granted_from 0 i.places i.opens) c.args.line before now =
    subst (λ (d : Ask → Grant). Plays i.limits d c.args.line before now) desk c.in_ok-played.ensures.plays in
    let does : Does c.args.line s (record s { fresh = false; cast = Some now }) =
    acted_does c.args.line s before now c.requires.acts c.in_ok-cast.ensures.open
    (subst (λ (x : SceneState). Plays x.limits (desk_of x) c.args.line before now) same plays) c.in_ok-played.ensures.count in
    subst (λ (x : SceneState). Does c.args.line s (record x { fresh = false; cast = Some now })) (sym same) does
