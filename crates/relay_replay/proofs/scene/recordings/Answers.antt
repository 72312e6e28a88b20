use Rattle.std.proofs.Common.{◌≡◌, ◌<◌, ◌+◌, ◌++◌, ◌∷◌, [], All, List, length, take, sym, subst, rules}
use Rattle.std.proofs.lemmas.List.Elements.{All-push}
use Rattle.relay_replay.specs.Cast.{RecState}
use Rattle.relay_replay.specs.Scenes.{AreNew}
use Rattle.relay_replay.proofs.New.{more}
use Rattle.relay_replay.proofs.scene.recordings.Goals as goal

pub loop-i-preserved : goal.loop-i-preserved
loop-i-preserved c =
    let r = c.in_ok-recording_at.field-0 in
    let items : c.push.new.self.items ≡ c.loop-i.list.items ++ r ∷ [] = search rules in
    let there : c.loop-i.i < length c.args.plans.now = search rules in
    record {
      made = subst (λ (l : List RecState). AreNew 0 (take (c.loop-i.i + 1) c.args.plans.now) l) (sym items)
          (more c.args.plans.now c.loop-i.i c.loop-i.list.items r there c.loop-i.invariant.made c.in_ok-recording_at.ensures.new);
      longest = subst (λ (l : List RecState). All (λ x. x.recorder.tape.longest ≡ c.args.longest) l) (sym items)
          (All-push (λ (x : RecState). x.recorder.tape.longest ≡ c.args.longest) c.loop-i.list.items r c.loop-i.invariant.longest
          c.in_ok-recording_at.ensures.longest);
    }
