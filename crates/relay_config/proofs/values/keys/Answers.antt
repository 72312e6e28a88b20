use Rattle.std.proofs.Common.{◌++◌, ◌∷◌, [], ap, ◌∙◌}
use Rattle.relay_config.proofs.Lists.{key_taken, key_passed}
use Rattle.relay_config.proofs.values.keys.Goals as goal
use Rattle.relay_config.proofs.values.keys.Goals.{in-Some+in_ok-kept+in_ok-push, in_default}

pub loop-value-preserved : goal.loop-value-preserved
loop-value-preserved c = elim c.match-as_str.branch [
  | in-Some+in_ok-kept+in_ok-push w ↦
      rw w.keys-is (key_taken c.args.mode c.args.list.now _ c.value-item.result w.in-Some.text.now _ _
      c.loop-value-test.true c.value-item.is w.in-Some.ensures c.loop-value.invariant
      (w.in_ok-push.ensures.items ∙ ap (λ k. c.loop-value.keys.items ++ k ∷ []) w.in_ok-kept.ensures))
  | in_default w ↦
      rw w.keys-is (key_passed c.args.mode c.args.list.now _ c.value-item.result _
      c.loop-value-test.true c.value-item.is w.in_default.ensures c.loop-value.invariant)
]
