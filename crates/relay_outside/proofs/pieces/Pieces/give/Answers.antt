use Rattle.std.proofs.Common.{◌∙◌, List, ℕ, ap, sym}
use Rattle.relay_outside.specs.Pieces.{nonempty_from}
use Rattle.relay_outside.proofs.PieceLemmas.{none_left, cut_first-none}
use Rattle.relay_outside.proofs.pieces.Pieces.give.Goals as goal

pub returns-in-None-clause-none : goal.returns-in-None-clause-none
returns-in-None-clause-none c =
    let after = c.drop_used-self-inside in
    let none = cut_first-none (λ v. v.items) after.new.queue.items after.result c.in-None.ensures.item.3 in
    let before = ap (λ (l : List (List ℕ)). nonempty_from l) (sym c.self.view_is) in
    (none_left c.args.self.now (before ∙ (sym after.ensures.same ∙ none)), none)
