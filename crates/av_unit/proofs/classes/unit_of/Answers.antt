use Rattle.std.proofs.Common.{◌≡◌, ℕ, List, Some, drop, false, subst, sym, rules}
use Rattle.std.specs.Prelude.{codes}
use Rattle.av_unit.specs.Classes.{begins_with_text, class_of, message_type}
use Rattle.av_unit.proofs.Alone.{first, unit_again}
use Rattle.av_unit.proofs.classes.unit_of.Goals as goal

pub returns-clause-again : goal.returns-clause-again
returns-clause-again c no_text =
    let kind = c.in_ok-kind.field-0.kind in
    let b : c.without_front.result ≡ drop c.in_ok-kind.field-0.from c.as_slice.result.now = search rules in
    let has = c.in_ok-kind.ensures.again (λ e. subst (λ (l : List ℕ). begins_with_text (codes "@setDataFrame") l ≡ false) b (no_text e)) in
    unit_again c.args.size c.args.time c.without_front.result kind (subst (λ (l : List ℕ). class_of (message_type kind) l c.args.size ≡ Some (first kind)) (sym b) has)
