use Rattle.std.proofs.Common.{rules, ◌∙◌, ◌<◌, ℕ, List, length, sym, subst, Option}
use Rattle.std.specs.Prelude.{Contains}
use Rattle.stream_registry.specs.Names.{PortRules}
use Rattle.stream_registry.specs.Roots.{seen_at}
use Rattle.stream_registry.specs.SharedState.{shared_rules}
use Rattle.relay_serve.specs.declared.counting.Counts.{Counts}
use Rattle.relay_serve.specs.Lasts.{AllEnd, EndsIf, IsWorn}
use Rattle.relay_serve.proofs.Counted.{all_more, told_then, worn_more}
use Rattle.relay_serve.proofs.counting.count_all.Goals as goal

pub returns-in_err-counts-clause-grown : goal.returns-in_err-counts-clause-grown
returns-in_err-counts-clause-grown g c =
    told_then c.args.port.now.roots c.loop-place.port.roots c.count_as_found.new.port.roots c.loop-place.place
    c.loop-place.invariant.grown c.count_as_found.ensures.grown c.count_as_found.ensures.others

pub returns-then-is_err-clause-grown : goal.returns-then-is_err-clause-grown
returns-then-is_err-clause-grown g c =
    told_then c.args.port.now.roots c.loop-place.port.roots c.count_as_found.new.port.roots c.loop-place.place
    c.loop-place.invariant.grown c.count_as_found.ensures.grown c.count_as_found.ensures.others

pub loop-place-preserved : goal.loop-place-preserved
loop-place-preserved g c =
    let i = c.loop-place.invariant in
    let xs = c.loop-place.list.items in
    let ks = seen_at c.count_as_found.new.port.roots in
    let limits = (shared_rules c.args.port.now).limits in
    let pushed = rw c.if-is_err.ensures.negation at c.push.ensures.items in
    let ends : EndsIf (limits (length xs)) c.in_ok-counts.counts (ks (length xs)) =
    subst (λ (n : ℕ). EndsIf (limits n) c.in_ok-counts.counts (ks n)) (sym i.each)
    (subst (λ (q : PortRules). EndsIf (q.limits c.loop-place.place) c.in_ok-counts.counts (ks c.loop-place.place)) i.rules c.in_ok-counts.ensures.last) in
    record {
      each = search rules;
      rules = c.count_as_found.ensures.rules ∙ i.rules;
      last = subst (λ (l : List (Option Counts)). AllEnd limits l ks) (sym pushed)
          (all_more limits xs c.in_ok-counts.counts (seen_at c.loop-place.port.roots) ks i.last ends (λ q n. c.count_as_found.ensures.others q (λ e. n (e ∙ sym i.each))));
      worn = λ q l h. subst (λ (m : List (Option Counts)). IsWorn m q) (sym pushed)
          (worn_more (Contains c.args.full.now) xs c.in_ok-counts.counts i.worn
          (λ t. c.in_ok-counts.ensures.worn (subst (Contains c.args.full.now) i.each t)) q (subst (λ (m : List (Option Counts)). q < length m) pushed l) h);
      grown = told_then c.args.port.now.roots c.loop-place.port.roots c.count_as_found.new.port.roots c.loop-place.place
          i.grown c.count_as_found.ensures.grown c.count_as_found.ensures.others;
    }
