use Rattle.std.proofs.Common.{◌≡◌, ◌+◌, ℕ, List, Ok, sym, ap, inr, ◌∙◌, length}
use Rattle.std.proofs.lemmas.Result.{err_from_is_err_and}
use Rattle.avc_annexb.proofs.Sets.{counts_more, counts_refused, counts_ended}
use Rattle.avc_annexb.proofs.avcc.sets.Goals as goal

pub returns-in_err-unit-clause-exact : goal.returns-in_err-unit-clause-exact
returns-in_err-unit-clause-exact c =
    let p = err_from_is_err_and c.from_residual.result c.from_residual.ensures.1 in
    let at : c.args.nal + c.len.result ≡ c.args.nal + length c.loop.list.items = ap (λ (n : ℕ). c.args.nal + n) (c.len.ensures ∙ c.loop.list.ok.0) in
    rw (p.1, p.2) (inr (counts_refused c.args.count c.args.total c.args.nal c.loop.counter (c.args.nal + c.len.result) c.args.bytes.now c.loop.left.now c.loop.list.items
    c.in_err-unit.field-0.0 c.loop-test.true at c.in_err-unit.ensures c.loop.invariant))

pub loop-preserved : goal.loop-preserved
loop-preserved c =
    let at : c.args.nal + c.len.result ≡ c.args.nal + length c.loop.list.items = ap (λ (n : ℕ). c.args.nal + n) (c.len.ensures ∙ c.loop.list.ok.0) in
    counts_more c.args.count c.args.total c.args.nal c.loop.counter (c.args.nal + c.len.result) c.args.bytes.now c.loop.left.now c.in_ok-unit.unit.now c.in_ok-unit.rest.now c.loop.list.items
    c.push.new.self.items c.loop-test.true at c.in_ok-unit.ensures (rw (← c.in_ok-from_slice.ensures.items, ← c.from_vec.ensures) c.in_ok-push.ensures.items) c.loop.invariant

pub returns-clause-exact : goal.returns-clause-exact
returns-clause-exact c =
    counts_ended c.args.count c.args.total c.args.nal c.loop.counter c.args.bytes.now c.loop.left.now c.loop.list.items c.loop-test.false c.loop.invariant
    ∙ ap (λ (t : List (List ℕ)). Ok (t, c.loop.left.now)) (sym c.from_vec-2.ensures)
