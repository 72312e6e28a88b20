use Rattle.std.proofs.Common.{refl, ap, sym, ◌∙◌, arith, ◌<◌, length, Some, Option, List, ℕ}
use Rattle.std.proofs.lemmas.Result.{err_from_is_err_and}
use Rattle.amf0_value.specs.Tree.{item, no_items}
use Rattle.rtmp_command.proofs.Hearing.{nothing_more, one_more, first_fails, later_fails}
use Rattle.rtmp_client.specs.declared.known.Known.{Known}
use Rattle.rtmp_client.specs.Known.{behind_first, text_in_brief}
use Rattle.rtmp_client.proofs.known.read.Goals as goal

pub returns-then-body-eq0 : goal.returns-then-body-eq0
returns-then-body-eq0 c = (no_items, nothing_more c.args.body.now c.if-body-eq0.true, refl)

pub returns-in_err-first : goal.returns-in_err-first
returns-in_err-first c =
    let p = err_from_is_err_and c.from_residual.result c.from_residual.ensures.1 in
    let lt : 0 < length c.args.body.now = omega (arith, c.if-body-eq0.false) in
    rw (p.1, p.2) (first_fails c.args.body.now c.in_err-first.field-0.0 lt c.in_err-first.ensures)

pub returns-in_err-known-in-Some : goal.returns-in_err-known-in-Some
returns-in_err-known-in-Some c =
    let p = err_from_is_err_and c.from_residual-in_err-known-in-Some.result c.from_residual-in_err-known-in-Some.ensures.1 in
    let h = c.in_ok-first.ensures in
    rw (p.1, p.2) (later_fails c.args.body.now c.in_ok-first.rest.now h.0 c.in_err-known-in-Some.field-0.0 h.1 c.in_err-known-in-Some.ensures)

pub returns-in_ok-known-in-Some : goal.returns-in_ok-known-in-Some
returns-in_ok-known-in-Some c =
    let h = c.in_ok-first.ensures in
    let m = c.in_ok-known-in-Some.ensures in (
      item h.0 m.0,
      one_more c.args.body.now c.in_ok-first.rest.now h.0 m.0 h.1 m.1,
      ap (λ (x : Known). Some x) m.2 ∙ ap (λ (t : Option (List ℕ)). behind_first t m.0) (sym c.in-Some.is ∙ c.text_in.ensures ∙ ap text_in_brief h.2),
    )

pub returns-in_err-skip_all-in-None : goal.returns-in_err-skip_all-in-None
returns-in_err-skip_all-in-None c =
    let p = err_from_is_err_and c.from_residual-in_err-skip_all-in-None.result c.from_residual-in_err-skip_all-in-None.ensures.1 in
    let h = c.in_ok-first.ensures in
    rw (p.1, p.2) (later_fails c.args.body.now c.in_ok-first.rest.now h.0 c.in_err-skip_all-in-None.field-0.0 h.1 c.in_err-skip_all-in-None.ensures)

pub returns-in_ok-skip_all-in-None : goal.returns-in_ok-skip_all-in-None
returns-in_ok-skip_all-in-None c =
    let h = c.in_ok-first.ensures in
    let m = c.in_ok-skip_all-in-None.ensures in
    (item h.0 m.0, one_more c.args.body.now c.in_ok-first.rest.now h.0 m.0 h.1 m.1, ap (λ (t : Option (List ℕ)). behind_first t m.0) (sym c.in-None.is ∙ c.text_in.ensures ∙ ap text_in_brief h.2))
