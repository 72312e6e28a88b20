use Rattle.std.proofs.Common.{◌≡◌, ◌<◌, Ok, Err, sym, ap, inr, ◌∙◌, arith, length}
use Rattle.std.proofs.lemmas.Bool.Decides.{nat_tests}
use Rattle.std.proofs.lemmas.Result.{err_from_is_err_and}
use Rattle.avc_annexb.specs.Split.{split_of}
use Rattle.avc_annexb.proofs.Splits.{starts, moves, refused, ended, rest_shorter, again, found}
use Rattle.avc_annexb.proofs.split.split_annexb.Goals as goal

pub loop-left-init : goal.loop-left-init
loop-left-init c = rw c.new-list.ensures.items (starts c.args.bytes.now)

pub loop-left-smaller : goal.loop-left-smaller
loop-left-smaller c = rest_shorter _ c.len.result c.loop-left.left.now c.in_ok-unit.unit.now c.in_ok-unit.rest.now c.in_ok-unit.ensures

pub loop-left-preserved : goal.loop-left-preserved
loop-left-preserved c =
    let some : 0 < length c.loop-left.left.now = grind (arith, nat_tests) in
    moves c.len.result c.args.bytes.now c.loop-left.left.now c.in_ok-unit.unit.now c.in_ok-unit.rest.now c.loop-left.list.items c.push.new.self.items
    (c.len.ensures ∙ c.loop-left.list.ok.0) some c.in_ok-unit.ensures (rw (← c.in_ok-from_slice.ensures.items, ← c.from_vec.ensures) c.in_ok-push.ensures.items) c.loop-left.invariant

none : (c : goal.After-drop-list) → split_of c.args.bytes.now ≡ Err c.in_err-unit.field-0.0
none c =
    let some : 0 < length c.loop-left.left.now = grind (arith, nat_tests) in
    refused c.len.result c.args.bytes.now c.loop-left.left.now c.loop-left.list.items c.in_err-unit.field-0.0 (c.len.ensures ∙ c.loop-left.list.ok.0) some c.in_err-unit.ensures c.loop-left.invariant

pub returns-in_err-unit-clause-exact : goal.returns-in_err-unit-clause-exact
returns-in_err-unit-clause-exact c = let p = err_from_is_err_and c.from_residual.result c.from_residual.ensures.1 in rw (p.1, p.2) (inr (none c))

pub returns-in_err-unit-clause-only : goal.returns-in_err-unit-clause-only
returns-in_err-unit-clause-only c units all is =
    let p = err_from_is_err_and c.from_residual.result c.from_residual.ensures.1 in
    rw (p.1, p.2) (inr (sym (again units c.args.bytes.now all is) ∙ none c))

all_of : (c : goal.After-from_vec-2) → split_of c.args.bytes.now ≡ Ok c.loop-left.list.items
all_of c = let e : length c.loop-left.left.now ≡ 0 = grind (arith, nat_tests) in ended c.args.bytes.now c.loop-left.left.now c.loop-left.list.items e c.loop-left.invariant

pub returns-clause-exact : goal.returns-clause-exact
returns-clause-exact c = all_of c ∙ ap Ok (sym c.from_vec-2.ensures)

pub returns-clause-found : goal.returns-clause-found
returns-clause-found c = found c.args.bytes.now c.from_vec-2.result (all_of c ∙ ap Ok (sym c.from_vec-2.ensures))

pub returns-clause-only : goal.returns-clause-only
returns-clause-only c units all is = sym (again units c.args.bytes.now all is) ∙ all_of c ∙ ap Ok (sym c.from_vec-2.ensures)
