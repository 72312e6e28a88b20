use Rattle.std.proofs.Common.{◌≡◌, ◌<◌, Ok, Err, sym, ap, inr, ◌∙◌, arith, length}
use Rattle.std.proofs.lemmas.Bool.Decides.{nat_tests}
use Rattle.std.proofs.lemmas.Result.{err_from_is_err_and}
use Rattle.avc_annexb.specs.Prefixed.{nals_of}
use Rattle.avc_annexb.proofs.Units.{starts, moves, refused, ended, rest_shorter}
use Rattle.avc_annexb.proofs.Prefixes.{again, found}
use Rattle.avc_annexb.proofs.prefixed.nals.Goals as goal

pub loop-left-init : goal.loop-left-init
loop-left-init c = rw c.new-list.ensures.items (starts c.args.size c.args.bytes.now)

pub loop-left-smaller : goal.loop-left-smaller
loop-left-smaller c = rest_shorter _ c.args.size c.len.result c.loop-left.left.now c.in_ok-unit.unit.now c.in_ok-unit.rest.now c.requires c.in_ok-unit.ensures

pub loop-left-preserved : goal.loop-left-preserved
loop-left-preserved c =
    let some : 0 < length c.loop-left.left.now = grind (arith, nat_tests) in
    moves c.args.size c.len.result c.args.bytes.now c.loop-left.left.now c.in_ok-unit.unit.now c.in_ok-unit.rest.now c.loop-left.list.items c.push.new.self.items c.requires
    (c.len.ensures ∙ c.loop-left.list.ok.0) some c.in_ok-unit.ensures (rw (← c.in_ok-from_slice.ensures.items, ← c.from_vec.ensures) c.in_ok-push.ensures.items) c.loop-left.invariant

none : (c : goal.After-drop-list) → nals_of c.args.size c.args.bytes.now ≡ Err c.in_err-unit.field-0.0
none c =
    let some : 0 < length c.loop-left.left.now = grind (arith, nat_tests) in
    refused c.args.size c.len.result c.args.bytes.now c.loop-left.left.now c.loop-left.list.items c.in_err-unit.field-0.0 (c.len.ensures ∙ c.loop-left.list.ok.0) some c.in_err-unit.ensures c.loop-left.invariant

pub returns-in_err-unit-clause-exact : goal.returns-in_err-unit-clause-exact
returns-in_err-unit-clause-exact c = let p = err_from_is_err_and c.from_residual.result c.from_residual.ensures.1 in rw (p.1, p.2) (inr (none c))

pub returns-in_err-unit-clause-only : goal.returns-in_err-unit-clause-only
returns-in_err-unit-clause-only c units is =
    let p = err_from_is_err_and c.from_residual.result c.from_residual.ensures.1 in
    rw (p.1, p.2) (inr (sym (again c.args.size units c.args.bytes.now c.requires is) ∙ none c))

all : (c : goal.After-from_vec-2) → nals_of c.args.size c.args.bytes.now ≡ Ok c.loop-left.list.items
all c = let e : length c.loop-left.left.now ≡ 0 = grind (arith, nat_tests) in ended c.args.size c.args.bytes.now c.loop-left.left.now c.loop-left.list.items e c.loop-left.invariant

pub returns-clause-exact : goal.returns-clause-exact
returns-clause-exact c = all c ∙ ap Ok (sym c.from_vec-2.ensures)

pub returns-clause-found : goal.returns-clause-found
returns-clause-found c = found c.args.size c.args.bytes.now c.from_vec-2.result c.requires (λ i. omega (arith, c.type_inv.bytes i)) (all c ∙ ap Ok (sym c.from_vec-2.ensures))

pub returns-clause-only : goal.returns-clause-only
returns-clause-only c units is = sym (again c.args.size units c.args.bytes.now c.requires is) ∙ all c ∙ ap Ok (sym c.from_vec-2.ensures)
