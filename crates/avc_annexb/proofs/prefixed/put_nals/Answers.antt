use Rattle.std.proofs.Common.{◌≡◌, ◌<◌, inr, arith, length}
use Rattle.std.proofs.lemmas.Bool.Decides.{nat_tests}
use Rattle.std.proofs.lemmas.Result.{err_from_is_err_and}
use Rattle.avc_annexb.proofs.Units.{rest_shorter}
use Rattle.avc_annexb.proofs.Streams.{puts_start, puts_more, puts_refused, puts_ended}
use Rattle.avc_annexb.proofs.prefixed.put_nals.Goals as goal

pub loop-left-init : goal.loop-left-init
loop-left-init c = puts_start c.args.size c.args.bytes.now c.args.out.now

pub loop-left-smaller : goal.loop-left-smaller
loop-left-smaller c = rest_shorter _ c.args.size c.loop-left.nal c.loop-left.left.now c.in_ok-unit.unit.now c.in_ok-unit.rest.now c.requires c.in_ok-unit.ensures

pub loop-left-preserved : goal.loop-left-preserved
loop-left-preserved c =
    let some : 0 < length c.loop-left.left.now = grind (arith, nat_tests) in
    puts_more c.args.size c.loop-left.nal c.args.bytes.now c.loop-left.left.now c.in_ok-unit.unit.now c.in_ok-unit.rest.now c.args.out.now c.loop-left.out c.put_unless_delimiter.new.out
    c.requires some c.in_ok-unit.ensures c.in_ok-put_unless_delimiter.ensures.ok c.loop-left.invariant

pub returns-in_err-unit-clause-err : goal.returns-in_err-unit-clause-err
returns-in_err-unit-clause-err c =
    let p = err_from_is_err_and c.from_residual.result c.from_residual.ensures.1 in
    let some : 0 < length c.loop-left.left.now = grind (arith, nat_tests) in
    rw (p.1, p.2) (inr (puts_refused c.args.size c.loop-left.nal c.args.bytes.now c.loop-left.left.now c.args.out.now c.loop-left.out c.in_err-unit.field-0.0 some c.in_err-unit.ensures c.loop-left.invariant))

pub returns-clause-ok : goal.returns-clause-ok
returns-clause-ok c =
    let none : length c.loop-left.left.now ≡ 0 = grind (arith, nat_tests) in
    puts_ended c.args.size c.loop-left.nal c.args.bytes.now c.loop-left.left.now c.args.out.now c.loop-left.out none c.loop-left.invariant
