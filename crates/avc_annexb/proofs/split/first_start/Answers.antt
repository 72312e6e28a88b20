use Rattle.std.proofs.Common.{◌≡◌, ◌+◌, ◌-◌, length, Some, sym, ap, ◌∙◌, arith, length-drop}
use Rattle.avc_annexb.specs.Split.{start_in}
use Rattle.avc_annexb.specs.Nal.{further}
use Rattle.avc_annexb.proofs.Splits.{skip4, skip1, here, short, goes_on}
use Rattle.avc_annexb.proofs.split.first_start.Goals as goal

pub loop-left-preserved-then-left-gt1 : goal.loop-left-preserved-then-left-gt1
loop-left-preserved-then-left-gt1 c =
    let rest : length c.after-left.result.now + 4 ≡ length c.loop-left.left.now = rw c.after-left.ensures (omega (arith, length-drop 4 c.loop-left.left.now, c.loop-left-test.true)) in
    record {
      short = omega (arith, c.loop-left.invariant.short);
      place = goes_on c.args.bytes.now c.loop-left.left.now c.after-left.result.now 4 c.loop-left.invariant.short rest c.loop-left.invariant.place
          (rw c.after-left.ensures (skip4 c.loop-left.left.now c.loop-left-test.true c.if-left-gt1.true));
    }

pub returns-then-begins : goal.returns-then-begins
returns-then-begins c =
    let at : further (length c.args.bytes.now - length c.loop-left.left.now) (Some 0) ≡ start_in c.args.bytes.now =
    rw (here c.loop-left.left.now c.loop-left-test.true (sym c.begins.ensures ∙ c.if-begins.true)) at c.loop-left.invariant.place in
    ap Some (omega arith) ∙ at

pub loop-left-preserved : goal.loop-left-preserved
loop-left-preserved c =
    let next = c.after-left-else-begins in
    let rest : length next.result.now + 1 ≡ length c.loop-left.left.now = rw next.ensures (omega (arith, length-drop 1 c.loop-left.left.now, c.loop-left-test.true)) in
    record {
      short = omega (arith, c.loop-left.invariant.short);
      place = goes_on c.args.bytes.now c.loop-left.left.now next.result.now 1 c.loop-left.invariant.short rest c.loop-left.invariant.place
          (rw next.ensures (skip1 c.loop-left.left.now c.loop-left-test.true (sym c.begins.ensures ∙ c.if-begins.false)));
    }

pub returns : goal.returns
returns c = rw (short c.loop-left.left.now c.loop-left-test.false) at c.loop-left.invariant.place
