use Rattle.std.proofs.Common.{◌≡◌, ◌-◌, length, Some, sym, ap, ◌∙◌, arith, length-drop}
use Rattle.std.proofs.lemmas.Bool.Decides.{nat_tests}
use Rattle.avc_annexb.specs.Nal.{triple_in, further}
use Rattle.avc_annexb.proofs.Triples.{here, steps, ends}
use Rattle.avc_annexb.proofs.nal.first_triple.Goals as goal

pub returns-then-begins_triple-clause-value : goal.returns-then-begins_triple-clause-value
returns-then-begins_triple-clause-value c =
    let at : further (length c.args.bytes.now - length c.loop-left.left.now) (Some 0) ≡ triple_in c.args.bytes.now =
    rw (here c.loop-left.left.now (sym c.begins_triple.ensures ∙ c.if-begins_triple.true)) at c.loop-left.invariant.place in
    ap Some (omega arith) ∙ at

pub loop-left-preserved : goal.loop-left-preserved
loop-left-preserved c =
    let next = c.from_zero-left-in-loop-left in
    record {
      short = omega (arith, c.loop-left.invariant.short, next.ensures.within, ap length c.after.ensures, length-drop 1 c.loop-left.left.now);
      place = steps c.args.bytes.now c.loop-left.left.now c.after.result.now next.result.now c.loop-left.invariant.short c.loop-left.invariant.place
          (sym c.begins_triple.ensures ∙ c.if-begins_triple.false) c.after.ensures next.ensures.within next.ensures.place;
    }

pub returns-clause-value : goal.returns-clause-value
returns-clause-value c =
    let none : length c.loop-left.left.now ≡ 0 = grind (arith, nat_tests) in
    ends c.args.bytes.now c.loop-left.left.now none c.loop-left.invariant.place
