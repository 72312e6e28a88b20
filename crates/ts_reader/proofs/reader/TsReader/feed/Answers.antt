use Rattle.std.proofs.Common.{◌∙◌, sym, arith, length-drop}
use Rattle.ts_reader.proofs.Feeding.{feed_all, feed_ends, feed_goes, feed_refused, rest_is}
use Rattle.ts_reader.proofs.reader.TsReader.feed.Goals as goal

pub returns-in-Err-clause-err : goal.returns-in-Err-clause-err
returns-in-Err-clause-err c = λ _.
    let r = rw (rest_is c.args.piece.now c.loop-used.used) at c.in-Err.ensures.err in
    feed_refused c.args.self.now c.loop-used.self c.advance.new.self c.args.piece.now c.loop-used.used c.in-Err.fail c.loop-used.invariant.within
    c.loop-used.invariant.now r

pub loop-used-preserved : goal.loop-used-preserved
loop-used-preserved c =
    let t = rw (rest_is c.args.piece.now c.loop-used.used) at c.in-Ok.ensures.ok in
    record {
      within = (let n = t.within in omega (arith, n, length-drop c.loop-used.used c.args.piece.now, c.loop-used.invariant.within));
      lives = c.loop-used.invariant.lives;
      now = feed_goes c.args.self.now c.loop-used.self c.advance.new.self c.args.piece.now c.loop-used.used c.in-Ok.field-0.used c.in-Ok.field-0.unit
          c.loop-used.invariant.now t (sym c.is_some.ensures ∙ c.if-is_some.false);
      read = t.read;
    }

pub returns-then-is_some-clause-ok : goal.returns-then-is_some-clause-ok
returns-then-is_some-clause-ok c = λ _.
    let t = rw (rest_is c.args.piece.now c.loop-used.used) at c.in-Ok.ensures.ok in
    feed_ends c.args.self.now c.loop-used.self c.advance.new.self c.args.piece.now c.loop-used.used c.in-Ok.field-0.used c.in-Ok.field-0.unit
    c.loop-used.invariant.within c.loop-used.invariant.now t (sym c.is_some.ensures ∙ c.if-is_some.true)

pub returns-clause-ok : goal.returns-clause-ok
returns-clause-ok c = λ _. feed_all c.args.self.now c.loop-used.self c.args.piece.now c.loop-used.used
    (omega arith) c.loop-used.invariant.within c.loop-used.invariant.now c.loop-used.invariant.read
