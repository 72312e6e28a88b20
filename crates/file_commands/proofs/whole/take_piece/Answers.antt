use Rattle.std.proofs.Common.{◌∙◌, ◌++◌, List, ℕ, ap, length, length-append, arith, rules}
use Rattle.file_commands.proofs.Pieces.{step_fails, put_fails, step_writes, fed_on, left_after}
use Rattle.file_commands.proofs.whole.take_piece.Goals as goal

pub returns-in_err-used-clause-goes : goal.returns-in_err-used-clause-goes
returns-in_err-used-clause-goes g c = λ before w.
    let C = g.C.Convert in
    let l = c.loop-left in
    let h = step_fails C.gives C.stops c.in_err-used.field-0.0 (C.fed l.file) (C.given l.file) l.left.now (C.fed c.args.file.now ++ c.args.piece.now)
    l.text c.step.new.out before (g.K.Sink.holds l.out) (g.met.C.Convert.reads l.file l.invariant.fits) l.invariant.fed (l.invariant.goes before w)
    c.in_err-used.ensures.err in
    search (rules, h)

pub returns-in_err-put_some-clause-goes : goal.returns-in_err-put_some-clause-goes
returns-in_err-put_some-clause-goes g c = λ before w.
    let C = g.C.Convert in
    let l = c.loop-left in
    let s = c.in_ok-used.ensures.ok in
    let h = put_fails C.gives C.stops c.in_err-put_some.field-0.0 (C.fed c.step.new.self) (C.given c.step.new.self) (left_after l.left.now c.in_ok-used.used)
    (C.fed c.args.file.now ++ c.args.piece.now) c.put_some.new.text before (g.K.Sink.holds c.put_some.new.out)
    (g.met.C.Convert.reads c.step.new.self c.in_ok-used.ensures.fits)
    (fed_on (C.fed l.file) (C.fed c.step.new.self) l.left.now (C.fed c.args.file.now ++ c.args.piece.now) c.in_ok-used.used s.fed_is l.invariant.fed)
    (c.in_err-put_some.ensures.goes (C.given c.step.new.self) before
    (step_writes (C.fed l.file) (C.given l.file) l.left.now c.in_ok-used.used l.text (C.fed c.step.new.self) (C.given c.step.new.self) c.step.new.out before
    (g.K.Sink.holds l.out) s (l.invariant.goes before w))) in
    search (rules, h)

pub loop-left-preserved : goal.loop-left-preserved
loop-left-preserved g c =
    let C = g.C.Convert in
    let l = c.loop-left in
    let s = c.in_ok-used.ensures.ok in
    record {
      fits = c.in_ok-used.ensures.fits;
      fed = fed_on (C.fed l.file) (C.fed c.step.new.self) l.left.now (C.fed c.args.file.now ++ c.args.piece.now) c.in_ok-used.used s.fed_is l.invariant.fed;
      goes = λ before w. c.in_ok-put_some.ensures.goes (C.given c.step.new.self) before
          (step_writes (C.fed l.file) (C.given l.file) l.left.now c.in_ok-used.used l.text (C.fed c.step.new.self) (C.given c.step.new.self) c.step.new.out before
          (g.K.Sink.holds l.out) s (l.invariant.goes before w));
      short = λ _. c.in_ok-put_some.ensures.short;
      faults = c.in_ok-put_some.ensures.faults ∙ l.invariant.faults;
    }

pub step-requires-clause-near : goal.step-requires-clause-near
step-requires-clause-near g c =
    let C = g.C.Convert in
    let l = c.loop-left in
    omega (
      arith,
      ap (λ (x : List ℕ). length x) l.invariant.fed,
      length-append (C.fed l.file) l.left.now,
      length-append (C.fed c.args.file.now) c.args.piece.now,
      c.requires.near,
    )
