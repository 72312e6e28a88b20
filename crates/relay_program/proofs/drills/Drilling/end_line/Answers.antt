use Rattle.std.proofs.Common.{◌+◌, ◌≤◌, ◌^◌, refl, arith, rules}
use Rattle.relay_program.specs.declared.drills.Drilling.{Drilling}
use Rattle.relay_program.proofs.Steps.{feed_fails, feed_goes}
use Rattle.relay_program.proofs.drills.Drilling.end_line.Goals as goal

pub returns-in_err-answer-clause-goes : goal.returns-in_err-answer-clause-goes
returns-in_err-answer-clause-goes g c = λ more.
    let near : c.args.self.now.place + 1 ≤ 2 ^ 28 = omega (arith, c.if-self-eq-MOST_BYTES.false, c.requires.place) in
    let h = feed_fails c.in_err-answer.field-0.0 c.args.self.now more (g.K.Sink.holds c.args.out.now) (g.K.Sink.holds c.answer.new.out) near
    (rw c.as_slice.ensures at c.in_err-answer.ensures.says) in
    search (rules, h)

pub returns-clause-goes : goal.returns-clause-goes
returns-clause-goes g c = λ more.
    let near : c.args.self.now.place + 1 ≤ 2 ^ 28 = omega (arith, c.if-self-eq-MOST_BYTES.false, c.requires.place) in
    let new : Drilling = record {
      alloc = c.args.self.now.alloc;
      made = c.answer.new.made;
      line = c.new.result;
      place = c.args.self.now.place + 1;
      number = c.args.self.now.number + 1;
    } in
    feed_goes c.args.self.now new more (g.K.Sink.holds c.args.out.now) (g.K.Sink.holds c.answer.new.out) near c.new.ensures refl refl
    (rw c.as_slice.ensures at c.in_ok-answer.ensures.says)
