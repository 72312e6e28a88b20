use Rattle.std.proofs.Common.{◌<◌, length, arith}
use Rattle.relay_program.proofs.Steps.{end_said}
use Rattle.relay_program.proofs.drills.Drilling.finish.Goals as goal

pub returns-clause-ends : goal.returns-clause-ends
returns-clause-ends g c =
    let some : 0 < length c.args.self.now.line = omega (arith, c.if-len-eq0.false, c.len.ensures) in
    end_said c.answer.result c.args.self.now c.answer.new.made (g.K.Sink.holds c.args.out.now) (g.K.Sink.holds c.answer.new.out) c.requires some
    (rw c.as_slice.ensures at c.answer.ensures.says)
