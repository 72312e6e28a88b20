use Rattle.std.proofs.Common.{sym, ap, ◌∙◌}
use Rattle.pes_packets.specs.Crc.{shifted_by}
use Rattle.pes_packets.proofs.Register.{one_bit, no_bit}
use Rattle.pes_packets.proofs.check.step.Goals as goal

pub loop-preserved : goal.loop-preserved
loop-preserved c = ap (shifted_by _) c.shift-register.ensures ∙ sym (one_bit c.loop.counter c.loop.register c.loop-test.true) ∙ c.loop.invariant

pub returns : goal.returns
returns c = sym (no_bit c.loop.counter c.loop.register c.loop-test.false) ∙ c.loop.invariant
