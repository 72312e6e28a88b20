use Rattle.std.proofs.Common.{sym, ap, ◌∙◌, ◌+◌, drop, ℕ}
use Rattle.pes_packets.specs.Crc.{crc_from}
use Rattle.pes_packets.proofs.Register.{one_byte, no_byte}
use Rattle.pes_packets.proofs.check.crc.Goals as goal

pub loop-byte-preserved : goal.loop-byte-preserved
loop-byte-preserved c =
    let i : ℕ = c.loop-byte.byte-index in
    ap (λ (r : ℕ). crc_from r (drop (i + 1) c.args.bytes.now)) c.step-register.ensures ∙ sym (one_byte i c.loop-byte.register c.args.bytes.now c.loop-byte-test.true) ∙ c.loop-byte.invariant

pub returns : goal.returns
returns c = sym (no_byte c.loop-byte.byte-index c.loop-byte.register c.args.bytes.now c.loop-byte-test.false) ∙ c.loop-byte.invariant
