use Rattle.std.proofs.Common.{◌≡◌, ◌*◌, ◌-◌, ◌^◌}
use Rattle.std.specs.Prelude.{bit_xor}
use Rattle.pes_packets.specs.Crc.{shifted_by}
use Rattle.pes_packets.proofs.check.step.Given as goal

-- the bits that are left bring the register to where all eight do
abbrev pub invariant-loop : goal.invariant-loop
invariant-loop l = shifted_by (8 - l.counter) l.register ≡ shifted_by 8 (bit_xor l.fn.register (l.fn.byte * 2 ^ 24))
