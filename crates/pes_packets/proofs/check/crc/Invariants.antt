use Rattle.std.proofs.Common.{◌≡◌, drop}
use Rattle.pes_packets.specs.Crc.{crc_from, crc_of}
use Rattle.pes_packets.proofs.check.crc.Given as goal

abbrev pub invariant-loop-byte : goal.invariant-loop-byte
invariant-loop-byte l = crc_from l.register (drop l.byte-index l.bytes) ≡ crc_of l.bytes
