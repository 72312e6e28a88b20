use Rattle.std.proofs.Common.{arith}
use Rattle.pes_packets.proofs.Bits.{told_fits}
use Rattle.pes_packets.proofs.packet.put_adaptation.Goals as goal

pub overflow_sub-size-3 : goal.overflow_sub-size-3
overflow_sub-size-3 c = omega (arith, told_fits c.args.flags c.args.size c.requires.room (omega arith))
