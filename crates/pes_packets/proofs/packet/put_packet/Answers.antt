use Rattle.std.proofs.Common.{arith}
use Rattle.pes_packets.proofs.Bits.{room_most}
use Rattle.pes_packets.proofs.packet.put_packet.Goals as goal

pub overflow_sub-size : goal.overflow_sub-size
overflow_sub-size c = omega (arith, room_most c.args.flags)
