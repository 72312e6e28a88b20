use Rattle.ts_law.proofs.Pes.{are_packets}
use Rattle.ts_law.proofs.laws.a_pes_packet_is_read.Goals as goal

pub returns : goal.returns
returns c = are_packets
