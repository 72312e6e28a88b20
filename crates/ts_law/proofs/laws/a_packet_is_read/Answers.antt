use Rattle.ts_law.proofs.Packets.{packet_back}
use Rattle.ts_law.proofs.laws.a_packet_is_read.Goals as goal

pub returns : goal.returns
returns c = λ pid counter start f b h. packet_back pid counter start f b h.pid_fits h.counter_fits h.some h.fits
