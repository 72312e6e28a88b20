use Rattle.rtmp_handshake.proofs.Cuts.{read_all, out_all}
use Rattle.rtmp_handshake.proofs.laws.cutting_law.Goals as goal

pub returns-clause-read : goal.returns-clause-read
returns-clause-read c = read_all

pub returns-clause-out : goal.returns-clause-out
returns-clause-out c = out_all
