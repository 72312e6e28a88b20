use Rattle.std.proofs.Common.{arith}
use Rattle.chunk_reader.proofs.Heads.{payload_err}
use Rattle.chunk_reader.proofs.take.payload.Goals as goal

pub returns-in-Ok-pass-clause-ok : goal.returns-in-Ok-pass-clause-ok
returns-in-Ok-pass-clause-ok c = record {
  mid = c.append.new.core;
  fed = c.in-Ok.ensures.fed;
  within = omega arith;
  passed = c.in-Ok-pass.ensures.ok;
}

pub returns-in-Err-pass-clause-err : goal.returns-in-Err-pass-clause-err
returns-in-Err-pass-clause-err c = payload_err c.args.core.now c.args.piece.now c.append.new.core c.in-Err-pass.cause c.in-Ok.ensures.fed (omega arith) c.requires.some c.in-Err-pass.ensures.err
