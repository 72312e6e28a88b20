use Rattle.std.proofs.Common.{arith}
use Rattle.chunk_writer.specs.Written.{header_with}
use Rattle.chunk_writer.proofs.Spread.{done_more, done_last}
use Rattle.chunk_writer.proofs.chunks.write_payload.Goals as goal

pub loop-left-preserved : goal.loop-left-preserved
loop-left-preserved c =
    done_more (header_with 3 c.args.begun.now) c.args.size c.args.body.now c.args.out.now c.loop-left.out c.loop-left.left.now c.write_full.new.out c.split_at.result.0.now c.split_at.result.1.now
    c.requires.size (omega (arith, c.loop-left-test.true)) c.loop-left.invariant c.in_ok-write_full.ensures.ok c.split_at.ensures.front c.split_at.ensures.back

pub returns-clause-ok : goal.returns-clause-ok
returns-clause-ok c =
    done_last (header_with 3 c.args.begun.now) c.args.size c.args.body.now c.args.out.now c.loop-left.out c.loop-left.left.now c.append.new.self c.append.result
    (omega (arith, c.loop-left-test.false)) c.loop-left.invariant c.append.ensures.ok
