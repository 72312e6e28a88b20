use Rattle.std.proofs.Common.{sym, arith}
use Rattle.amf0_value.proofs.Bare.{bare_push}
use Rattle.amf0_value.proofs.Keys.{first_and_rest}
use Rattle.amf0_value.proofs.walk.skip_bare.Goals as goal

pub loop-count-preserved : goal.loop-count-preserved
loop-count-preserved c = record {
  most = omega (arith, c.loop-count-test.true);
  values = bare_push c.loop-count.count c.args.bytes.now c.loop-count.rest.now _ _ c.loop-count.invariant.values (first_and_rest c.loop-count.rest.now c.in-len1-up.len_at_least) (sym c.if-not-is_bare.ensures);
}
