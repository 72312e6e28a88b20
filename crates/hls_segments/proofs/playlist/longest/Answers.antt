use Rattle.std.proofs.Common.{sym, arith}
use Rattle.std.specs.Prelude.{option_to_list}
use Rattle.hls_segments.proofs.Lists.{target_append, target_most}
use Rattle.hls_segments.proofs.playlist.longest.Goals as goal

pub loop-left-init : goal.loop-left-init
loop-left-init c =
    let e = c.longest_last-most.ensures in
    record {
      some = omega (arith, e, target_most (option_to_list c.args.last));
      greatest = rw e (sym (target_append c.args.spans.now (option_to_list c.args.last)));
    }
