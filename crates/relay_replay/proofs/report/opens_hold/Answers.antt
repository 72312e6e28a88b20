use Rattle.std.proofs.Common.{rules, ◌≡◌, ◌<◌, ◌+◌, length}
use Rattle.relay_replay.proofs.Totals.{tables_more}
use Rattle.relay_replay.proofs.report.opens_hold.Goals as goal

pub loop-n-preserved : goal.loop-n-preserved
loop-n-preserved c =
    let rules_are = c.args.port.now.rules in
    let streams = c.args.streams in
    let n = c.loop-n.n in
    let there : n < length rules_are.opens = search rules in
    let sum : c.in_ok-total.total ≡ c.loop-n.total + c.held.result = search rules in
    record {
      same = search rules;
      most = tables_more rules_are streams n c.loop-n.total c.held.result c.in_ok-total.total c.requires.streams there sum
          c.loop-n.invariant.most c.held.ensures.most;
    }
