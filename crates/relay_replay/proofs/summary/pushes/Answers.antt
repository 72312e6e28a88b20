use Rattle.std.proofs.Common.{rules}
use Rattle.relay_replay.proofs.summary.pushes.Goals as goal

pub returns : goal.returns
returns c = search (rules, c.count.ensures.runs, c.filter.ensures.runs)
