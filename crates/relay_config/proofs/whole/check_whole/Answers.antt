use Rattle.std.proofs.Common.{sym, arith}
use Rattle.relay_config.proofs.Lawful.{few_opens}
use Rattle.relay_config.proofs.whole.check_whole.Goals as goal

pub twice_of-requires-clause-opens : goal.twice_of-requires-clause-opens
twice_of-requires-clause-opens c =
    few_opens c.args.config.now.opens _ c.requires.rooms (sym (rw c.as_slice-opens.ensures at c.if-not-fit.ensures)) (omega arith)
