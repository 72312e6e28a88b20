use Rattle.ts_writer.proofs.Keeping.{started_is}
use Rattle.ts_writer.proofs.ahead.Ahead.started.Goals as goal

pub returns : goal.returns
returns c ps is = started_is c.args.self ps is
