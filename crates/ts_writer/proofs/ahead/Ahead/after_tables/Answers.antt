use Rattle.ts_writer.proofs.Keeping.{tables_are}
use Rattle.ts_writer.proofs.ahead.Ahead.after_tables.Goals as goal

pub returns : goal.returns
returns c ps is =
    tables_are c.args.self c.args.streams c.args.pat c.args.pmt c.args.version ps is c.requires.pat c.requires.pmt (c.requires.version ps is)
