use Rattle.std.proofs.Common.{refl, sym, ◌∙◌}
use Rattle.ts_writer.proofs.Keeping.{first_version, same_version, next_version}
use Rattle.ts_writer.proofs.ahead.Ahead.version_of.Goals as goal

pub returns-in-None : goal.returns-in-None
returns-in-None c ps is = first_version c.args.self c.args.streams ps c.in-None.is is

pub returns-then-is : goal.returns-then-is
returns-then-is c ps is = same_version c.args.self c.args.streams c.in-Some.last ps c.in-Some.is (sym c.is.ensures ∙ c.if-is.true) is

pub returns-else-is : goal.returns-else-is
returns-else-is c ps is = next_version c.args.self c.args.streams c.in-Some.last _ ps c.in-Some.is (sym c.is.ensures ∙ c.if-is.false) refl is
