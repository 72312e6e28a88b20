use Rattle.std.proofs.Common.{◌≡◌, ◌∙◌, ap, arith}
use Rattle.stream_registry.specs.Books.{sole_rules}
use Rattle.stream_registry.specs.Names.{places}
use Rattle.loop_command.specs.Course.{skips_in}
use Rattle.loop_command.proofs.ending.has_skipped.Goals as goal

pub returns : goal.returns
returns c = c.are_skipped.ensures ∙ ap skips_in c.journal.ensures

pub journal-requires : goal.journal-requires
journal-requires c = let e : places (sole_rules c.args.run.now.port.rules) ≡ 1 = ap places c.requires in omega (arith, e)
