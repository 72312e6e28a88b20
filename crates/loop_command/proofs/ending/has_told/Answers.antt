use Rattle.std.proofs.Common.{◌∙◌, ap, List, nat_le}
use Rattle.loop_command.specs.Course.{sent_in}
use Rattle.stream_registry.specs.Told.{Step}
use Rattle.std.proofs.Common.{◌≡◌, arith}
use Rattle.stream_registry.specs.Books.{sole_rules}
use Rattle.stream_registry.specs.Names.{places}
use Rattle.loop_command.proofs.ending.has_told.Goals as goal

pub returns : goal.returns
returns c = c.are_told.ensures ∙ ap (λ (l : List Step). nat_le (sent_in l) c.args.run.now.told) c.journal.ensures

pub journal-requires : goal.journal-requires
journal-requires c = let e : places (sole_rules c.args.run.now.port.rules) ≡ 1 = ap places c.requires in omega (arith, e)
