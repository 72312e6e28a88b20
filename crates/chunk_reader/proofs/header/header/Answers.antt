use Rattle.std.proofs.Common.{rules, arith}
use Rattle.std.proofs.lemmas.Grind.{common_steps}
use Rattle.chunk_reader.specs.Core.{the_state}
use Rattle.chunk_reader.proofs.Headers.{short_basic}
use Rattle.chunk_reader.proofs.header.header.Goals as goal

pub returns-in-None : goal.returns-in-None
returns-in-None c =
    let h = c.in-None.ensures.parts in
    short_basic (the_state c.args.core.now) c.args.core.now.head.items (first_of (search (rules, h), grind (arith, common_steps, h)))
