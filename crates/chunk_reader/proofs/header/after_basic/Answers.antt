use Rattle.std.proofs.Common.{◌≡◌, true, rules, arith}
use Rattle.std.proofs.lemmas.Grind.{common_steps}
use Rattle.chunk_wire.proofs.Sizes.{basic_size_most, head_size_most}
use Rattle.chunk_reader.specs.Core.{the_state}
use Rattle.chunk_reader.specs.Reads.{has_room}
use Rattle.chunk_reader.proofs.Headers.{short_head}
use Rattle.chunk_reader.proofs.header.after_basic.Goals as goal

pub after_head-requires-clause-low : goal.after_head-requires-clause-low
after_head-requires-clause-low c = omega (arith, c.requires.size, basic_size_most c.args.core.now.head.items, c.in-Some.ensures.parts.size, head_size_most c.args.basic.format, c.in-Some.more-is)

pub returns-in-None : goal.returns-in-None
returns-in-None c =
    let room : has_room (the_state c.args.core.now) c.args.core.now.head.items ≡ true = first_of (search rules, grind (arith, common_steps)) in
    let h = c.in-None.ensures.parts in
    short_head (the_state c.args.core.now) c.args.core.now.head.items c.args.basic c.args.size c.requires.is c.requires.size c.requires.there (first_of (search (rules, h), grind (arith, common_steps, h))) room
