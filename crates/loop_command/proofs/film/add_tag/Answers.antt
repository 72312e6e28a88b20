use Rattle.std.proofs.Common.{arith}
use Rattle.loop_command.proofs.film.add_tag.Goals as goal

pub returns-then-bytes-gt-MOST_BYTES : goal.returns-then-bytes-gt-MOST_BYTES
returns-then-bytes-gt-MOST_BYTES c = (omega arith, omega (arith, c.if-bytes-gt-MOST_BYTES.true, c.len.ensures))

pub returns : goal.returns
returns c = (c.in-Ok.ensures.items, omega (arith, c.len.ensures), omega (arith, c.if-bytes-gt-MOST_BYTES.false, c.len.ensures))
