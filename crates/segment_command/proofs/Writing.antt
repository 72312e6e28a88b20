-- What is written of a text
use Rattle.std.proofs.Common.{List, ℕ, Option}
use Rattle.put_text.specs.Written.{WritesPart}
use Rattle.put_text.proofs.Writing.{nothing_written}

pub no_part_put : (text : List ℕ) (before : Option (List ℕ)) → WritesPart text before before
no_part_put text before = (text, nothing_written text before)
