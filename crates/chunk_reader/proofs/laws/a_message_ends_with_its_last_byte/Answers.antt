use Rattle.chunk_reader.proofs.Before.{before_last}
use Rattle.chunk_reader.proofs.laws.a_message_ends_with_its_last_byte.Goals as goal

pub returns : goal.returns
returns c = before_last
