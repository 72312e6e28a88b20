use Rattle.chunk_writer.proofs.Chunked.{all_left, more_left, none_left}
use Rattle.chunk_writer.proofs.laws.chunks_are_those_of_put.Goals as goal

pub returns-clause-all : goal.returns-clause-all
returns-clause-all c = all_left

pub returns-clause-more : goal.returns-clause-more
returns-clause-more c = more_left

pub returns-clause-none : goal.returns-clause-none
returns-clause-none c = none_left
