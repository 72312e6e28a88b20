use Rattle.chunk_writer.proofs.Going.{after_joined, after_more, written_joined, written_more}
use Rattle.chunk_writer.proofs.laws.writing_goes_on.Goals as goal

pub returns-clause-joined : goal.returns-clause-joined
returns-clause-joined c = written_joined

pub returns-clause-after_joined : goal.returns-clause-after_joined
returns-clause-after_joined c = after_joined

pub returns-clause-bytes : goal.returns-clause-bytes
returns-clause-bytes c = written_more

pub returns-clause-after : goal.returns-clause-after
returns-clause-after c = after_more
