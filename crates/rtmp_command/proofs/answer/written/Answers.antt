use Rattle.rtmp_command.proofs.answer.written.Goals as goal

pub returns-in-Created : goal.returns-in-Created
returns-in-Created c = rw c.in-Created.is c.created.ensures
