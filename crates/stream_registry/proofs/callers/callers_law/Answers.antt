use Rattle.stream_registry.proofs.Owning.{all_theirs, born_are_its, made_none}
use Rattle.stream_registry.proofs.callers.callers_law.Goals as goal

pub returns-clause-theirs : goal.returns-clause-theirs
returns-clause-theirs c = all_theirs

pub returns-clause-its : goal.returns-clause-its
returns-clause-its c = born_are_its

pub returns-clause-fresh : goal.returns-clause-fresh
returns-clause-fresh c = made_none
