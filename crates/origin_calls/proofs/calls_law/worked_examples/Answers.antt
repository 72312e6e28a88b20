use Rattle.std.proofs.Common.{refl}
use Rattle.av_unit.specs.Classes.{class_of, table_class, unit_from}
use Rattle.av_unit.specs.Disposable.{firsts_in, firsts_of, is_disposable, unit_front}
use Rattle.origin_calls.specs.Calls.{edge_calls}
use Rattle.origin_calls.proofs.calls_law.worked_examples.Goals as goal

pub returns-clause-whole : goal.returns-clause-whole
unfolding edge_calls unit_from class_of table_class is_disposable firsts_of firsts_in unit_front
returns-clause-whole c = refl

pub returns-clause-late : goal.returns-clause-late
unfolding edge_calls unit_from class_of table_class is_disposable firsts_of firsts_in unit_front
returns-clause-late c = refl

pub returns-clause-again : goal.returns-clause-again
unfolding edge_calls unit_from class_of table_class is_disposable firsts_of firsts_in unit_front
returns-clause-again c = refl

pub returns-clause-idle : goal.returns-clause-idle
unfolding edge_calls unit_from class_of table_class is_disposable firsts_of firsts_in unit_front
returns-clause-idle c = refl

pub returns-clause-after : goal.returns-clause-after
unfolding edge_calls unit_from class_of table_class is_disposable firsts_of firsts_in unit_front
returns-clause-after c = refl

pub returns-clause-nothing : goal.returns-clause-nothing
unfolding edge_calls unit_from class_of table_class is_disposable firsts_of firsts_in unit_front
returns-clause-nothing c = refl

pub returns-clause-spared : goal.returns-clause-spared
unfolding edge_calls unit_from class_of table_class is_disposable firsts_of firsts_in unit_front
returns-clause-spared c = refl
