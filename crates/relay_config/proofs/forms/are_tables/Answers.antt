use Rattle.relay_config.proofs.Lists.{list_of_all}
use Rattle.relay_config.proofs.forms.are_tables.Goals as goal

pub returns-then-is_array : goal.returns-then-is_array
returns-then-is_array c = list_of_all _ _ _ _ c.if-is_array.ensures c.elements.ensures c.all_tables.ensures
