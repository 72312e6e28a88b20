use Rattle.relay_config.proofs.Lists.{list_of_all}
use Rattle.relay_config.specs.Forms.{is_key}
use Rattle.relay_config.proofs.forms.are_keys.Goals as goal

pub returns-then-is_array : goal.returns-then-is_array
returns-then-is_array c = list_of_all (is_key c.args.digest) _ _ _ c.if-is_array.ensures c.elements.ensures c.all_keys.ensures
