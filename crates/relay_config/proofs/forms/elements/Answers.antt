use Rattle.std.proofs.Common.{rules}
use Rattle.relay_config.proofs.Lists.{elements_are}
use Rattle.relay_config.proofs.forms.elements.Goals as goal

pub returns-in-Some : goal.returns-in-Some
returns-in-Some c = elements_are _ _ (search (rules, c.in-Some.ensures, c.as_slice.ensures.value))
