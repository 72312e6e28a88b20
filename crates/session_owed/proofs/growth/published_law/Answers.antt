use Rattle.session_owed.proofs.Publishing.{published_are}
use Rattle.session_owed.proofs.growth.published_law.Goals as goal

pub returns : goal.returns
returns g c = λ d. published_are d
