use Rattle.origin_calls.proofs.Alone.{are_granted, are_items}
use Rattle.origin_calls.proofs.Relaying.{comes, inter_relayed}
use Rattle.origin_calls.proofs.relayed.relayed_law.Goals as goal

pub returns-clause-items : goal.returns-clause-items
returns-clause-items c = are_items

pub returns-clause-granted : goal.returns-clause-granted
returns-clause-granted c = are_granted

pub returns-clause-units : goal.returns-clause-units
returns-clause-units c = comes

pub returns-clause-inters : goal.returns-clause-inters
returns-clause-inters c = inter_relayed
