use Rattle.std.proofs.Common.{rules, ap}
use Rattle.session_owed.specs.Standing.{Past}
use Rattle.relay_session.proofs.ActingTurns.{begin_acts}
use Rattle.relay_session.proofs.Coming.{free_come}
use Rattle.relay_session.proofs.session.Session.new.Goals as goal

pub returns-clause-waits : goal.returns-clause-waits
returns-clause-waits g c = free_come _ _ _ (ap (λ (p : Past). p.kept) c.new_core.ensures.past)

pub returns-clause-acts : goal.returns-clause-acts
returns-clause-acts g c = begin_acts c.new_core.result _ c.new_core.ensures.place c.new_core.ensures.sound (search rules) (search rules)
