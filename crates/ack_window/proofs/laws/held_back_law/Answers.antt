use Rattle.ack_window.proofs.Kept.{heard_is, held_after_ack, released}
use Rattle.ack_window.proofs.laws.held_back_law.Goals as goal

pub returns-clause-heard : goal.returns-clause-heard
returns-clause-heard c = heard_is

pub returns-clause-held : goal.returns-clause-held
returns-clause-held c = held_after_ack

pub returns-clause-released : goal.returns-clause-released
returns-clause-released c = released
