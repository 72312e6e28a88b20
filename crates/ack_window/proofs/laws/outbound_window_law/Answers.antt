use Rattle.ack_window.proofs.Kept.{least_window}
use Rattle.ack_window.proofs.Windows.{set_is, lesser_is, first_is}
use Rattle.ack_window.proofs.laws.outbound_window_law.Goals as goal

pub returns-clause-set : goal.returns-clause-set
returns-clause-set c = set_is

pub returns-clause-lesser : goal.returns-clause-lesser
returns-clause-lesser c = lesser_is

pub returns-clause-first : goal.returns-clause-first
returns-clause-first c = first_is

pub returns-clause-least : goal.returns-clause-least
returns-clause-least c = least_window
