use Rattle.command_dialog.proofs.Rules.{is_busy, busy_refused, no_name_refused, guard_refused, in_use_refused, full_refused, no_slot_refused}
use Rattle.command_dialog.proofs.laws.the_first_refusal_is_told.Goals as goal

pub returns : goal.returns
returns c = record { active = is_busy; busy = busy_refused; no_name = no_name_refused; guard = guard_refused; in_use = in_use_refused; full = full_refused; no_slot = no_slot_refused }
