use Rattle.relay_session.specs.declared.end.End.TheVariants as end
use Rattle.relay_session.proofs.Living.{before_filled, on_err, sound_filled}
use Rattle.relay_session.proofs.Stopping.{over_here}
use Rattle.relay_session.proofs.refill.fill.Goals as goal

pub returns-clause-sound : goal.returns-clause-sound
returns-clause-sound c = sound_filled c.args.core.now c.fill.new.self c.requires c.in_ok-fill.ensures.bytes c.in_ok-fill.ensures.others

pub returns-clause-stands : goal.returns-clause-stands
returns-clause-stands c = λ desk st. before_filled desk c.args.core.now c.fill.new.self c.in_ok-fill.ensures.bytes c.in_ok-fill.ensures.writer st

pub returns-in_err-fill-clause-over : goal.returns-in_err-fill-clause-over
returns-in_err-fill-clause-over c = λ desk st. on_err c.from_residual.result _ (over_here desk end.OutOfMemory c.args.core.now c.args.core.now.hand c.fill.new.self c.requires st)
