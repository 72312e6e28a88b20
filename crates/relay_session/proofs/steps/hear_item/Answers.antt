use Rattle.std.proofs.Common.{rules}
use Rattle.relay_session.proofs.Living.{before_taken, on_err, over_taken, sound_taken, taken_others}
use Rattle.relay_session.proofs.steps.hear_item.Goals as goal

pub returns-clause-sound : goal.returns-clause-sound
returns-clause-sound c = sound_taken c.args.core.now c.take_in.new.outgoing _ c.add-2.new.self c.requires.sound c.requires.nothing c.in_ok-take_in.ensures.takes

pub returns-clause-stands : goal.returns-clause-stands
returns-clause-stands c = λ desk st. before_taken desk c.args.core.now c.args.playing.now c.args.asked.value c.args.reply c.take_in.new.outgoing c.add-2.new.self c.requires.sound c.requires.open c.requires.plays c.requires.take c.requires.at
    c.in_ok-take_in.ensures.takes (search rules) st

pub returns-clause-others : goal.returns-clause-others
returns-clause-others c = taken_others c.args.core.now c.take_in.new.outgoing _ c.requires.sound c.requires.nothing c.in_ok-take_in.ensures.takes

pub returns-in_err-take_in-clause-over : goal.returns-in_err-take_in-clause-over
returns-in_err-take_in-clause-over c = λ desk st. on_err c.from_residual.result _ (over_taken desk c.args.core.now c.args.playing.now c.args.asked.value c.args.reply c.take_in.new.outgoing c.add-2.new.self c.requires.sound c.requires.open c.requires.plays
    c.requires.take c.requires.at (search rules) st)

pub returns-clause-fits : goal.returns-clause-fits
returns-clause-fits c = λ f. record { unit = c.take_in.ensures.unit f.unit; same = f.same }
