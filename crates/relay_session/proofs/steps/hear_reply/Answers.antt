use Rattle.std.proofs.Common.{rules, refl}
use Rattle.relay_session.specs.Keeping.{waiting}
use Rattle.relay_session.proofs.Living.{before_heard, late_kept, on_err, over_heard, says_others, says_within, sound_heard}
use Rattle.relay_session.proofs.steps.hear_reply.Goals as goal

pub returns-clause-sound : goal.returns-clause-sound
returns-clause-sound c =
    let d = waiting c.args.core.now c.args.asked.value in
    sound_heard d c.args.asked.value c.hear.new.outgoing c.hear.new.dialog c.add-2.new.self c.requires.sound refl (says_within c.args.core.now.outgoing c.hear.new.outgoing _ c.in_ok-hear.ensures.said c.requires.sound.others)

pub returns-clause-stands : goal.returns-clause-stands
returns-clause-stands c = λ desk st. (
    let d = waiting c.args.core.now c.args.asked.value in
    before_heard desk d c.args.asked.value c.args.reply.now c.hear.new.outgoing c.hear.new.dialog c.add-2.new.self (late_kept d c.args.asked.value c.requires.sound refl) refl
    c.in_ok-hear.ensures.state c.in_ok-hear.ensures.said (search rules) st)

pub returns-clause-others : goal.returns-clause-others
returns-clause-others c = says_others c.args.core.now.outgoing c.hear.new.outgoing _ c.in_ok-hear.ensures.said

pub returns-in_err-hear-clause-over : goal.returns-in_err-hear-clause-over
returns-in_err-hear-clause-over c = λ desk st. (
    let d = waiting c.args.core.now c.args.asked.value in
    on_err c.from_residual.result _ (over_heard desk d c.args.asked.value c.args.reply.now c.hear.new.outgoing c.hear.new.dialog c.add-2.new.self c.requires.sound (late_kept d c.args.asked.value c.requires.sound refl) refl (search rules) st))
