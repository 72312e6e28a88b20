use Rattle.http_flv.specs.Keeping.{waiting}
use Rattle.http_flv.proofs.Standing.{joined_stands, joining_calls, unheard_over}
use Rattle.http_flv.proofs.steps.hear_join.Goals as goal

pub returns-in-Ok-clause-stands : goal.returns-in-Ok-clause-stands
returns-in-Ok-clause-stands c = λ desk s.
    joined_stands desk (waiting c.args.core.now c.args.asked.value) c.note_join.new.core c.args.place c.args.asked.value c.args.reply.now c.requires.joining
    (joining_calls (waiting c.args.core.now c.args.asked.value) c.args.place c.requires.joining c.requires.sound) c.in-Ok.ensures.joined s

pub returns-in-Err-clause-over : goal.returns-in-Err-clause-over
returns-in-Err-clause-over c = λ desk s.
    unheard_over desk (waiting c.args.core.now c.args.asked.value) c.note_join.new.core c.args.place c.args.asked.value c.args.reply.now c.requires.joining
    (joining_calls (waiting c.args.core.now c.args.asked.value) c.args.place c.requires.joining c.requires.sound) c.in-Err.ensures.failed s
