use Rattle.http_flv.proofs.Standing.{heard_stands, reading_calls, unread_over}
use Rattle.http_flv.proofs.steps.read_bytes.Goals as goal

pub returns-in-Ok-clause-stands : goal.returns-in-Ok-clause-stands
returns-in-Ok-clause-stands g c = λ s.
    heard_stands (g.D.Desk.grants c.args.desk.now) c.args.core.now c.note_bytes.new.core c.args.bytes.now c.requires.reading (reading_calls c.args.core.now c.requires.reading c.requires.sound) c.in-Ok.ensures.heard s

pub returns-in-Err-clause-over : goal.returns-in-Err-clause-over
returns-in-Err-clause-over g c = λ s.
    unread_over (g.D.Desk.grants c.args.desk.now) c.args.core.now c.note_bytes.new.core c.args.bytes.now c.requires.reading (reading_calls c.args.core.now c.requires.reading c.requires.sound) c.in-Err.ensures.failed s
