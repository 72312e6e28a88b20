use Rattle.http_flv.proofs.Standing.{noted_over, taken_stands}
use Rattle.http_flv.proofs.steps.hear_item.Goals as goal

pub returns-in-Ok-clause-stands : goal.returns-in-Ok-clause-stands
returns-in-Ok-clause-stands c = λ desk s. taken_stands desk c.args.core.now c.note_item.new.core c.args.asked.value c.args.reply.now c.requires.plays c.requires.nothing c.in-Ok.ensures.taken s

pub returns-in-Err-clause-over : goal.returns-in-Err-clause-over
returns-in-Err-clause-over c = λ desk s. noted_over desk c.args.core.now c.note_item.new.core c.args.asked.value c.args.reply.now c.requires.plays c.requires.nothing c.in-Err.ensures.failed s
