use Rattle.std.proofs.Common.{refl}
use Rattle.relay_program.proofs.Words.{pair}
use Rattle.relay_program.proofs.soaks.units_asked.Goals as goal

pub returns-in-len2-clause-value : goal.returns-in-len2-clause-value
returns-in-len2-clause-value c =
    let two = pair c.args.words.now c.word-item.result c.number-item.result c.in-len2.len_at_least c.in-len2.len_below c.word-item.is c.number-item.is in
    rw (two, c.asked_by.ensures.value) refl
