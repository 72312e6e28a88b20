use Rattle.std.proofs.Common.{inr, refl}
use Rattle.chunk_reader.proofs.take.take_some.Goals as goal

pub returns-in-Ok-clause-err : goal.returns-in-Ok-clause-err
returns-in-Ok-clause-err c = inr (refl, refl, c.if-count-eq-FAR.true, (c.in-Ok.field-0.used, (c.in-Ok.field-0.message, (c.step.new.core, c.in-Ok.ensures.ok))))
