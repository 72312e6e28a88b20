use Rattle.std.proofs.Common.{◌∙◌, ap}
use Rattle.ts_reader.specs.Known.{Known}
use Rattle.ts_reader.proofs.Feeding.{end_refused}
use Rattle.ts_reader.proofs.reader.TsReader.finish.Goals as goal

pub returns-in-Err-clause-err : goal.returns-in-Err-clause-err
returns-in-Err-clause-err c = λ l.
    let i = c.self.inside in
    let lives = ap (λ (k : Known). k.failed) c.self.view_is ∙ l in
    rw (← c.self.view_is) (end_refused i.state i.part i.at i.failed i.fed i.given c.in-Err.fail c.self.invariant lives c.in-Err.ensures.err)
