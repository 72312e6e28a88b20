use Rattle.std.proofs.Common.{◌≡◌, ◌∙◌, ◌++◌, ◌-◌, ap, take, arith}
use Rattle.std.proofs.lemmas.Grind.{common_steps}
use Rattle.ts_reader.specs.Known.{Known}
use Rattle.ts_reader.proofs.Feeding.{advance_err, advance_ok, part_short}
use Rattle.ts_reader.proofs.reader.TsReader.advance.Goals as goal

pub invariant_of-self : goal.invariant_of-self
invariant_of-self c =
    let i = c.self.inside in
    let lives = ap (λ (k : Known). k.failed) c.self.view_is ∙ c.requires.lives in
    let short = part_short i.state i.part i.at i.failed i.fed i.given c.self.invariant lives in
    let fed : c.add_all.new.self ≡ i.fed ++ take c.min-used.result c.args.piece.now = grind (arith, common_steps, c.add_all.ensures) in
    (advance_ok i.state c.take_run.new.state i.part c.take_run.new.part i.at c.place_after-self-inside.result i.failed i.fed c.add_all.new.self i.given c.note.new.given
    c.args.piece.now c.min-used.result c.in-Ok.unit c.self.invariant lives (omega arith) (omega arith) c.in-Ok.ensures.ok c.place_after-self-inside.ensures.whole
    c.place_after-self-inside.ensures.begun fed c.note.ensures).sound

pub returns-in-Ok-clause-ok : goal.returns-in-Ok-clause-ok
returns-in-Ok-clause-ok c =
    let i = c.self.inside in
    let lives = ap (λ (k : Known). k.failed) c.self.view_is ∙ c.requires.lives in
    let short = part_short i.state i.part i.at i.failed i.fed i.given c.self.invariant lives in
    let fed : c.add_all.new.self ≡ i.fed ++ take c.min-used.result c.args.piece.now = grind (arith, common_steps, c.add_all.ensures) in
    rw (← c.self.view_is) (advance_ok i.state c.take_run.new.state i.part c.take_run.new.part i.at c.place_after-self-inside.result i.failed i.fed c.add_all.new.self i.given c.note.new.given
    c.args.piece.now c.min-used.result c.in-Ok.unit c.self.invariant lives (omega arith) (omega arith) c.in-Ok.ensures.ok c.place_after-self-inside.ensures.whole
    c.place_after-self-inside.ensures.begun fed c.note.ensures).taken

pub invariant_of-self-in-Err : goal.invariant_of-self-in-Err
invariant_of-self-in-Err c =
    let i = c.self.inside in
    let lives = ap (λ (k : Known). k.failed) c.self.view_is ∙ c.requires.lives in
    let short = part_short i.state i.part i.at i.failed i.fed i.given c.self.invariant lives in
    let fed : c.add_all-in-Err.new.self ≡ i.fed ++ take (c.min-used.result - 1) c.args.piece.now = grind (arith, common_steps, c.add_all-in-Err.ensures) in
    (advance_err i.state c.before-in-Err.result i.part c.new.result i.at i.failed i.fed c.add_all-in-Err.new.self i.given c.args.piece.now c.min-used.result c.in-Err.fail
    c.self.invariant lives (omega arith) (omega arith) (omega arith) c.in-Err.ensures.err fed c.before-in-Err.ensures c.new.ensures).sound

pub returns-in-Err-clause-err : goal.returns-in-Err-clause-err
returns-in-Err-clause-err c =
    let i = c.self.inside in
    let lives = ap (λ (k : Known). k.failed) c.self.view_is ∙ c.requires.lives in
    let short = part_short i.state i.part i.at i.failed i.fed i.given c.self.invariant lives in
    let fed : c.add_all-in-Err.new.self ≡ i.fed ++ take (c.min-used.result - 1) c.args.piece.now = grind (arith, common_steps, c.add_all-in-Err.ensures) in
    rw (← c.self.view_is) (advance_err i.state c.before-in-Err.result i.part c.new.result i.at i.failed i.fed c.add_all-in-Err.new.self i.given c.args.piece.now c.min-used.result c.in-Err.fail
    c.self.invariant lives (omega arith) (omega arith) (omega arith) c.in-Err.ensures.err fed c.before-in-Err.ensures c.new.ensures).refused
