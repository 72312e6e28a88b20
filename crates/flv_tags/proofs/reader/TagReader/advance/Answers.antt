use Rattle.std.proofs.Common.{◌≡◌, ◌∙◌, ◌++◌, ap, take, arith}
use Rattle.std.proofs.lemmas.Grind.{common_steps}
use Rattle.flv_tags.specs.Known.{Known}
use Rattle.flv_tags.proofs.Feeding.{advance_err, advance_ok}
use Rattle.flv_tags.proofs.reader.TagReader.advance.Goals as goal

pub invariant_of-self : goal.invariant_of-self
invariant_of-self c =
    let lives = ap (λ (k : Known). k.failed) c.self.view_is ∙ c.requires.lives in
    let fed : c.add_all.new.self ≡ c.self.inside.fed ++ take c.in-Ok.taken.used c.args.piece.now = grind (arith, common_steps, c.add_all.ensures) in
    (advance_ok c.self.inside.part c.take_some.new.part c.self.inside.count c.self.inside.failed c.self.inside.fed c.add_all.new.self
    c.self.inside.given c.note.new.given c.args.piece.now c.in-Ok.taken.used c.in-Ok.taken.tag c.self.invariant lives c.requires.some
    c.in-Ok.ensures.ok fed c.note.ensures).sound

pub returns-in-Ok-clause-ok : goal.returns-in-Ok-clause-ok
returns-in-Ok-clause-ok c =
    let lives = ap (λ (k : Known). k.failed) c.self.view_is ∙ c.requires.lives in
    let fed : c.add_all.new.self ≡ c.self.inside.fed ++ take c.in-Ok.taken.used c.args.piece.now = grind (arith, common_steps, c.add_all.ensures) in
    rw (← c.self.view_is) (advance_ok c.self.inside.part c.take_some.new.part c.self.inside.count c.self.inside.failed c.self.inside.fed
    c.add_all.new.self c.self.inside.given c.note.new.given c.args.piece.now c.in-Ok.taken.used c.in-Ok.taken.tag c.self.invariant lives
    c.requires.some c.in-Ok.ensures.ok fed c.note.ensures).taken

pub invariant_of-self-in-Err : goal.invariant_of-self-in-Err
invariant_of-self-in-Err c =
    let lives = ap (λ (k : Known). k.failed) c.self.view_is ∙ c.requires.lives in
    (advance_err c.self.inside.part c.nothing.result c.self.inside.count c.self.inside.failed c.self.inside.fed c.self.inside.given c.args.piece.now
    c.in-Err.fail c.self.invariant lives c.requires.some c.in-Err.ensures.err c.nothing.ensures.none).sound

pub returns-in-Err-clause-err : goal.returns-in-Err-clause-err
returns-in-Err-clause-err c =
    let lives = ap (λ (k : Known). k.failed) c.self.view_is ∙ c.requires.lives in
    rw (← c.self.view_is) (advance_err c.self.inside.part c.nothing.result c.self.inside.count c.self.inside.failed c.self.inside.fed
    c.self.inside.given c.args.piece.now c.in-Err.fail c.self.invariant lives c.requires.some c.in-Err.ensures.err c.nothing.ensures.none).refused
