use Rattle.std.proofs.Common.{◌≡◌, ◌∙◌, ◌++◌, ap, take, arith}
use Rattle.std.proofs.lemmas.Grind.{common_steps}
use Rattle.chunk_reader.specs.ReaderKnown.{ReaderKnown}
use Rattle.chunk_reader.proofs.Sounds.{advance_err, advance_ok}
use Rattle.chunk_reader.proofs.reader.Reader.advance.Goals as goal

pub invariant_of-self : goal.invariant_of-self
invariant_of-self c =
    let none = ap (λ (k : ReaderKnown). k.failed) c.self.view_is ∙ c.requires.lives in
    let fed : c.add_all.new.self ≡ c.self.inside.fed ++ take c.in-Ok.taken.used c.args.piece.now = grind (arith, common_steps, c.add_all.ensures) in
    let t = c.in-Ok.ensures.ok in
    (advance_ok c.self.inside.core c.take_some.new.core c.self.inside.count c.self.inside.failed c.self.inside.fed c.add_all.new.self c.self.inside.given c.note.new.given c.args.piece.now t.0 c.in-Ok.taken.used c.in-Ok.taken.message c.self.invariant none c.in-Ok.ensures.max t.1.0 t.1.1 t.1.2 fed c.note.ensures).sound

pub returns-in-Ok-clause-ok : goal.returns-in-Ok-clause-ok
returns-in-Ok-clause-ok c =
    let none = ap (λ (k : ReaderKnown). k.failed) c.self.view_is ∙ c.requires.lives in
    let fed : c.add_all.new.self ≡ c.self.inside.fed ++ take c.in-Ok.taken.used c.args.piece.now = grind (arith, common_steps, c.add_all.ensures) in
    let t = c.in-Ok.ensures.ok in
    rw (← c.self.view_is) (advance_ok c.self.inside.core c.take_some.new.core c.self.inside.count c.self.inside.failed c.self.inside.fed c.add_all.new.self c.self.inside.given c.note.new.given c.args.piece.now t.0 c.in-Ok.taken.used c.in-Ok.taken.message c.self.invariant none c.in-Ok.ensures.max t.1.0 t.1.1 t.1.2 fed c.note.ensures).taken

pub invariant_of-self-in-Err : goal.invariant_of-self-in-Err
invariant_of-self-in-Err c =
    let none = ap (λ (k : ReaderKnown). k.failed) c.self.view_is ∙ c.requires.lives in
    let fed : c.add_all-in-Err.new.self ≡ c.self.inside.fed ++ take c.in-Err.refusal.after c.args.piece.now = grind (arith, common_steps, c.add_all-in-Err.ensures) in
    (advance_err c.self.inside.core c.fresh.result c.self.inside.count c.in-Err.refusal.after c.in-Err.refusal.cause c.self.inside.failed c.self.inside.fed c.add_all-in-Err.new.self c.self.inside.given c.args.piece.now c.self.invariant none (c.fresh.ensures.max ∙ c.in-Err.ensures.max) c.fresh.ensures.held c.fresh.ensures.slots c.in-Err.ensures.err c.in-Err.ensures.after.0 c.in-Err.ensures.after.1 fed).sound

pub returns-in-Err-clause-err : goal.returns-in-Err-clause-err
returns-in-Err-clause-err c =
    let none = ap (λ (k : ReaderKnown). k.failed) c.self.view_is ∙ c.requires.lives in
    let fed : c.add_all-in-Err.new.self ≡ c.self.inside.fed ++ take c.in-Err.refusal.after c.args.piece.now = grind (arith, common_steps, c.add_all-in-Err.ensures) in
    rw (← c.self.view_is) (advance_err c.self.inside.core c.fresh.result c.self.inside.count c.in-Err.refusal.after c.in-Err.refusal.cause c.self.inside.failed c.self.inside.fed c.add_all-in-Err.new.self c.self.inside.given c.args.piece.now c.self.invariant none (c.fresh.ensures.max ∙ c.in-Err.ensures.max) c.fresh.ensures.held c.fresh.ensures.slots c.in-Err.ensures.err c.in-Err.ensures.after.0 c.in-Err.ensures.after.1 fed).refused
