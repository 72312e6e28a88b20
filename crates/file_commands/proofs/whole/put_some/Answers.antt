use Rattle.std.proofs.Common.{sym, subst, List, ℕ, rules}
use Rattle.put_text.specs.Written.{Writes}
use Rattle.put_text.proofs.Writing.{write_rest}
use Rattle.file_commands.proofs.Pieces.{put_part}
use Rattle.file_commands.proofs.whole.put_some.Goals as goal

pub returns-in_err-put_all-clause-goes : goal.returns-in_err-put_all-clause-goes
returns-in_err-put_all-clause-goes g c = λ given before w.
    let h = put_part c.in_err-put_all.field-0.0 given c.args.text.now before (g.K.Sink.holds c.args.out.now) (g.K.Sink.holds c.put_all.new.out) w
    (rw c.as_slice.ensures at c.in_err-put_all.ensures.text) in
    search (rules, h)

pub returns-clause-goes : goal.returns-clause-goes
returns-clause-goes g c = λ given before w.
    subst (λ (l : List ℕ). Writes given l before (g.K.Sink.holds c.put_all.new.out)) (sym c.truncate.ensures)
    (write_rest given c.args.text.now before (g.K.Sink.holds c.args.out.now) (g.K.Sink.holds c.put_all.new.out) w
    (rw c.as_slice.ensures at c.in_ok-put_all.ensures.text))
