use Rattle.std.proofs.Common.{rules}
use Rattle.file_commands.proofs.Pieces.{finish_fails, last_fails, ends}
use Rattle.file_commands.proofs.whole.end.Goals as goal

pub returns-in_err-some_out-clause-ends : goal.returns-in_err-some_out-clause-ends
returns-in_err-some_out-clause-ends g c = λ before w.
    let C = g.C.Convert in
    let file = c.args.file.now in
    let h = finish_fails C.gives C.cut C.whole c.in_err-some_out.field-0.0 (C.fed file) (C.given file) c.args.text.now c.finish.new.out before
    (g.K.Sink.holds c.args.out.now) (g.met.C.Convert.reads file c.requires.fits) w c.in_err-some_out.ensures.err in
    search (rules, h)

pub returns-in_err-put_all-clause-ends : goal.returns-in_err-put_all-clause-ends
returns-in_err-put_all-clause-ends g c = λ before w.
    let C = g.C.Convert in
    let file = c.args.file.now in
    let h = last_fails C.gives C.cut C.whole c.in_err-put_all.field-0.0 (C.fed file) (C.given file) c.args.text.now c.finish.new.out c.finish.new.out
    c.in_ok-some_out.some_out before (g.K.Sink.holds c.args.out.now) (g.K.Sink.holds c.put_all.new.out) w c.in_ok-some_out.ensures.ok
    (rw c.as_slice.ensures at c.in_err-put_all.ensures.text) in
    search (rules, h)

pub returns-clause-ends : goal.returns-clause-ends
returns-clause-ends g c = λ before w.
    let C = g.C.Convert in
    let file = c.args.file.now in
    ends C.whole (C.fed file) (C.given file) c.args.text.now c.finish.new.out c.in_ok-some_out.some_out before (g.K.Sink.holds c.args.out.now)
    (g.K.Sink.holds c.put_all.new.out) c.requires.near w c.in_ok-some_out.ensures.ok (rw c.as_slice.ensures at c.in_ok-put_all.ensures.text)
