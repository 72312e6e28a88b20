use Rattle.std.proofs.Common.{rules}
use Rattle.segment_command.specs.Parts.{list_of}
use Rattle.segment_command.proofs.Reading.{last_fails, read_fails}
use Rattle.segment_command.proofs.whole.cut_film.Goals as goal

pub returns-in_err-end-clause-ends : goal.returns-in_err-end-clause-ends
returns-in_err-end-clause-ends g c = λ start s.
    let h = read_fails c.in_err-end.field-0.0 (g.S.Source.faults c.args.input.now) (g.S.Source.faults c.read_film.new.input) _ _ (c.in_err-end.ensures.ends start s) in
    search (rules, h)

pub returns-in_err-end_last-clause-ends : goal.returns-in_err-end_last-clause-ends
returns-in_err-end_last-clause-ends g c = λ start s.
    let r = c.read_film.new in
    let film = r.film in
    let e = c.in_err-end_last.ensures in
    let x = c.in_ok-end.ensures.ends start s in
    let goes = rw c.as_slice-2.ensures at (rw c.as_slice.ensures at e.goes) in
    let h = last_fails c.in_ok-end.end c.in_err-end_last.field-0.0 film.segmenter.least (g.S.Source.left c.args.input.now) (g.S.Source.left r.input)
    (g.S.Source.faults c.args.input.now) (g.S.Source.faults r.input) film.segmenter.past _ x.0 e.cause
    (goes c.args.name.now (list_of film.segmenter) film.pending.count start x.1) in
    search (rules, h)

pub returns-clause-ends : goal.returns-clause-ends
returns-clause-ends g c = λ start s.
    let film = c.read_film.new.film in
    let x = c.in_ok-end.ensures.ends start s in
    let goes = rw c.as_slice-2.ensures at (rw c.as_slice.ensures at c.in_ok-end_last.ensures.goes) in
    (x.0, goes c.args.name.now (list_of film.segmenter) film.pending.count start x.1)
