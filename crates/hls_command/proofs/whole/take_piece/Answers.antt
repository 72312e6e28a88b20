use Rattle.std.proofs.Common.{◌∙◌, ◌++◌, List, ℕ, ap, length, length-append, arith, rules}
use Rattle.hls_command.specs.Parts.{Breaks, Stands, series_seen}
use Rattle.hls_command.proofs.Reading.{fed_on, step_all}
use Rattle.hls_command.proofs.whole.take_piece.Goals as goal

pub returns-in_err-used-clause-goes : goal.returns-in_err-used-clause-goes
returns-in_err-used-clause-goes g c = λ start s.
    let l = c.loop-left in
    let film = c.step.new.film in
    let now = series_seen (g.F.FileSeries.told c.step.new.series) (g.F.FileSeries.faults c.step.new.series) in
    let h = step_all c.in_err-used.field-0.0 (l.film.reader.fed ++ l.left.now) (c.args.film.now.reader.fed ++ c.args.piece.now)
    film.segmenter.past (Stands c.args.name.now film.segmenter start now) (Breaks c.args.name.now film.segmenter start now) l.invariant.fed
    (c.in_err-used.ensures.goes start (l.invariant.goes start s)) in
    search (rules, h)

pub loop-left-preserved : goal.loop-left-preserved
loop-left-preserved g c =
    let l = c.loop-left in
    let s = c.in_ok-used.ensures in
    record {
      fits = s.fits;
      fed = fed_on l.film.reader.fed c.step.new.film.reader.fed l.left.now (c.args.film.now.reader.fed ++ c.args.piece.now) c.in_ok-used.used s.fed.2 l.invariant.fed;
      same = s.same ∙ l.invariant.same;
      goes = λ start stands. s.goes start (l.invariant.goes start stands);
    }

pub step-requires-clause-near : goal.step-requires-clause-near
step-requires-clause-near g c =
    let l = c.loop-left in
    omega (
      arith,
      ap (λ (x : List ℕ). length x) l.invariant.fed,
      length-append l.film.reader.fed l.left.now,
      length-append c.args.film.now.reader.fed c.args.piece.now,
      c.requires.near,
    )
