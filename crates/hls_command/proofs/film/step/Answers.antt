use Rattle.std.proofs.Common.{◌≡◌, Some, rules}
use Rattle.hls_command.specs.Parts.{Breaks, Stands, series_seen}
use Rattle.hls_command.proofs.Reading.{refused_step, tag_breaks}
use Rattle.hls_command.proofs.Writing.{stands_part}
use Rattle.hls_command.proofs.film.step.Goals as goal

pub returns-in_err-cut_tag-in-Ok-Some-clause-goes : goal.returns-in_err-cut_tag-in-Ok-Some-clause-goes
returns-in_err-cut_tag-in-Ok-Some-clause-goes g c = λ start s.
    let film = c.args.film.now in
    let i = c.in-Ok-Some in
    let r = c.cut_tag.new in
    let e = c.in_err-cut_tag-in-Ok-Some in
    let some : i.field-0.tag ≡ Some i.tag = search rules in
    let h = tag_breaks c.args.piece.now i.field-0.used film.reader c.feed.new.self film.segmenter r.segmenter i.field-0.tag i.tag some c.requires.fits (i.ensures.ok c.requires.fits.lives)
    e.ensures.part in
    let b = e.ensures.goes start s in
    search (rules, h, b)

pub returns-in-Err-clause-goes : goal.returns-in-Err-clause-goes
returns-in-Err-clause-goes g c = λ start s.
    let film = c.args.film.now in
    let k = film.segmenter in
    let now = series_seen (g.F.FileSeries.told c.args.series.now) (g.F.FileSeries.faults c.args.series.now) in
    rw c.from.ensures
    (refused_step c.in-Err.fail c.args.piece.now film.reader c.feed.new.self k (Stands c.args.name.now k start now) (Breaks c.args.name.now k start now)
    (stands_part c.args.name.now k start now) c.requires.fits (c.in-Err.ensures.err c.requires.fits.lives) s)
