use Rattle.hls_command.specs.Parts.{Breaks, Stands, series_seen}
use Rattle.hls_command.proofs.Reading.{ended_film, nothing_read}
use Rattle.hls_command.proofs.Writing.{stands_part}
use Rattle.hls_command.proofs.whole.read_film.Goals as goal

pub returns-in_default-clause-ends : goal.returns-in_default-clause-ends
returns-in_default-clause-ends g c = λ start s.
    let film = c.args.film.now in
    let now = series_seen (g.F.FileSeries.told c.args.series.now) (g.F.FileSeries.faults c.args.series.now) in
    (nothing_read (g.S.Source.left c.args.input.now) film.reader film.segmenter c.requires.fresh c.requires.fits, stands_part c.args.name.now film.segmenter start now s)

pub returns-clause-ends : goal.returns-clause-ends
returns-clause-ends g c = λ start s.
    let r = c.read_all.new in
    let k = r.film.segmenter in
    let now = series_seen (g.F.FileSeries.told r.series) (g.F.FileSeries.faults r.series) in
    rw c.ended.ensures
    (ended_film c.read_all.result _ _ (Stands c.args.name.now k start now) (Breaks c.args.name.now k start now) (c.read_all.ensures.ends start s))
