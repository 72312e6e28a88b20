use Rattle.hls_command.specs.Outcome.{seen}
use Rattle.hls_command.specs.Parts.{asked_by, series_seen}
use Rattle.hls_command.proofs.Ending.{film_cut, film_fails, stands_first}
use Rattle.hls_command.proofs.hls_files.cut.Goals as goal

pub returns-in-Ok : goal.returns-in-Ok
returns-in-Ok g c =
    let r = c.cut_film.new in
    let k = c.args.film.now.segmenter in
    let name = c.args.name.now in
    let start = series_seen (g.F.FileSeries.told c.args.series.now) (g.F.FileSeries.faults c.args.series.now) in
    let old = seen (g.S.Source.left c.args.input.now) (g.F.FileSeries.told c.args.series.now) (g.S.Source.faults c.args.input.now) (g.F.FileSeries.faults c.args.series.now) in
    let new = seen (g.S.Source.left r.input) (g.F.FileSeries.told r.series) (g.S.Source.faults r.input) (g.F.FileSeries.faults r.series) in
    let w = c.in-Ok.ensures.ends start (stands_first name k start c.requires.none) in (
      c.in-Ok.end,
      c.left_out.result,
      c.status_of.ensures,
      film_cut (asked_by name k) name c.in-Ok.end c.left_out.result r.film.segmenter old new c.cut_film.ensures.same c.left_out.ensures w.0 w.1,
    )

pub returns-in-Err : goal.returns-in-Err
returns-in-Err g c =
    let r = c.cut_film.new in
    let k = c.args.film.now.segmenter in
    let name = c.args.name.now in
    let start = series_seen (g.F.FileSeries.told c.args.series.now) (g.F.FileSeries.faults c.args.series.now) in
    let old = seen (g.S.Source.left c.args.input.now) (g.F.FileSeries.told c.args.series.now) (g.S.Source.faults c.args.input.now) (g.F.FileSeries.faults c.args.series.now) in
    let new = seen (g.S.Source.left r.input) (g.F.FileSeries.told r.series) (g.S.Source.faults r.input) (g.F.FileSeries.faults r.series) in
    let x = c.in-Err.ensures.ends start (stands_first name k start c.requires.none) in
    film_fails (asked_by name k) name c.in-Err.fail r.film.segmenter old new c.cut_film.ensures.same x.0 x.1
