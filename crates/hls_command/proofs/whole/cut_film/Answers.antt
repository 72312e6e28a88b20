use Rattle.std.proofs.Common.{rules}
use Rattle.hls_command.specs.Parts.{series_seen}
use Rattle.hls_command.proofs.Reading.{part_of}
use Rattle.hls_command.proofs.Writing.{ends_part, finishes}
use Rattle.hls_command.proofs.whole.cut_film.Goals as goal

pub returns-in_err-turn-clause-ends : goal.returns-in_err-turn-clause-ends
returns-in_err-turn-clause-ends g c = λ start s.
    let r = c.read_film.new in
    let k = r.film.segmenter in
    let x = c.in_ok-end.ensures.ends start s in
    let now = series_seen (g.F.FileSeries.told r.series) (g.F.FileSeries.faults r.series) in
    let then_seen = series_seen (g.F.FileSeries.told c.turn.new.series) (g.F.FileSeries.faults c.turn.new.series) in
    let p = part_of c.in_ok-end.end (g.S.Source.left c.args.input.now) (g.S.Source.left r.input) (g.S.Source.faults c.args.input.now) (g.S.Source.faults r.input) k.past x.0 in
    let b = ends_part c.in_err-turn.field-0.0 c.args.name.now k start now then_seen x.1 c.in_err-turn.ensures.told c.in_err-turn.ensures.faults in
    search (rules, p, b)

pub returns-clause-ends : goal.returns-clause-ends
returns-clause-ends g c = λ start s.
    let r = c.read_film.new in
    let k = r.film.segmenter in
    let x = c.in_ok-end.ensures.ends start s in
    let now = series_seen (g.F.FileSeries.told r.series) (g.F.FileSeries.faults r.series) in
    let then_seen = series_seen (g.F.FileSeries.told c.turn.new.series) (g.F.FileSeries.faults c.turn.new.series) in
    (x.0, finishes c.args.name.now k start now then_seen x.1 c.in_ok-turn.ensures.told c.in_ok-turn.ensures.faults)
