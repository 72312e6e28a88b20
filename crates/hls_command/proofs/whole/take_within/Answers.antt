use Rattle.std.proofs.Common.{◌++◌, ◌≤◌, ◌<◌, ◌≡◌, ◌+◌, ◌-◌, ◌^◌, length, arith, length-append, rules}
use Rattle.hls_command.specs.Parts.{Breaks, Stands, series_seen}
use Rattle.hls_command.proofs.Reading.{front_stops, too_long, whole_stops}
use Rattle.hls_command.proofs.whole.take_within.Goals as goal

pub returns-then-piece-room-clause-goes : goal.returns-then-piece-room-clause-goes
returns-then-piece-room-clause-goes g c = λ start s.
    let fed = c.args.film.now.reader.fed in
    let k = c.take_piece.new.film.segmenter in
    let now = series_seen (g.F.FileSeries.told c.take_piece.new.series) (g.F.FileSeries.faults c.take_piece.new.series) in
    let near : length (fed ++ c.args.piece.now) ≤ 2 ^ 36 = omega (arith, length-append fed c.args.piece.now, c.if-piece-room.true, c.requires.place, c.requires.near) in
    whole_stops c.take_piece.result (fed ++ c.args.piece.now) k.past (Stands c.args.name.now k start now) (Breaks c.args.name.now k start now) near
    (c.take_piece.ensures.goes start s)

pub returns-in_err-take_piece-clause-goes : goal.returns-in_err-take_piece-clause-goes
returns-in_err-take_piece-clause-goes g c = λ start s.
    let fed = c.args.film.now.reader.fed in
    let k = c.take_piece-2.new.film.segmenter in
    let now = series_seen (g.F.FileSeries.told c.take_piece-2.new.series) (g.F.FileSeries.faults c.take_piece-2.new.series) in
    let near : length fed + (2 ^ 36 - c.args.place) ≤ 2 ^ 36 = omega (arith, c.requires.place, c.requires.near) in
    let h = front_stops c.in_err-take_piece.field-0.0 fed c.args.piece.now (2 ^ 36 - c.args.place) k.past (Stands c.args.name.now k start now) (Breaks c.args.name.now k start now) near
    (c.in_err-take_piece.ensures.goes start s) in
    search (rules, h)

pub returns-clause-goes : goal.returns-clause-goes
returns-clause-goes g c = λ start s.
    let fed = c.args.film.now.reader.fed in
    let film = c.take_piece-2.new.film in
    let k = film.segmenter in
    let now = series_seen (g.F.FileSeries.told c.take_piece-2.new.series) (g.F.FileSeries.faults c.take_piece-2.new.series) in
    let full : length fed + (2 ^ 36 - c.args.place) ≡ 2 ^ 36 = omega (arith, c.requires.place, c.requires.near) in
    let more : 2 ^ 36 - c.args.place < length c.args.piece.now = omega (arith, c.if-piece-room.false) in
    too_long fed c.args.piece.now (2 ^ 36 - c.args.place) film.reader k (Stands c.args.name.now k start now) (Breaks c.args.name.now k start now) full more
    c.in_ok-take_piece.ensures.fed c.in_ok-take_piece.ensures.fits (c.in_ok-take_piece.ensures.goes start s)
