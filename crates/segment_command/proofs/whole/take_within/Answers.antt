use Rattle.std.proofs.Common.{◌++◌, ◌≤◌, ◌<◌, ◌≡◌, ◌+◌, ◌-◌, ◌^◌, length, arith, length-append, rules}
use Rattle.std.specs.Option.{option_map}
use Rattle.segment_command.specs.Shelves.{FileSeen, file_seen}
use Rattle.segment_command.specs.Parts.{list_of}
use Rattle.segment_command.proofs.Reading.{front_stops, too_long, whole_stops}
use Rattle.segment_command.proofs.whole.take_within.Goals as goal

pub returns-then-piece-room-clause-goes : goal.returns-then-piece-room-clause-goes
returns-then-piece-room-clause-goes g c = λ start s.
    let view : g.row.H-File.Denot → FileSeen = λ f. file_seen (g.H.File.Sink.holds f) (g.H.File.Sink.faults f) in
    let fed = c.args.film.now.reader.fed in
    let film = c.take_piece.new.film in
    let near : length (fed ++ c.args.piece.now) ≤ 2 ^ 36 = omega (arith, length-append fed c.args.piece.now, c.if-piece-room.true, c.requires.place, c.requires.near) in
    whole_stops c.take_piece.result c.args.name.now (fed ++ c.args.piece.now) (list_of film.segmenter) film.segmenter.least film.segmenter film.pending
    (option_map view c.take_piece.new.file) start (g.H.House.told c.take_piece.new.house) near (c.take_piece.ensures.goes start s)

pub returns-in_err-take_piece-clause-goes : goal.returns-in_err-take_piece-clause-goes
returns-in_err-take_piece-clause-goes g c = λ start s.
    let view : g.row.H-File.Denot → FileSeen = λ f. file_seen (g.H.File.Sink.holds f) (g.H.File.Sink.faults f) in
    let fed = c.args.film.now.reader.fed in
    let film = c.take_piece-2.new.film in
    let near : length fed + (2 ^ 36 - c.args.place) ≤ 2 ^ 36 = omega (arith, c.requires.place, c.requires.near) in
    let h = front_stops c.in_err-take_piece.field-0.0 c.args.name.now fed c.args.piece.now (2 ^ 36 - c.args.place) film.segmenter.least film.segmenter film.pending
    (option_map view c.take_piece-2.new.file) start (g.H.House.told c.take_piece-2.new.house) near (c.in_err-take_piece.ensures.goes start s) in
    search (rules, h)

pub returns-clause-goes : goal.returns-clause-goes
returns-clause-goes g c = λ start s.
    let view : g.row.H-File.Denot → FileSeen = λ f. file_seen (g.H.File.Sink.holds f) (g.H.File.Sink.faults f) in
    let fed = c.args.film.now.reader.fed in
    let film = c.take_piece-2.new.film in
    let full : length fed + (2 ^ 36 - c.args.place) ≡ 2 ^ 36 = omega (arith, c.requires.place, c.requires.near) in
    let more : 2 ^ 36 - c.args.place < length c.args.piece.now = omega (arith, c.if-piece-room.false) in
    too_long c.args.name.now fed c.args.piece.now (2 ^ 36 - c.args.place) film.reader film.segmenter film.pending (option_map view c.take_piece-2.new.file) start
    (g.H.House.told c.take_piece-2.new.house) full more c.in_ok-take_piece.ensures.fed c.in_ok-take_piece.ensures.fits (c.in_ok-take_piece.ensures.goes start s)
