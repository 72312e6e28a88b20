use Rattle.std.specs.Option.{option_map}
use Rattle.segment_command.specs.Shelves.{FileSeen, file_seen}
use Rattle.segment_command.proofs.Reading.{ended_film, nothing_read}
use Rattle.segment_command.proofs.whole.read_film.Goals as goal

pub returns-in_default-clause-ends : goal.returns-in_default-clause-ends
returns-in_default-clause-ends g c = λ start s.
    let view : g.row.H-File.Denot → FileSeen = λ f. file_seen (g.H.File.Sink.holds f) (g.H.File.Sink.faults f) in
    let film = c.args.film.now in
    nothing_read c.args.name.now (g.S.Source.left c.args.input.now) (g.S.Source.faults c.args.input.now) film.reader film.segmenter film.pending
    (option_map view c.args.file.now) start (g.H.House.told c.args.house.now) c.requires.fresh c.requires.fits s

pub returns-clause-ends : goal.returns-clause-ends
returns-clause-ends g c = λ start s.
    let view : g.row.H-File.Denot → FileSeen = λ f. file_seen (g.H.File.Sink.holds f) (g.H.File.Sink.faults f) in
    let r = c.read_all.new in
    let film = r.film in
    rw c.ended.ensures
    (ended_film c.read_all.result _ _ c.args.name.now film.segmenter film.pending (option_map view r.file) start (g.H.House.told r.house)
    (c.read_all.ensures.ends start s))
