use Rattle.std.proofs.Common.{◌≡◌, Some, rules}
use Rattle.std.specs.Option.{option_map}
use Rattle.segment_command.specs.Shelves.{FileSeen, file_seen}
use Rattle.segment_command.proofs.Reading.{refused_step, tag_fails}
use Rattle.segment_command.proofs.film.step.Goals as goal

pub returns-in_err-cut_tag-in-Ok-Some-clause-goes : goal.returns-in_err-cut_tag-in-Ok-Some-clause-goes
returns-in_err-cut_tag-in-Ok-Some-clause-goes g c = λ start s.
    let view : g.row.H-File.Denot → FileSeen = λ f. file_seen (g.H.File.Sink.holds f) (g.H.File.Sink.faults f) in
    let film = c.args.film.now in
    let i = c.in-Ok-Some in
    let r = c.cut_tag.new in
    let some : i.field-0.tag ≡ Some i.tag = search rules in
    let h = tag_fails c.in_err-cut_tag-in-Ok-Some.field-0.0 c.args.name.now c.args.piece.now i.field-0.used film.reader c.feed.new.self film.segmenter r.segmenter r.pending
    i.field-0.tag i.tag (option_map view r.file) start (g.H.House.told r.house) some c.requires.fits (i.ensures.ok c.requires.fits.lives)
    c.in_err-cut_tag-in-Ok-Some.ensures.same (c.in_err-cut_tag-in-Ok-Some.ensures.goes start s) in
    search (rules, h)

pub returns-in-Err-clause-goes : goal.returns-in-Err-clause-goes
returns-in-Err-clause-goes g c = λ start s.
    let view : g.row.H-File.Denot → FileSeen = λ f. file_seen (g.H.File.Sink.holds f) (g.H.File.Sink.faults f) in
    let film = c.args.film.now in
    rw c.from.ensures
    (refused_step c.in-Err.fail c.args.name.now c.args.piece.now film.reader c.feed.new.self film.segmenter film.pending (option_map view c.args.file.now) start
    (g.H.House.told c.args.house.now) c.requires.fits (c.in-Err.ensures.err c.requires.fits.lives) s)
