use Rattle.std.proofs.Common.{refl, rules}
use Rattle.file_commands.specs.Outcome.{seen}
use Rattle.segment_command.specs.Parts.{list_of}
use Rattle.segment_command.specs.Words.{asked}
use Rattle.segment_command.proofs.Ending.{film_cut, film_fails, list_fails, source_of, stands_first}
use Rattle.segment_command.proofs.segments.cut.Goals as goal

pub returns-in_err-write_list-in-Ok : goal.returns-in_err-write_list-in-Ok
returns-in_err-write_list-in-Ok g c =
    let r = c.cut_film.new in
    let k = r.film.segmenter in
    let film = c.args.film.now in
    let a = asked c.args.name.now film.segmenter.least in
    let start = g.H.House.told c.args.house.now in
    let old = seen (g.S.Source.left c.args.input.now) (g.K.Sink.holds c.args.out.now) (g.S.Source.faults c.args.input.now) (g.K.Sink.faults c.args.out.now) in
    let new = seen (g.S.Source.left r.input) (g.K.Sink.holds c.write_list.new.out) (g.S.Source.faults r.input) (g.K.Sink.faults c.write_list.new.out) in
    let w = c.in-Ok.ensures.ends start (stands_first c.args.name.now film.segmenter film.pending start c.requires.none) in
    let h = list_fails a c.in-Ok.end c.in_err-write_list-in-Ok.field-0.0 k old new start (g.H.House.told r.house) c.cut_film.ensures.same w.0 w.1
    c.in_err-write_list-in-Ok.ensures.list c.in_err-write_list-in-Ok.ensures.faults in
    search (rules, h)

pub returns-in_ok-write_list-in-Ok : goal.returns-in_ok-write_list-in-Ok
returns-in_ok-write_list-in-Ok g c =
    let r = c.cut_film.new in
    let k = r.film.segmenter in
    let film = c.args.film.now in
    let a = asked c.args.name.now film.segmenter.least in
    let start = g.H.House.told c.args.house.now in
    let old = seen (g.S.Source.left c.args.input.now) (g.K.Sink.holds c.args.out.now) (g.S.Source.faults c.args.input.now) (g.K.Sink.faults c.args.out.now) in
    let new = seen (g.S.Source.left r.input) (g.K.Sink.holds c.write_list.new.out) (g.S.Source.faults r.input) (g.K.Sink.faults c.write_list.new.out) in
    let w = c.in-Ok.ensures.ends start (stands_first c.args.name.now film.segmenter film.pending start c.requires.none) in (
      c.in-Ok.end,
      c.left_out.result,
      c.status_of.ensures,
      film_cut a c.in-Ok.end c.left_out.result k old new start (g.H.House.told r.house) c.cut_film.ensures.same
          c.left_out.ensures w.0 w.1 c.in_ok-write_list-in-Ok.ensures.list c.in_ok-write_list-in-Ok.ensures.faults,
    )

pub returns-in-Err : goal.returns-in-Err
returns-in-Err g c =
    let r = c.cut_film.new in
    let k = r.film.segmenter in
    let film = c.args.film.now in
    let a = asked c.args.name.now film.segmenter.least in
    let start = g.H.House.told c.args.house.now in
    let old = seen (g.S.Source.left c.args.input.now) (g.K.Sink.holds c.args.out.now) (g.S.Source.faults c.args.input.now) (g.K.Sink.faults c.args.out.now) in
    let new = seen (g.S.Source.left r.input) (g.K.Sink.holds c.args.out.now) (g.S.Source.faults r.input) (g.K.Sink.faults c.args.out.now) in
    let x = c.in-Err.ensures.ends start (stands_first c.args.name.now film.segmenter film.pending start c.requires.none) in
    let settles = rw c.as_slice.ensures at c.hand_over.ensures.settles in
    film_fails a c.hand_over.result k old new start (g.H.House.told c.hand_over.new.house) c.cut_film.ensures.same x.0
    (source_of c.in-Err.fault c.hand_over.result (g.S.Source.faults c.args.input.now) (g.S.Source.faults r.input) c.hand_over.ensures.either x.1)
    (settles c.args.name.now (list_of k) start x.2) refl refl
