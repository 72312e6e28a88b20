use Rattle.std.proofs.Common.{◌≡◌, ◌∙◌, ◌≤◌, ◌^◌, length, take, sym, ap, arith, length-append, rules, List, ℕ, refl}
use Rattle.std.proofs.lemmas.List.{length-take}
use Rattle.std.specs.Io.KnownBytes.{prepend_known}
use Rattle.hls_command.specs.Parts.{Breaks, IsPartRead, Stands, series_seen}
use Rattle.hls_command.proofs.Reading.{film_ends, piece_stops, prepend_none, read_more, source_ends}
use Rattle.hls_command.proofs.Writing.{stands_part}
use Rattle.hls_command.proofs.whole.read_all.Goals as goal

pub loop-count-init : goal.loop-count-init
loop-count-init g c =
    let left = g.S.Source.left c.args.input.now in
    record {
      fits = c.requires.fits;
      place = sym (ap (λ (l : List ℕ). length l) c.requires.fresh);
      near = omega arith;
      room = c.requires.room;
      read = sym (ap (λ (l : List ℕ). prepend_known l left) c.requires.fresh ∙ prepend_none left);
      same = refl;
      goes = λ start s. s;
      source = refl;
    }

pub returns-in_err-take_within-in-Bytes-clause-ends : goal.returns-in_err-take_within-in-Bytes-clause-ends
returns-in_err-take_within-in-Bytes-clause-ends g c = λ start s.
    let l = c.loop-count in
    let k = c.take_within.new.film.segmenter in
    let now = series_seen (g.F.FileSeries.told c.take_within.new.series) (g.F.FileSeries.faults c.take_within.new.series) in
    let h = piece_stops c.in_err-take_within-in-Bytes.field-0.0 l.film.reader.fed (take c.in-Bytes.count c.get.new.into)
    (g.S.Source.left c.args.input.now) (g.S.Source.left l.input) (g.S.Source.left c.get.new.self) (g.S.Source.faults c.args.input.now) (g.S.Source.faults c.get.new.self)
    k.past (Stands c.args.name.now k start now) (Breaks c.args.name.now k start now)
    l.invariant.read c.in-Bytes.ensures.bytes (c.in-Bytes.ensures.cause ∙ l.invariant.source)
    (c.in_err-take_within-in-Bytes.ensures.goes start (l.invariant.goes start s)) in
    search (rules, h)

pub loop-count-preserved : goal.loop-count-preserved
loop-count-preserved g c =
    let l = c.loop-count in
    let t = c.in_ok-take_within-in-Bytes.ensures in
    let bytes = take c.in-Bytes.count c.get.new.into in
    let len = length-take c.in-Bytes.count c.get.new.into in
    record {
      fits = t.fits;
      place = omega (arith, ap (λ (x : List ℕ). length x) t.fed, length-append l.film.reader.fed bytes, len, c.in-Bytes.ensures.count.1, l.invariant.place);
      near = omega (arith, t.near, len, c.in-Bytes.ensures.count.1);
      room = omega (arith, c.in-Bytes.ensures.count.0, c.in-Bytes.ensures.count.1);
      read = read_more l.film.reader.fed bytes (g.S.Source.left c.args.input.now) (g.S.Source.left l.input) (g.S.Source.left c.get.new.self)
          l.invariant.read c.in-Bytes.ensures.bytes ∙ ap (λ (x : List ℕ). prepend_known x (g.S.Source.left c.get.new.self)) (sym t.fed);
      same = t.same ∙ l.invariant.same;
      goes = λ start s. t.goes start (l.invariant.goes start s);
      source = c.in-Bytes.ensures.cause ∙ l.invariant.source;
    }

pub returns-in-End-clause-ends : goal.returns-in-End-clause-ends
returns-in-End-clause-ends g c = λ start s.
    let l = c.loop-count in
    let film = l.film in
    let k = film.segmenter in
    let now = series_seen (g.F.FileSeries.told l.series) (g.F.FileSeries.faults l.series) in
    let near : length film.reader.fed ≤ 2 ^ 36 = omega (arith, l.invariant.place, l.invariant.near) in
    film_ends c.end.result (g.S.Source.left c.args.input.now) (g.S.Source.left l.input) (g.S.Source.left c.get.new.self)
    (g.S.Source.faults c.args.input.now) (g.S.Source.faults c.get.new.self) film.reader k (Stands c.args.name.now k start now) (Breaks c.args.name.now k start now)
    (stands_part c.args.name.now k start now) near l.invariant.read c.in-End.ensures.bytes.0 c.in-End.ensures.bytes.1 (c.in-End.ensures.cause ∙ l.invariant.source)
    l.invariant.fits (l.invariant.goes start s) c.end.ensures

pub returns-in-Failed-clause-ends : goal.returns-in-Failed-clause-ends
returns-in-Failed-clause-ends g c = λ start s.
    let l = c.loop-count in
    let film = l.film in
    let k = film.segmenter in
    let now = series_seen (g.F.FileSeries.told l.series) (g.F.FileSeries.faults l.series) in
    source_ends (g.S.Source.left c.args.input.now) (g.S.Source.left l.input) (g.S.Source.left c.get.new.self)
    (g.S.Source.faults c.args.input.now) (g.S.Source.faults c.get.new.self) film.reader k (Stands c.args.name.now k start now) (Breaks c.args.name.now k start now)
    (IsPartRead (g.S.Source.left c.args.input.now) (g.S.Source.left c.get.new.self) k.past)
    l.invariant.read c.in-Failed.ensures.bytes (rw l.invariant.source at c.in-Failed.ensures.cause)
    l.invariant.fits (l.invariant.goes start s)
