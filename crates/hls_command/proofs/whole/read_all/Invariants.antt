use Rattle.std.proofs.Common.{◌≡◌, ◌≤◌, ◌<◌, ◌-◌, ◌^◌, length}
use Rattle.std.specs.Io.KnownBytes.{prepend_known}
use Rattle.hls_command.specs.Parts.{Fits, SeriesSeen, Stands, asked_by, series_seen}
use Rattle.hls_command.proofs.whole.read_all.Given as goal

abbrev pub invariant-loop-count : goal.invariant-loop-count
invariant-loop-count g l = record {
  fits : Fits l.film.reader l.film.segmenter;
  place : l.place ≡ length l.film.reader.fed;
  near : l.place ≤ 2 ^ 36;
  room : 0 < length l.piece;
  read : g.S.Source.left l.fn.input ≡ prepend_known l.film.reader.fed (g.S.Source.left l.input);
  same : asked_by l.fn.name l.film.segmenter ≡ asked_by l.fn.name l.fn.film.segmenter;
  goes : (start : SeriesSeen) → Stands l.fn.name l.fn.film.segmenter start (series_seen (g.F.FileSeries.told l.fn.series) (g.F.FileSeries.faults l.fn.series))
      → Stands l.fn.name l.film.segmenter start (series_seen (g.F.FileSeries.told l.series) (g.F.FileSeries.faults l.series));
  source : g.S.Source.faults l.input ≡ g.S.Source.faults l.fn.input;
}

abbrev pub decreases-loop-count : goal.decreases-loop-count
decreases-loop-count g l = 2 ^ 36 - l.place
