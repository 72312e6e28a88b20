use Rattle.std.proofs.Common.{◌≡◌, ◌++◌, length}
use Rattle.hls_command.specs.Parts.{Fits, SeriesSeen, Stands, asked_by, series_seen}
use Rattle.hls_command.proofs.whole.take_piece.Given as goal

abbrev pub invariant-loop-left : goal.invariant-loop-left
invariant-loop-left g l = record {
  fits : Fits l.film.reader l.film.segmenter;
  fed : l.film.reader.fed ++ l.left ≡ l.fn.film.reader.fed ++ l.fn.piece;
  same : asked_by l.fn.name l.film.segmenter ≡ asked_by l.fn.name l.fn.film.segmenter;
  goes : (start : SeriesSeen) → Stands l.fn.name l.fn.film.segmenter start (series_seen (g.F.FileSeries.told l.fn.series) (g.F.FileSeries.faults l.fn.series))
      → Stands l.fn.name l.film.segmenter start (series_seen (g.F.FileSeries.told l.series) (g.F.FileSeries.faults l.series));
}

abbrev pub decreases-loop-left : goal.decreases-loop-left
decreases-loop-left g l = length l.left
