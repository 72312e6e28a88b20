use Rattle.std.proofs.Common.{◌≡◌, ◌++◌, length}
use Rattle.std.specs.Option.{option_map}
use Rattle.relay_outside.specs.Houses.{HouseTold}
use Rattle.segment_command.specs.Shelves.{StandsBy, file_seen}
use Rattle.segment_command.specs.Parts.{Fits, list_of}
use Rattle.segment_command.proofs.whole.take_piece.Given as goal

abbrev pub invariant-loop-left : goal.invariant-loop-left
invariant-loop-left g l = record {
  fits : Fits l.film.reader l.film.segmenter;
  fed : l.film.reader.fed ++ l.left ≡ l.fn.film.reader.fed ++ l.fn.piece;
  same : l.film.segmenter.least ≡ l.fn.film.segmenter.least;
  goes : (start : HouseTold)
      → StandsBy l.fn.name (list_of l.fn.film.segmenter) l.fn.film.pending (option_map (λ f. file_seen (g.H.File.Sink.holds f) (g.H.File.Sink.faults f)) l.fn.file) start
      (g.H.House.told l.fn.house)
      → StandsBy l.fn.name (list_of l.film.segmenter) l.film.pending (option_map (λ f. file_seen (g.H.File.Sink.holds f) (g.H.File.Sink.faults f)) l.file) start
      (g.H.House.told l.house);
}

abbrev pub decreases-loop-left : goal.decreases-loop-left
decreases-loop-left g l = length l.left
