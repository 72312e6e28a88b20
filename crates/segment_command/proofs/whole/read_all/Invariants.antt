use Rattle.std.proofs.Common.{◌≡◌, ◌≤◌, ◌<◌, ◌-◌, ◌^◌, length}
use Rattle.std.specs.Io.KnownBytes.{prepend_known}
use Rattle.std.specs.Option.{option_map}
use Rattle.relay_outside.specs.Houses.{HouseTold}
use Rattle.segment_command.specs.Shelves.{StandsBy, file_seen}
use Rattle.segment_command.specs.Parts.{Fits, list_of}
use Rattle.segment_command.proofs.whole.read_all.Given as goal

abbrev pub invariant-loop-count : goal.invariant-loop-count
invariant-loop-count g l = record {
  fits : Fits l.film.reader l.film.segmenter;
  place : l.place ≡ length l.film.reader.fed;
  near : l.place ≤ 2 ^ 36;
  room : 0 < length l.piece;
  read : g.S.Source.left l.fn.input ≡ prepend_known l.film.reader.fed (g.S.Source.left l.input);
  same : l.film.segmenter.least ≡ l.fn.film.segmenter.least;
  goes : (start : HouseTold)
      → StandsBy l.fn.name (list_of l.fn.film.segmenter) l.fn.film.pending (option_map (λ f. file_seen (g.H.File.Sink.holds f) (g.H.File.Sink.faults f)) l.fn.file) start
      (g.H.House.told l.fn.house)
      → StandsBy l.fn.name (list_of l.film.segmenter) l.film.pending (option_map (λ f. file_seen (g.H.File.Sink.holds f) (g.H.File.Sink.faults f)) l.file) start
      (g.H.House.told l.house);
  source : g.S.Source.faults l.input ≡ g.S.Source.faults l.fn.input;
}

abbrev pub decreases-loop-count : goal.decreases-loop-count
decreases-loop-count g l = 2 ^ 36 - l.place
