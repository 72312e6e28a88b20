use Rattle.std.proofs.Common.{◌≡◌}
use Rattle.segment_command.specs.Films.{WasRead}
use Rattle.client_command.specs.Giving.{IsReading, came_of}
use Rattle.loop_command.specs.Rounds.{IsCounted}
use Rattle.loop_command.proofs.film.read_film.Given as goal

abbrev pub invariant-loop : goal.invariant-loop
invariant-loop g l = record {
  reading : IsReading l.film;
  items : l.reading.tags.items ≡ l.film.reader.given;
  counted : IsCounted l.reading;
  read : WasRead (came_of l.film) (g.S.Source.left l.fn.input) (g.S.Source.left l.input);
  faults : g.S.Source.faults l.input ≡ g.S.Source.faults l.fn.input;
}
