use Rattle.std.proofs.Common.{◌≡◌, ◌-◌, ◌^◌, ℕ, List, Option, length}
use Rattle.client_command.specs.Giving.{IsReading, came_of}
use Rattle.client_command.proofs.film.next.Given as goal
use Rattle.segment_command.specs.Films.{WasRead}

abbrev pub invariant-loop-stop : goal.invariant-loop-stop
invariant-loop-stop g l = record {
  reading : IsReading l.film;
  given : l.film.reader.given ≡ l.fn.film.reader.given;
  goes : (start : Option (List ℕ)) → WasRead (came_of l.fn.film) start (g.S.Source.left l.fn.input) → WasRead (came_of l.film) start (g.S.Source.left l.input);
  faults : g.S.Source.faults l.input ≡ g.S.Source.faults l.fn.input;
}

abbrev pub decreases-loop-stop : goal.decreases-loop-stop
decreases-loop-stop g l = 2 ^ 36 - length l.film.reader.fed
