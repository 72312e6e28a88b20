use Rattle.std.proofs.Common.{◌≡◌}
use Rattle.stream_registry.specs.Books.{FitsSole, sole_rules}
use Rattle.stream_registry.specs.Names.{places}
use Rattle.origin_pull.specs.Keeping.{IsAt}
use Rattle.server_tests.proofs.pulls.turned.Given as goal

abbrev pub invariant-loop : goal.invariant-loop
invariant-loop l = record {
  at : IsAt (FitsSole l.port) (places (sole_rules l.port.rules)) l.edge.parts l.edge.seat;
  fixed : sole_rules l.port.rules ≡ sole_rules l.initial.port.rules;
}
