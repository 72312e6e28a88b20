use Rattle.std.proofs.Common.{◌≡◌, length}
use Rattle.stream_registry.specs.Roots.{AreTrunks}
use Rattle.stream_registry.specs.Sites.{AreNewRoots}
use Rattle.stream_registry.proofs.shared.new_ways.Given as goal

abbrev pub invariant-loop-place : goal.invariant-loop-place
invariant-loop-place l = record { all : AreNewRoots l.shapes l.ways; count : length l.ways ≡ l.place; trunks : AreTrunks l.ways }
