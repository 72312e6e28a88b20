use Rattle.std.proofs.Common.{◌≡◌, map, take}
use Rattle.relay_serve.specs.Places.{name_of}
use Rattle.relay_serve.proofs.starting.names_of.Given as goal

abbrev pub invariant-loop-place : goal.invariant-loop-place
invariant-loop-place l = l.names ≡ map name_of (take l.place-index l.places)
