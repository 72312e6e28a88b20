use Rattle.std.proofs.Common.{◌≡◌, map, take}
use Rattle.toml.specs.View.{view}
use Rattle.relay_config.specs.Values.{place_of}
use Rattle.relay_config.proofs.values.places.Given as goal

abbrev pub invariant-loop-stream : goal.invariant-loop-stream
invariant-loop-stream l = l.places.items ≡ map (λ v. place_of (view v)) (take l.stream-index l.streams)
