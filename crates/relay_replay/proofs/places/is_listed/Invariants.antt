use Rattle.std.proofs.Common.{◌≡◌, length}
use Rattle.std.specs.List.{list_any}
use Rattle.relay_replay.specs.Stand.{is_pair}
use Rattle.relay_replay.proofs.places.is_listed.Given as goal

abbrev pub invariant-loop-left : goal.invariant-loop-left
invariant-loop-left l = record { same : list_any (is_pair l.fn.app l.fn.name) l.fn.streams ≡ list_any (is_pair l.fn.app l.fn.name) l.left }

abbrev pub decreases-loop-left : goal.decreases-loop-left
decreases-loop-left l = length l.left
