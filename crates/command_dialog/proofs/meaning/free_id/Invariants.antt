use Rattle.std.proofs.Common.{◌≡◌, ◌+◌}
use Rattle.command_dialog.specs.Meaning.{free_from, least_free}
use Rattle.command_dialog.proofs.meaning.free_id.Given as goal

-- the ids from this one on are still to be looked at
abbrev pub invariant-loop-left : goal.invariant-loop-left
invariant-loop-left l = record {
  same : least_free l.ids ≡ free_from l.ids l.left l.id;
  place : l.id + l.left ≡ 17;
}

abbrev pub decreases-loop-left : goal.decreases-loop-left
decreases-loop-left l = l.left
