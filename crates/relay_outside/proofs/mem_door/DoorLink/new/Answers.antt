use Rattle.relay_outside.proofs.NewLinks.{nothing_handed}
use Rattle.relay_outside.proofs.mem_door.DoorLink.new.Goals as goal

pub invariant_of-result : goal.invariant_of-result
invariant_of-result c = nothing_handed c.args.link c.requires
