use Rattle.relay_outside.proofs.NewLinks.{others_new}
use Rattle.relay_outside.proofs.mem_door.MemDoorDoor.next.Goals as goal

pub invariant_of-self-in-Some : goal.invariant_of-self-in-Some
invariant_of-self-in-Some c =
    others_new c.self.inside.queue.items c.pop_front.new.self.items c.in-Some.link c.self.inside.over c.in-Some.ensures.items c.self.invariant
