use Rattle.std.proofs.Common.{length, refl, subst}
use Rattle.stream_registry.specs.Gates.{numbers, told, told_at}
use Rattle.stream_registry.specs.SharedState.{shared_rules}
use Rattle.relay_worker.specs.Filed.{left_by, state_of}
use Rattle.media_recorder.specs.Leaves.{Goes}
use Rattle.relay_serve.proofs.Counted.{later_at}
use Rattle.relay_serve.proofs.Recording.{left_done}
use Rattle.relay_serve.proofs.ending.part.Goals as goal

pub returns-in-Done-clause-grown : goal.returns-in-Done-clause-grown
returns-in-Done-clause-grown g c =
    later_at (told_at c.args.port.now.roots) (told_at c.leave.new.port.roots) (state_of c.args.recorder).seat.place c.leave.ensures.port.here c.leave.ensures.port.others

pub returns-in-Busy-clause-grown : goal.returns-in-Busy-clause-grown
returns-in-Busy-clause-grown g c =
    later_at (told_at c.args.port.now.roots) (told_at c.leave.new.port.roots) (state_of c.args.recorder).seat.place c.leave.ensures.port.here c.leave.ensures.port.others

pub returns-in-OutOfMemory-clause-grown : goal.returns-in-OutOfMemory-clause-grown
returns-in-OutOfMemory-clause-grown g c =
    later_at (told_at c.args.port.now.roots) (told_at c.leave.new.port.roots) (state_of c.args.recorder).seat.place c.leave.ensures.port.here c.leave.ensures.port.others

pub returns-in-Done-clause-left : goal.returns-in-Done-clause-left
returns-in-Done-clause-left g c = λ yes_left.
    left_done shared_rules (λ s. told_at s.roots) (λ s. s.busies) (λ p. told p.seen) (λ p. numbers p.seen p.mine) (λ p. length p.seen)
    c.args.port.now c.leave.new.port (state_of c.args.recorder) (state_of c.args.recorder).player refl
    (subst (λ a. Goes shared_rules (λ s. told_at s.roots) (λ s. s.busies) (λ p. told p.seen) (λ p. numbers p.seen p.mine) (λ p. length p.seen)
    (state_of c.args.recorder).player c.args.port.now c.leave.new.port (state_of c.args.recorder) (left_by a)) c.in-Done.is c.leave.ensures.leaves.goes)
