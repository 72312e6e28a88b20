use Rattle.std.proofs.Common.{rules}
use Rattle.turn_gate.specs.InSlot.{InSlot}
use Rattle.turn_gate.proofs.Turning.{frees}
use Rattle.turn_gate.proofs.serve.free.Goals as goal

pub swap-requires : goal.swap-requires
swap-requires g c = let t = c.requires.turn in (search rules, search rules, frees (InSlot g.T.Machine.stands g.T.Machine.about) _ _ _ _ t.value g.W.Said.entry t.slot t.holds t.of_is t.fits)
