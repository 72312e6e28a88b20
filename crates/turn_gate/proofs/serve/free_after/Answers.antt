use Rattle.std.proofs.Common.{sym, subst}
use Rattle.turn_gate.specs.Histories.{grown}
use Rattle.turn_gate.specs.InSlot.{InSlot}
use Rattle.turn_gate.proofs.serve.free_after.Goals as goal

pub free-requires-clause-turn : goal.free-requires-clause-turn
free-requires-clause-turn g c = let t = c.requires.turn in record {
  holds = t.holds;
  of_is = t.of_is;
  value = t.value;
  slot = t.slot;
  fits = subst (λ said. InSlot g.T.Machine.stands g.T.Machine.about c.args.turns.now.key t.value (grown c.args.seat.now.me.0.whole said)) (sym c.requires.said) t.fits;
}
