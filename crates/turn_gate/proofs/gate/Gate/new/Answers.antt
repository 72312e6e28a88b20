use Rattle.std.proofs.Common.{rules, arith, sym, refl}
use Rattle.turn_gate.specs.InSlot.{InSlot}
use Rattle.turn_gate.proofs.Turning.{starts_at}
use Rattle.turn_gate.proofs.gate.Gate.new.Goals as goal

pub new-requires : goal.new-requires
new-requires g c = starts_at (InSlot g.T.Machine.stands g.T.Machine.about) c.args.about.now _ record { machine = c.args.machine; calls = 0 } (search rules)
    record { about_is = sym c.requires.1; stood = c.requires.0; counted = refl; bounded = omega arith }
