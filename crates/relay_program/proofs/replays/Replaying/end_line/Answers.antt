use Rattle.std.proofs.Common.{◌+◌, ◌≤◌, ◌^◌, refl, arith, rules}
use Rattle.relay_program.specs.declared.replays.Replaying.{Replaying}
use Rattle.relay_program.proofs.ReplaySteps.{feed_stops, feed_goes}
use Rattle.relay_program.proofs.replays.Replaying.end_line.Goals as goal

pub returns-in_err-obey-clause-goes : goal.returns-in_err-obey-clause-goes
returns-in_err-obey-clause-goes g c = λ more.
    let near : c.args.self.now.place + 1 ≤ 2 ^ 28 = omega (arith, c.if-self-eq-MOST_BYTES.false, c.requires.place) in
    let h = feed_stops c.in_err-obey.field-0.0 c.args.self.now more near (rw c.as_slice.ensures at c.in_err-obey.ensures.obeyed) in
    search (rules, h)

pub returns-clause-goes : goal.returns-clause-goes
returns-clause-goes g c = λ more.
    let near : c.args.self.now.place + 1 ≤ 2 ^ 28 = omega (arith, c.if-self-eq-MOST_BYTES.false, c.requires.place) in
    let new : Replaying = record {
      alloc = c.args.self.now.alloc;
      scene = c.obey.new.scene;
      line = c.new.result;
      place = c.args.self.now.place + 1;
      number = c.args.self.now.number + 1;
    } in
    feed_goes c.args.self.now new more near c.new.ensures refl refl (rw c.as_slice.ensures at c.in_ok-obey.ensures.obeyed)
