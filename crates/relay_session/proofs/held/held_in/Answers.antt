use Rattle.std.proofs.Common.{◌≤◌, ap, arith, length}
use Rattle.relay_session.specs.Bounds.{kept_name}
use Rattle.relay_session.proofs.Holds.{name_few, parts_room}
use Rattle.relay_session.proofs.held.held_in.Goals as goal

pub returns-clause-holds : goal.returns-clause-holds
returns-clause-holds c = record {
  parts = c.held-parts.result;
  read = record { lives = c.held-parts.ensures.lives; failed = c.held-parts.ensures.failed };
  sum = omega (arith, c.held-app.ensures.value, c.kept_bytes-kept.ensures, c.kept_name-name.ensures.value, c.unit_len-unit.ensures.value, ap length c.later.ensures, ap length c.ready.ensures.value, ap length c.left.ensures.value, c.held-hand.ensures.value);
}

pub returns-clause-most : goal.returns-clause-most
returns-clause-most c =
    let d = c.args.core.now in
    let parts = parts_room d.hand d.reader c.held-parts.result d.kept (record { lives = c.held-parts.ensures.lives; failed = c.held-parts.ensures.failed }) c.requires.room in
    let named : kept_name d.kept ≤ 64 = omega (arith, c.kept_name-name.ensures.value, c.kept_name-name.ensures.most) in
    let few = name_few d.outgoing.others d.kept c.requires.light named in
    omega (arith, c.requires.fits.unit, c.requires.fits.same, parts, few, c.held-app.ensures.most, c.kept_bytes-kept.ensures, c.kept_name-name.ensures.value, c.unit_len-unit.ensures.value, c.ready.ensures.most, c.left.ensures.short, ap length c.later.ensures, ap length c.ready.ensures.value, ap length c.left.ensures.value, c.held-hand.ensures.value)
