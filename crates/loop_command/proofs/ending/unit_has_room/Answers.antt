use Rattle.std.proofs.Common.{◌<◌, ◌^◌, subst, ℕ}
use Rattle.loop_command.proofs.Settling.{fits_room}
use Rattle.loop_command.proofs.ending.unit_has_room.Goals as goal

pub returns : goal.returns
returns c =
    let t = c.time_of.ensures in
    (fits_room c.args.unit.now.kind c.args.unit.now.body c.unit.ensures.fits, subst (λ (n : ℕ). n < 2 ^ 32) t.same t.fits)
