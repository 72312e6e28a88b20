use Rattle.std.proofs.Common.{arith}
use Rattle.http_flv.proofs.Sounding.{living_ended}
use Rattle.http_flv.proofs.player.HttpPlayer.held.Goals as goal

pub overflow_add-result : goal.overflow_add-result
overflow_add-result g c =
    let h = living_ended c.self.inside.ended c.self.inside.body.core c.self.invariant in
    omega (arith, h.head, h.light, h.short, c.len-head.ensures, c.size-out.ensures)
