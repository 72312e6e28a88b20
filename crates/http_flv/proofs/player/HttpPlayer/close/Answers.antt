use Rattle.http_flv.proofs.Sounding.{living_ended}
use Rattle.http_flv.proofs.player.HttpPlayer.close.Goals as goal

pub invariant_of-self : goal.invariant_of-self
invariant_of-self g c =
    let i = c.self.inside in
    let h = living_ended i.ended i.body.core c.self.invariant in
    record { counted = h.counted; head = h.head; light = h.light; short = h.short }
