use Rattle.passes_law.proofs.Guests.{player_keeps}
use Rattle.passes_law.proofs.laws.players_law.Goals as goal

pub returns : goal.returns
returns g c = λ desk ended v w l m a t.
    let P = g.P.StreamPort in
    let L = g.L.Link in
    player_keeps P.fits P.rules P.root P.seen P.count P.wants P.busies P.adds P.kin P.branches desk L.hears L.says ended v l a w m t
