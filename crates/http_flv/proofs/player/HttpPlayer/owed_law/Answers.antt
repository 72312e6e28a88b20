use Rattle.std.proofs.Common.{subst, sym}
use Rattle.http_flv.specs.PlayerState.{OwesBy, PlayerState, StandsFor}
use Rattle.http_flv.proofs.Owing.{owes_by}
use Rattle.http_flv.proofs.player.HttpPlayer.owed_law.Goals as goal

pub returns : goal.returns
returns g c = λ desk st. (
    let i = c.self.inside in
    let was = subst (λ (s : PlayerState g.row.P-Pass.Denot). StandsFor desk s) (sym c.self.view_is) st in
    subst (λ (s : PlayerState g.row.P-Pass.Denot). OwesBy s.ended desk s.parts) c.self.view_is (owes_by i.ended desk i.body.core was))
