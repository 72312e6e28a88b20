use Rattle.std.proofs.Common.{rules, ◌≡◌, Some}
use Rattle.relay_serve.proofs.Players.{asked_at}
use Rattle.relay_serve.proofs.http.open_http.Goals as goal

pub returns-clause-asked : goal.returns-clause-asked
returns-clause-asked g c =
    let at = c.as_slice.result.now in
    let is : c.args.config.now.http ≡ Some at = search rules in
    asked_at c.args.config.now at (g.H.House.asked c.args.house.now) (g.H.House.asked c.open_at.new.house) is c.in_ok-worker.ensures.asked
