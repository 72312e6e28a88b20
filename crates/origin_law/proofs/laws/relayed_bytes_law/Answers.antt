use Rattle.client_owed.specs.Pulled.{pulled}
use Rattle.origin_calls.proofs.Relaying.{comes, inter_relayed}
use Rattle.origin_law.proofs.Told.{hears}
use Rattle.origin_law.proofs.laws.relayed_bytes_law.Goals as goal

pub returns-clause-units : goal.returns-clause-units
returns-clause-units c = λ k who window max edge desk x y ms ns T C limits far past origin player w h l p s.
    comes edge (pulled k ns) limits far past origin player s (hears k ns C far origin player
    (c.pull_bytes_law.ensures k who window max desk x y ms ns T C w h) l p)

pub returns-clause-inters : goal.returns-clause-inters
returns-clause-inters c = λ k who window max edge desk x y ms ns T C limits far past origin player w h l p s.
    inter_relayed edge (pulled k ns) limits far past origin player s
    (hears k ns C far origin player (c.pull_bytes_law.ensures k who window max desk x y ms ns T C w h) l p)
