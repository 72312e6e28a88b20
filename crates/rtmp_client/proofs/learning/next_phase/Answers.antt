use Rattle.std.proofs.Common.{sym, ap, ◌∙◌}
use Rattle.client_owed.specs.declared.types.Phase.{Phase}
use Rattle.client_owed.specs.Client.{learns}
use Rattle.rtmp_client.proofs.learning.next_phase.Goals as goal

pub returns-in-Connecting : goal.returns-in-Connecting
returns-in-Connecting c = c.behind_connect.ensures c.args.asked.now ∙ ap (λ (p : Phase). (learns c.args.asked.now p c.args.news.now).phase) (sym c.in-Connecting.is)

pub returns-in-Creating : goal.returns-in-Creating
returns-in-Creating c = c.behind_create.ensures c.args.asked.now ∙ ap (λ (p : Phase). (learns c.args.asked.now p c.args.news.now).phase) (sym c.in-Creating.is)
