use Rattle.std.proofs.Common.{ap, sym, ◌∙◌}
use Rattle.relay_session.specs.Owing.{Owing}
use Rattle.relay_session.proofs.Pending.{unit_says}
use Rattle.relay_session.proofs.outgoing.Outgoing.show_unit.Goals as goal

pub returns-clause-shown : goal.returns-clause-shown
returns-clause-shown c =
    unit_says c.args.self.now c.args.stream c.args.unit c.self.inside.writer c.begin.new.writer c.in_ok-hand.hand c.reserve.new.self c.new.result
    (sym (ap (λ (o : Owing). o.writer) c.self.view_is)) c.requires c.in_ok-hand.ensures.hand c.in_ok-hand.ensures.writer (c.reserve.ensures ∙ c.truncate.ensures) c.new.ensures
