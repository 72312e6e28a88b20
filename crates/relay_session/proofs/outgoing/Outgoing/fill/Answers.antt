use Rattle.relay_session.proofs.Pending.{fill_same}
use Rattle.relay_session.proofs.outgoing.Outgoing.fill.Goals as goal

pub returns-else-left-eq0-clause-bytes : goal.returns-else-left-eq0-clause-bytes
returns-else-left-eq0-clause-bytes c =
    let i = c.self.inside in
    fill_same c.args.self.now i.first c.fill.new.out i.offset i.item i.hand c.in-Some.hand c.fill.new.self i.later i.writer c.self.view_is c.in-Some.is c.self.invariant.within c.in_ok-fill-in-Some.ensures.goes
