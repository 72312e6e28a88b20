use Rattle.std.proofs.Common.{subst, sym}
use Rattle.relay_session.specs.SessionState.{BeginsOwed, IsWhole, SessionState, StandsFor}
use Rattle.relay_session.proofs.Unsent.{begins_owed}
use Rattle.relay_session.proofs.Whole.{whole_by}
use Rattle.relay_session.proofs.session.Session.owed_law.Goals as goal

pub returns-clause-owed : goal.returns-clause-owed
returns-clause-owed g c = λ desk st. (
    let i = c.self.inside in
    let was = subst (λ (s : SessionState g.row.P-Pass.Denot). StandsFor desk s) (sym c.self.view_is) st in
    subst (λ (s : SessionState g.row.P-Pass.Denot). BeginsOwed desk s.parts) c.self.view_is (begins_owed i.ended desk i.body.core c.self.invariant was))

pub returns-clause-whole : goal.returns-clause-whole
returns-clause-whole g c = λ desk st. (
    let i = c.self.inside in
    let was = subst (λ (s : SessionState g.row.P-Pass.Denot). StandsFor desk s) (sym c.self.view_is) st in
    subst (λ (s : SessionState g.row.P-Pass.Denot). IsWhole desk s.parts) c.self.view_is (whole_by i.ended desk i.body.core c.self.invariant was))
