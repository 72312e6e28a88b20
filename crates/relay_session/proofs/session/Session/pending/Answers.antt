use Rattle.std.proofs.Common.{◌≡◌, ◌∙◌, Option, ap, subst, sym}
use Rattle.relay_session.specs.SessionState.{IsUnsent, SessionState, StandsFor, pending_by}
use Rattle.relay_session.specs.declared.end.End.{End}
use Rattle.relay_session.proofs.Unsent.{unsent_by}
use Rattle.relay_session.proofs.session.Session.pending.Goals as goal

pub returns-in-None-clause-value : goal.returns-in-None-clause-value
returns-in-None-clause-value g c =
    let i = c.self.inside in
    let n = c.pending_in.result in
    subst (λ (s : SessionState g.row.P-Pass.Denot). n ≡ pending_by s.ended s.parts) c.self.view_is (c.pending_in.ensures ∙ sym (ap (λ (o : Option End). pending_by o i.body.core) c.in-None.is))

pub returns-in-Some-clause-value : goal.returns-in-Some-clause-value
returns-in-Some-clause-value g c =
    let i = c.self.inside in
    subst (λ (s : SessionState g.row.P-Pass.Denot). 0 ≡ pending_by s.ended s.parts) c.self.view_is (sym (ap (λ (o : Option End). pending_by o i.body.core) c.in-Some.is))

pub returns-in-None-clause-owed : goal.returns-in-None-clause-owed
returns-in-None-clause-owed g c = λ desk st. (
    let i = c.self.inside in
    let n = c.pending_in.result in
    let was = subst (λ (s : SessionState g.row.P-Pass.Denot). StandsFor desk s) (sym c.self.view_is) st in
    subst (λ (s : SessionState g.row.P-Pass.Denot). IsUnsent s.ended desk s.parts n) c.self.view_is
    (unsent_by i.ended desk i.body.core n c.self.invariant was (c.pending_in.ensures ∙ sym (ap (λ (o : Option End). pending_by o i.body.core) c.in-None.is))))

pub returns-in-Some-clause-owed : goal.returns-in-Some-clause-owed
returns-in-Some-clause-owed g c = λ desk st. (
    let i = c.self.inside in
    let was = subst (λ (s : SessionState g.row.P-Pass.Denot). StandsFor desk s) (sym c.self.view_is) st in
    subst (λ (s : SessionState g.row.P-Pass.Denot). IsUnsent s.ended desk s.parts 0) c.self.view_is
    (unsent_by i.ended desk i.body.core 0 c.self.invariant was (sym (ap (λ (o : Option End). pending_by o i.body.core) c.in-Some.is))))
