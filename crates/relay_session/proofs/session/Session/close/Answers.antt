use Rattle.std.proofs.Common.{refl, subst, sym}
use Rattle.relay_session.proofs.ActingTurns.{closed_acts}
use Rattle.relay_session.proofs.Coming.{closed_come, done_come}
use Rattle.relay_session.proofs.Whole.{left_kept, living_closed}
use Rattle.relay_session.specs.Acting.{Acting}
use Rattle.relay_session.specs.Coming.{HasCome}
use Rattle.relay_session.specs.SeatState.{place_of}
use Rattle.relay_session.specs.SessionState.{SessionState}
use Rattle.relay_session.proofs.session.Session.close.Goals as goal

pub invariant_of-self : goal.invariant_of-self
invariant_of-self g c =
    let i = c.self.inside in
    let b = i.body in
    let l = c.leave in
    living_closed i.ended c.end_or_quit.result b.core l.new.kept c.self.invariant
    (left_kept (place_of b.seat.spot) b.core.who b.core.fed b.core.kept b.seat.active b.seat.visits l.result l.new.kept l.new.self.active l.new.self.visits l.ensures.leaves)

pub returns-clause-made : goal.returns-clause-made
returns-clause-made g c = λ h e. (
    let b = c.self.inside.body in
    let l = c.leave in
    let was = subst (λ (s : SessionState g.row.P-Pass.Denot). HasCome s.parts s.seat) (sym c.self.view_is) h in
    done_come (place_of b.seat.spot) b.core.place b.core.who b.core.fed b.core.kept b.seat.active b.seat.visits l.result l.new.kept l.new.self.active l.new.self.visits was l.ensures.leaves e)

pub returns-clause-waits : goal.returns-clause-waits
returns-clause-waits g c = λ h n. (
    let b = c.self.inside.body in
    let l = c.leave in
    let was = subst (λ (s : SessionState g.row.P-Pass.Denot). HasCome s.parts s.seat) (sym c.self.view_is) h in
    closed_come (place_of b.seat.spot) (place_of l.new.self.spot) b.core.place b.core.who b.core.fed b.core.kept b.seat.active b.seat.visits l.result l.new.kept l.new.self.active l.new.self.visits was l.ensures.leaves l.ensures.spot n)

pub returns-clause-acts : goal.returns-clause-acts
returns-clause-acts g c = λ h. (
    let b = c.self.inside.body in
    let l = c.leave in
    let was = subst (λ (s : SessionState g.row.P-Pass.Denot). Acting s.parts s.seat) (sym c.self.view_is) h in
    closed_acts b.core (record b.core { kept = l.new.kept }) b.seat l.new.self b.core.who b.core.fed refl was l.result l.ensures.spot l.ensures.leaves)
