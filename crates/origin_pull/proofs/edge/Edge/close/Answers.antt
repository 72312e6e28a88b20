use Rattle.std.proofs.Common.{sym, subst, Some}
use Rattle.relay_session.specs.SeatState.{place_of}
use Rattle.origin_pull.specs.EdgeState.{end_or_closed}
use Rattle.origin_pull.specs.Keeping.{HasEnded}
use Rattle.origin_pull.specs.declared.end.EdgeEnd.{EdgeEnd}
use Rattle.origin_pull.proofs.Standing.{closed, living_stands}
use Rattle.origin_pull.proofs.edge.Edge.close.Goals as goal

pub invariant_of-self : goal.invariant_of-self
invariant_of-self g c =
    let i = c.self.inside in
    let b = i.body in
    let l = c.leave in
    subst (λ (e : EdgeEnd). HasEnded e (record b.core { kept = l.new.kept }) b.client) (sym c.end_or_closed.ensures)
    (closed i.ended b.core l.new.kept b.client (place_of b.seat.spot) l.result b.core.who 0 b.seat.active l.new.self.active b.seat.visits
    l.new.self.visits l.ensures.leaves c.self.invariant)

pub returns-clause-stands : goal.returns-clause-stands
returns-clause-stands g c =
    let i = c.self.inside in
    let b = i.body in
    let l = c.leave in
    living_stands (Some c.end_or_closed.result) (record b.core { kept = l.new.kept }) b.client
    (subst (λ (e : EdgeEnd). HasEnded e (record b.core { kept = l.new.kept }) b.client) (sym c.end_or_closed.ensures)
    (closed i.ended b.core l.new.kept b.client (place_of b.seat.spot) l.result b.core.who 0 b.seat.active l.new.self.active b.seat.visits
    l.new.self.visits l.ensures.leaves c.self.invariant))
