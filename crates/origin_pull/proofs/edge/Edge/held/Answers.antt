use Rattle.std.proofs.Common.{◌+◌, subst, sym, ℕ}
use Rattle.rtmp_client.specs.Bounds.{IsWithin}
use Rattle.origin_pull.specs.EdgeState.{EdgeState}
use Rattle.origin_pull.specs.Keeping.{waiting_bytes}
use Rattle.origin_pull.proofs.Room.{held_most}
use Rattle.origin_pull.proofs.Standing.{living_room}
use Rattle.origin_pull.proofs.edge.Edge.held.Goals as goal

pub returns-clause-most : goal.returns-clause-most
returns-clause-most g c =
    let i = c.self.inside in
    let b = i.body in
    let room = living_room i.ended b.core b.client c.self.invariant in
    let most = held_most b.client c.held.result (waiting_bytes b.core) room c.held.ensures.holds c.held.ensures.most in
    subst (λ (s : EdgeState g.row.P-Pass.Denot). IsWithin s.client.parts.reader.max (c.held.result + c.waiting_len.result)) c.self.view_is
    (subst (λ (n : ℕ). IsWithin b.client.parts.reader.max (c.held.result + n)) (sym c.waiting_len.ensures.value) most)
