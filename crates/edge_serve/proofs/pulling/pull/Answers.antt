use Rattle.std.proofs.Common.{◌≡◌, ◌<◌, ◌∙◌, inl, inr, None, refl, sym, ap, subst, arith}
use Rattle.origin_pull.specs.declared.end.EdgeEnd.{EdgeEnd}
use Rattle.stream_registry.specs.Gates.{told, told_at}
use Rattle.stream_registry.specs.Names.{PortRules, places}
use Rattle.stream_registry.specs.SharedState.{shared_rules}
use Rattle.relay_session.specs.SeatVisits.{AllStand}
use Rattle.edge_serve.specs.Line.{edge_line}
use Rattle.edge_serve.specs.Pulls.{HasPulled, edge_name, edge_place, origin}
use Rattle.edge_serve.specs.Words.{pull_of}
use Rattle.edge_serve.proofs.Ending.{same_end}
use Rattle.edge_serve.proofs.Pulled.{has_pulled, new_at, new_drives, new_stands, nothing_played, stands_root}
use Rattle.edge_serve.proofs.pulling.pull.Goals as goal

-- there was no memory for a client
pub returns-in_default-clause-alone : goal.returns-in_default-clause-alone
returns-in_default-clause-alone g c = inl (refl, refl)

pub returns-in_default-clause-pulled : goal.returns-in_default-clause-pulled
returns-in_default-clause-pulled g c =
    record { fixed = refl; played = nothing_played _ _ _; client = None; line_is = λ n. absurd (n refl); pulled = λ n. absurd (n refl) }

pub drive-end-requires-clause-at : goal.drive-end-requires-clause-at
drive-end-requires-clause-at g c =
    let m = c.new_edge-edge.ensures.made in
    let there : c.new_edge-edge.result.parts.place < places (shared_rules c.args.port) = omega (arith, m.place, c.requires.there) in
    new_at _ _ c.new_edge-edge.result m.seat m.calls there

pub returns-clause-alone : goal.returns-clause-alone
returns-clause-alone g c =
    let d = c.drive-end in
    let w = c.leave-worn in
    inr (record {
      client = c.in-Ok.client;
      new = c.in-Ok.ensures.new;
      made = c.new_edge-edge.result;
      is_made = c.new_edge-edge.ensures.made;
      over = d.new.edge;
      between = d.new.port;
      turns = d.ensures.turns;
      ended = d.ensures.ended;
      gone = w.new.edge;
      closes = w.ensures.closes;
      away = w.ensures.away;
    })

pub returns-clause-pulled : goal.returns-clause-pulled
returns-clause-pulled g c =
    let L = g.L.Link in
    let k = pull_of c.args.stream.address.now c.args.stream.app.now c.args.stream.name.now in
    let max = c.args.stream.longest in
    let start = origin (L.told c.args.link) (L.counts c.args.link) in
    let now = origin (L.told c.drive-end.new.link) (L.counts c.drive-end.new.link) in
    let rules = shared_rules c.args.port in
    let s = c.drive-end.new.edge in
    let t = c.leave-worn.new.edge in
    let port = c.leave-worn.new.port in
    let d = c.drive-end.ensures in
    let e = c.leave-worn.ensures in
    let m = c.new_edge-edge.ensures.made in
    let fixed : shared_rules port ≡ rules = e.fixed ∙ d.fixed in
    let first = new_stands shared_rules (λ x. told_at x.roots) (λ p. told p.seen) c.args.port c.new_edge-edge.result m.seat in
    let stand = stands_root shared_rules (λ x. told_at x.roots) (λ p. told p.seen) port t.seat e.away (e.known (d.known first)) in
    let drives = new_drives k max edge_name edge_place start c.new_edge-edge.result c.in-Ok.client c.in-Ok.ensures.new c.in-Ok.ensures.empty
    c.in-Ok.ensures.asked c.in-Ok.ensures.max m.client c.new_edge-edge.ensures.lives m.who m.place in
    let pulled = has_pulled c.one_reading.ensures _ _ k max edge_name edge_place rules.limits (told_at port.roots) start now c.drive-end.result
    c.leave-worn.result s t
    (d.driven k max edge_name edge_place start drives) d.stands d.at e.client e.here e.left
    (subst (λ (r : PortRules). AllStand r.limits (told_at port.roots) t.seat.visits) fixed stand) in
    let over = c.line_of-end.result.0 in
    let line = c.line_of-end.ensures in
    record {
      fixed = fixed;
      played = pulled.link;
      client = t.client.ended;
      line_is = λ n. line.line n ∙ ap (edge_line over) c.client_end-2.ensures;
      pulled = λ n. subst (λ (x : EdgeEnd). HasPulled k max edge_name edge_place rules.limits (told_at port.roots) x t.client.ended start now)
          (sym (same_end c.end_then-end.result over line.end n ∙ c.end_then-end.ensures)) pulled;
    }
