use Rattle.std.proofs.Common.{rules, ◌≡◌, ◌≢◌, ◌<◌, ◌∙◌, ℕ, List, [], Some, sym, ap, subst, arith}
use Rattle.relay_outside.specs.Houses.{HouseTold}
use Rattle.relay_session.specs.SeatState.{GoOn}
use Rattle.relay_session.specs.SeatVisits.{AllStand, Visit}
use Rattle.relay_session.proofs.SeatStanding.{all_later}
use Rattle.origin_pull.specs.declared.end.EdgeEnd.{EdgeEnd}
use Rattle.origin_pull.specs.declared.end.EdgeEnd.TheVariants as edge
use Rattle.relay_serve.specs.Ends.{RunsAs, seen}
use Rattle.relay_serve.specs.Http.{AsksAll}
use Rattle.relay_serve.specs.Recordings.{names_upto, with_names}
use Rattle.relay_serve.specs.declared.serving.Ending.TheVariants as end
use Rattle.std.specs.Prelude.{All, IfSome}
use Rattle.relay_serve.specs.Places.{AreShaped, HasPlaces}
use Rattle.relay_serve.specs.Starts.{HasRules}
use Rattle.relay_serve.proofs.Ends.{runs_unopened}
use Rattle.relay_serve.proofs.Opened.{few_places}
use Rattle.relay_serve.proofs.Counted.{later_then}
use Rattle.stream_registry.specs.Gates.{told_at}
use Rattle.stream_registry.specs.Names.{PortRules, places}
use Rattle.stream_registry.specs.Refusals.{IsFull}
use Rattle.stream_registry.specs.Roots.{Later, seen_at}
use Rattle.stream_registry.specs.SharedState.{shared_rules}
use Rattle.relay_serve.specs.declared.serving.Ending.{Ending}
use Rattle.edge_serve.specs.Ends.{RunsBoth, TellsAs}
use Rattle.edge_serve.specs.Line.{edge_line}
use Rattle.edge_serve.specs.Pulls.{HasPulled, edge_name, edge_place, origin}
use Rattle.edge_serve.specs.Words.{pull_of}
use Rattle.edge_serve.proofs.Ending.{IsTold, ruled, same_end, told_runs, unopened_runs}
use Rattle.edge_serve.proofs.Pulled.{pulled_later}
use Rattle.edge_serve.proofs.serving.run.Goals as goal

pub returns-in-Err : goal.returns-in-Err
returns-in-Err g c =
    let H = g.H.House in
    let K = g.K.Sink in
    let o = origin (g.L.Link.told c.args.link) (g.L.Link.counts c.args.link) in
    let k = pull_of c.args.target.address.now c.args.target.app.now c.args.target.name.now in
    let config = c.args.config.now in
    let held = K.holds c.args.out.now in
    let faults = K.faults c.args.out.now in
    let old = c.args.house.now in
    let new = c.make_ready.new.house in
    let r = runs_unopened config (λ q. []) held faults (H.told old) (H.told new) (H.asked old) (H.asked new) (H.named old) (H.named new) c.in-Err.fail
    c.in-Err.ensures.house in (
      λ q. [],
      subst (λ (x : Ending). RunsBoth k config (λ q. []) (seen held faults (H.told old) (H.asked old) (H.named old))
          (seen held faults (H.told new) (H.asked new) (H.named new)) o o x) (sym c.unopened.ensures)
          (unopened_runs k config (λ q. []) held faults (H.told old) (H.told new) (H.asked old) (H.asked new) (H.named old) (H.named new) c.in-Err.fail o r),
    )

pub run_both-pulled-requires-clause-pulls : goal.run_both-pulled-requires-clause-pulls
run_both-pulled-requires-clause-pulls g c κs within =
    let rows = c.in-Ok.ensures.places in
    let some = c.requires.lawful.some in
    let there_first : edge_place < places (shared_rules c.in-Ok.ready.port) = omega (arith, some, rows.streams, rows.opens) in
    let there : c.in-Ok.ready.spare ≡ Some c.in-Some.own = search rules in
    let own = ruled (shared_rules c.in-Ok.ready.port) c.in-Ok.ready.spare c.in-Some.own there c.in-Ok.ensures.spare_rules in
    record {
      short = c.requires.short;
      most = c.requires.lawful.numbers.max_message.1;
      there = subst (λ (q : PortRules). edge_place < places q) (sym own) there_first;
    }

pub run_both-pulled-requires-clause-runs : goal.run_both-pulled-requires-clause-runs
run_both-pulled-requires-clause-runs g c κs within =
    let e = c.in-Ok.ensures in
    let r = c.ready_workers-workers.ensures in
    record {
      total = few_places c.args.config.now c.requires.lawful;
      places = e.places;
      serving = record { rules_are = r.rules; serving = r.serving; http_rules = e.http_rules; http_serving = e.http_serving };
      ready = r.ready;
    }

pub gather-requires : goal.gather-requires
gather-requires g c =
    let there : c.in-Ok.ready.spare ≡ Some c.in-Some.own = search rules in
    c.run_both-pulled.ensures.pulls.fixed ∙ ruled (shared_rules c.in-Ok.ready.port) c.in-Ok.ready.spare c.in-Some.own there c.in-Ok.ensures.spare_rules

pub conclude-ending-requires-clause-total : goal.conclude-ending-requires-clause-total
conclude-ending-requires-clause-total g c κs within = few_places c.args.config.now c.requires.lawful

pub conclude-ending-requires-clause-places : goal.conclude-ending-requires-clause-places
conclude-ending-requires-clause-places g c κs within = subst (λ (q : PortRules). HasPlaces c.args.config.now q) (sym c.gather.ensures.same.0)
    c.in-Ok.ensures.places

pub conclude-ending-requires-clause-shaped : goal.conclude-ending-requires-clause-shaped
conclude-ending-requires-clause-shaped g c κs within = subst (λ (q : PortRules). AreShaped c.args.config.now q.limits) (sym c.gather.ensures.same.0)
    c.in-Ok.ensures.shaped

pub conclude-ending-requires-clause-few : goal.conclude-ending-requires-clause-few
conclude-ending-requires-clause-few g c κs within =
    omega (
      arith,
      c.run_both-pulled.ensures.runs.each,
      c.ready_workers-workers.ensures.each,
      c.in-Ok.ensures.few,
      c.run_both-pulled.result.1.0.ok.0,
      c.ready_workers-workers.result.ok.0,
    )

pub conclude-ending-requires-clause-run : goal.conclude-ending-requires-clause-run
conclude-ending-requires-clause-run g c κs within = c.run_both-pulled.ensures.runs.run

pub conclude-ending-requires-clause-rules : goal.conclude-ending-requires-clause-rules
conclude-ending-requires-clause-rules g c κs within =
    subst (λ (q : PortRules). All (λ x. HasRules q x.bench.port) c.run_both-pulled.result.1.0.items) (sym c.gather.ensures.same.0)
    c.run_both-pulled.ensures.runs.serving.rules_are

pub conclude-ending-requires-clause-each : goal.conclude-ending-requires-clause-each
conclude-ending-requires-clause-each g c κs within =
    omega (
      arith,
      c.run_both-pulled.ensures.runs.each,
      c.ready_workers-workers.ensures.each,
      c.in-Ok.ensures.each,
      c.run_both-pulled.result.1.0.ok.0,
      c.ready_workers-workers.result.ok.0,
    )

pub conclude-ending-requires-clause-serving : goal.conclude-ending-requires-clause-serving
conclude-ending-requires-clause-serving g c κs within = c.run_both-pulled.ensures.runs.serving.serving

pub conclude-ending-requires-clause-http_there : goal.conclude-ending-requires-clause-http_there
conclude-ending-requires-clause-http_there g c κs within = c.run_both-pulled.ensures.runs.there ∙ c.in-Ok.ensures.http_there

pub conclude-ending-requires-clause-http_run : goal.conclude-ending-requires-clause-http_run
conclude-ending-requires-clause-http_run g c κs within = c.run_both-pulled.ensures.runs.http_run

pub conclude-ending-requires-clause-http_rules : goal.conclude-ending-requires-clause-http_rules
conclude-ending-requires-clause-http_rules g c κs within =
    subst (λ (q : PortRules). IfSome c.run_both-pulled.result.1.1 (λ w. HasRules q w.bench.port)) (sym c.gather.ensures.same.0)
    c.run_both-pulled.ensures.runs.serving.http_rules

pub conclude-ending-requires-clause-http_serving : goal.conclude-ending-requires-clause-http_serving
conclude-ending-requires-clause-http_serving g c κs within = c.run_both-pulled.ensures.runs.serving.http_serving

pub returns : goal.returns
returns g c =
    let H = g.H.House in
    let K = g.K.Sink in
    let L = g.L.Link in
    let k = pull_of c.args.target.address.now c.args.target.app.now c.args.target.name.now in
    let config = c.args.config.now in
    let o = origin (L.told c.args.link) (L.counts c.args.link) in
    let o' = origin (L.told c.run_both-pulled.result.0.link) (L.counts c.run_both-pulled.result.0.link) in
    let ready = c.in-Ok.ensures in
    let attempts = seen_at c.conclude-ending.new.port.roots in
    let there : c.in-Ok.ready.spare ≡ Some c.in-Some.own = search rules in
    let streams = shared_rules c.in-Ok.ready.port in
    let before = c.args.out.now in
    let mid = c.conclude-ending.new.out in
    let after = c.tell_line.new.out in
    let house = c.conclude-ending.new.house in
    let own = ruled streams c.in-Ok.ready.spare c.in-Some.own there c.in-Ok.ensures.spare_rules in
    let runs = subst (λ (h : HouseTold). RunsAs config attempts
    (seen (K.holds c.args.out.now) (K.faults c.args.out.now) h (H.asked c.args.house.now) (H.named c.args.house.now))
    (seen (K.holds c.conclude-ending.new.out) (K.faults c.conclude-ending.new.out) (H.told c.conclude-ending.new.house)
    (H.asked c.conclude-ending.new.house) (H.named c.conclude-ending.new.house)) c.conclude-ending.result) ready.house
    (c.conclude-ending.ensures.runs (H.asked c.args.house.now)
    (subst (λ (n : ℕ). AsksAll config n (H.asked c.args.house.now) (H.asked c.make_ready.new.house)) ready.each ready.asked)
    (H.named c.args.house.now) (ready.named ∙ ap (λ (n : ℕ). with_names (H.named c.args.house.now) (names_upto config n)) ready.each)) in
    let p = c.run_both-pulled.ensures.pulls in
    let e = c.full_places-full.result.1 in
    let told : c.conclude-ending.result ≡ end.Served → e ≢ edge.OutOfMemory
    → IsTold k config attempts e c.run_both-pulled.result.0.line.items o o' = λ served n.
    let same : e ≡ c.run_both-pulled.result.0.end = same_end c.run_both-pulled.result.0.end e c.full_places-full.ensures.end n in
    let m : c.run_both-pulled.result.0.end ≢ edge.OutOfMemory = λ x. n (same ∙ x) in
    let later : Later (told_at c.run_both-pulled.result.0.port.roots) (told_at c.conclude-ending.new.port.roots) =
    later_then _ _ _ c.gather.ensures.later (c.conclude-ending.ensures.grown served) in
    let go : GoOn (told_at c.run_both-pulled.result.0.port.roots) (told_at c.conclude-ending.new.port.roots) = record { at_each = later.at } in
    let stand : (V : List Visit) → AllStand (shared_rules c.in-Some.own).limits (told_at c.run_both-pulled.result.0.port.roots) V
    → AllStand streams.limits (told_at c.conclude-ending.new.port.roots) V = λ V a.
    subst (λ (q : PortRules). AllStand q.limits (told_at c.conclude-ending.new.port.roots) V) own (all_later (shared_rules c.in-Some.own).limits _ _ V go a) in
    record {
      client = p.client;
      line_is = subst (λ (x : EdgeEnd). c.run_both-pulled.result.0.line.items ≡ edge_line x p.client) (sym same) (p.line_is m);
      shapes = streams.limits;
      shaped = ready.shaped;
      pulled = subst (λ (x : EdgeEnd). HasPulled k config.limits.max_message edge_name edge_place streams.limits
          (told_at c.conclude-ending.new.port.roots) x p.client o o') (sym same)
          (pulled_later k config.limits.max_message edge_name edge_place (shared_rules c.in-Some.own).limits streams.limits _
          (told_at c.conclude-ending.new.port.roots) c.run_both-pulled.result.0.end p.client o o' stand (p.pulled m));
      full = λ w. subst (λ (q : PortRules). IsFull (q.limits edge_place) (attempts edge_place)) c.gather.ensures.same.0
          (c.conclude-ending.ensures.full served edge_place (omega (arith, c.requires.lawful.some)) (c.full_places-full.ensures.full w));
    } in
    let slice : c.as_slice.result.now ≡ c.run_both-pulled.result.0.line.items = search rules in (
      attempts,
      told_runs k config attempts e c.run_both-pulled.result.0.line.items o o' (K.holds before) (K.holds mid) (K.holds after) (K.faults before)
          (K.faults mid) (K.faults after)
          (H.told c.args.house.now) (H.told house) (H.asked c.args.house.now) (H.asked house) (H.named c.args.house.now) (H.named house)
          p.played c.conclude-ending.result c.tell_line.result runs told c.conclude-ending.ensures.opened
          (subst (λ (l : List ℕ). TellsAs c.conclude-ending.result e l (K.holds mid) (K.faults mid) (K.holds after) (K.faults after) c.tell_line.result)
          slice c.tell_line.ensures),
    )
