use Rattle.std.proofs.Common.{◌≡◌, ◌<◌, ◌∙◌, sym, ap, subst, arith, length}
use Rattle.std.specs.Prelude.{slice_index_or}
use Rattle.command_dialog.specs.declared.types.Ask.{Ask}
use Rattle.command_dialog.specs.declared.types.Grant.{Grant}
use Rattle.relay_worker.specs.Books.{HasBooks}
use Rattle.relay_worker.specs.declared.bench.Terms.{Terms}
use Rattle.stream_registry.specs.Gates.{told, told_at}
use denote.Exit.{yes}
use denote.Param.Send.{arg_send, param_send}
use Rattle.stream_registry.specs.Names.{PortRules, places}
use Rattle.stream_registry.specs.SharedState.{shared_rules}
use Rattle.relay_serve.specs.Starts.{HasRules}
use Rattle.config_desk.specs.Grants.{granted_from}
use Rattle.relay_session.specs.Places.{IsGrantThere}
use Rattle.stream_registry.proofs.Crossing.{pass_send, port_send}
use Rattle.relay_serve.proofs.Offering.{offered_from}
use Rattle.relay_serve.proofs.Players.{ran_done, ran_rules, ran_serving, ran_there, some_weaker}
use Rattle.relay_serve.proofs.serving.run_workers.Goals as goal

pub run_beside-workers-requires-send-P : goal.run_beside-workers-requires-send-P
run_beside-workers-requires-send-P g c κs within = param_send 1 _ (arg_send _ yes _ port_send)

pub run_beside-workers-requires-send-P-Pass : goal.run_beside-workers-requires-send-P-Pass
run_beside-workers-requires-send-P-Pass g c κs within = param_send 6 _ (arg_send _ yes _ pass_send)

pub run_beside-workers-requires-clause-offered : goal.run_beside-workers-requires-clause-offered
run_beside-workers-requires-clause-offered g c κs within = λ i x l e a.
    let r = subst (λ y. HasRules (shared_rules c.args.port.now) y.bench.port) (sym e) (c.requires.rules i x l) in
    let q = c.requires.places in
    subst (λ (q : PortRules). IsGrantThere (places q) (granted_from 0 c.new-desk.result.list.now c.new-desk.result.opens.now a)) (sym r)
    (offered_from 0 (places (shared_rules c.args.port.now)) c.new-desk.result.list.now c.new-desk.result.opens.now a
    (omega (arith, ap length c.new-desk.ensures.0, ap length c.new-desk.ensures.1, q.streams, q.opens)))

pub run_beside-workers-requires-clause-http_offered : goal.run_beside-workers-requires-clause-http_offered
run_beside-workers-requires-clause-http_offered g c κs within =
    let q = c.requires.places in
    some_weaker (λ w. HasRules (shared_rules c.args.port.now) w.bench.port)
    (λ w. (a : Ask) → IsGrantThere (places (shared_rules w.bench.port)) (granted_from 0 c.new-desk.result.list.now c.new-desk.result.opens.now a))
    (λ w r a. subst (λ (q : PortRules). IsGrantThere (places q) (granted_from 0 c.new-desk.result.list.now c.new-desk.result.opens.now a)) (sym r)
    (offered_from 0 (places (shared_rules c.args.port.now)) c.new-desk.result.list.now c.new-desk.result.opens.now a
    (omega (arith, ap length c.new-desk.ensures.0, ap length c.new-desk.ensures.1, q.streams, q.opens)))) c.args.http c.requires.http_rules

pub returns-clause-run : goal.returns-clause-run
returns-clause-run g c = c.run_beside-workers.ensures.sessions.run

pub returns-clause-rules : goal.returns-clause-rules
returns-clause-rules g c = λ i d l.
    let s = c.run_beside-workers.ensures.sessions in
    let each = s.each in
    let m : i < length c.args.workers.items = omega (arith, each, l) in
    (s.keeps i d m).port.fixed ∙ c.requires.rules i d m

pub returns-clause-each : goal.returns-clause-each
returns-clause-each g c = omega (arith, c.run_beside-workers.ensures.sessions.each, c.run_beside-workers.result.0.ok.0, c.args.workers.ok.0)

pub returns-clause-serving : goal.returns-clause-serving
returns-clause-serving g c = λ i d l.
    let s = c.run_beside-workers.ensures.sessions in
    let each = s.each in
    let m : i < length c.args.workers.items = omega (arith, each, l) in
    let desk : granted_from 0 c.new-desk.result.list.now c.new-desk.result.opens.now ≡ granted_from 0 c.args.config.now.places c.args.config.now.opens =
    ap (λ l. granted_from 0 l c.new-desk.result.opens.now) c.new-desk.ensures.0 ∙ ap (granted_from 0 c.args.config.now.places) c.new-desk.ensures.1 in
    let o = c.requires.serving i d m in
    let k = s.keeps i d m in
    record {
      number_is = ap (λ (t : Terms). t.number) k.terms ∙ o.number_is;
      limited = ap (λ (t : Terms). t.limits) k.terms ∙ o.limited;
      links_are = ap (λ (t : Terms). t.links) k.terms ∙ o.links_are;
      books = subst (λ (f : Ask → Grant). HasBooks shared_rules (λ s. told_at s.roots) (λ p. told p.seen) g.D.Link.Link.told g.D.Link.Link.counts g.D.Door.told f (slice_index_or c.run_beside-workers.result.0.items i d)) desk
          (s.books i d m
          (subst (λ (f : Ask → Grant). HasBooks shared_rules (λ s. told_at s.roots) (λ p. told p.seen) g.D.Link.Link.told g.D.Link.Link.counts g.D.Door.told f (slice_index_or c.args.workers.items i d))
          (sym desk) o.books));
      labels = k.labels ∙ o.labels;
      tallies = s.tallies i d m o.tallies;
    }

pub returns-clause-http_there : goal.returns-clause-http_there
returns-clause-http_there g c =
    ran_there _ g.D.Link.Link.told g.D.Link.Link.counts g.D.Door.told _ c.args.http c.run_beside-workers.result.1 c.run_beside-workers.ensures.http

pub returns-clause-http_run : goal.returns-clause-http_run
returns-clause-http_run g c =
    ran_done _ g.D.Link.Link.told g.D.Link.Link.counts g.D.Door.told _ c.args.http c.run_beside-workers.result.1 c.run_beside-workers.ensures.http

pub returns-clause-http_rules : goal.returns-clause-http_rules
returns-clause-http_rules g c =
    ran_rules _ g.D.Link.Link.told g.D.Link.Link.counts g.D.Door.told _ (shared_rules c.args.port.now) c.args.http c.run_beside-workers.result.1
    c.run_beside-workers.ensures.http c.requires.http_rules

pub returns-clause-http_serving : goal.returns-clause-http_serving
returns-clause-http_serving g c =
    let desk : granted_from 0 c.new-desk.result.list.now c.new-desk.result.opens.now ≡ granted_from 0 c.args.config.now.places c.args.config.now.opens =
    ap (λ l. granted_from 0 l c.new-desk.result.opens.now) c.new-desk.ensures.0 ∙ ap (granted_from 0 c.args.config.now.places) c.new-desk.ensures.1 in
    ran_serving _ g.D.Link.Link.told g.D.Link.Link.counts g.D.Door.told c.args.config.now _ desk c.args.http c.run_beside-workers.result.1
    c.run_beside-workers.ensures.http c.requires.http_serving
