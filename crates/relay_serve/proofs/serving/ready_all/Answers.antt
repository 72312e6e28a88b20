use Rattle.std.proofs.Common.{◌≡◌, ◌<◌, ◌∙◌, ap, arith, length}
use Rattle.std.proofs.lemmas.List.Elements.{All-set}
use Rattle.relay_worker.proofs.Numbered.{each_set, first_set}
use Rattle.relay_worker.specs.declared.bench.Terms.{Terms}
use Rattle.stream_registry.specs.SharedState.{shared_rules}
use Rattle.config_desk.specs.Grants.{granted_from}
use Rattle.relay_serve.specs.Settling.{IsServing}
use Rattle.relay_serve.specs.Starts.{AreReady, HasRules}
use Rattle.relay_serve.proofs.serving.ready_all.Goals as goal

pub loop-worker-preserved : goal.loop-worker-preserved
loop-worker-preserved g c =
    let i = c.loop-worker.invariant in
    let e = c.ready.ensures in
    let at = c.loop-worker.worker-index in
    let xs = c.loop-worker.workers in
    let d = c.worker-item.result in
    let within : at < length xs = omega (arith, c.loop-worker.auto.workers, c.loop-worker-test.true) in
    let P = IsServing c.args.config.now g.D.Link.Link.told g.D.Link.Link.counts g.D.Door.told g.K.Sink.holds g.K.Sink.faults in
    let o = i.serving at d within in
    let k = e.keeps in
    record {
      rules = All-set (λ x. HasRules (shared_rules c.args.port.now) x.bench.port) xs at c.ready.new.self (k.port.fixed ∙ i.rules at d within) i.rules;
      serving = each_set P xs at c.ready.new.self i.serving
          (record {
            number_is = ap (λ (t : Terms). t.number) k.terms ∙ o.number_is;
            limited = ap (λ (t : Terms). t.limits) k.terms ∙ o.limited;
            links_are = ap (λ (t : Terms). t.links) k.terms ∙ o.links_are;
            books = e.books (granted_from 0 c.args.config.now.places c.args.config.now.opens) o.books;
            labels = k.labels ∙ o.labels;
            tallies = e.tallies o.tallies;
          });
      ready = first_set AreReady xs at c.ready.new.self within i.ready e.ready;
    }

pub returns-clause-ready : goal.returns-clause-ready
returns-clause-ready g c =
    let e : c.loop-worker.worker-index ≡ length c.args.workers.now = omega (arith, c.loop-worker.auto.worker-index-end, c.loop-worker-test.false) in
    λ i d le. c.loop-worker.invariant.ready i d (omega (arith, le, e, c.loop-worker.auto.workers))
