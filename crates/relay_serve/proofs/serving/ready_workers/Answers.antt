use Rattle.std.proofs.Common.{rules, ◌≡◌, length, subst, sym}
use Rattle.std.specs.Prelude.{All}
use Rattle.relay_worker.specs.Running.{EachAt}
use Rattle.stream_registry.specs.SharedState.{shared_rules}
use Rattle.relay_serve.specs.Settling.{IsServing}
use Rattle.relay_serve.specs.Starts.{AreReady, HasRules}
use Rattle.relay_serve.proofs.Ruled.{kept_all}
use Rattle.relay_serve.proofs.serving.ready_workers.Goals as goal

pub ready_all-requires-clause-rules : goal.ready_all-requires-clause-rules
ready_all-requires-clause-rules g c κs within =
    let same : c.as_mut_slice.result.now ≡ c.args.workers.items = search rules in
    subst (All (λ x. HasRules (shared_rules c.args.port.now) x.bench.port)) (sym same) c.requires.rules

pub ready_all-requires-clause-serving : goal.ready_all-requires-clause-serving
ready_all-requires-clause-serving g c κs within =
    let same : c.as_mut_slice.result.now ≡ c.args.workers.items = search rules in
    subst (EachAt (IsServing c.args.config.now g.D.Link.Link.told g.D.Link.Link.counts g.D.Door.told g.K.Sink.holds g.K.Sink.faults)) (sym same) c.requires.serving

pub returns-clause-rules : goal.returns-clause-rules
returns-clause-rules g c =
    let xs = c.ready_all.new.workers in
    let long : length xs ≡ c.args.workers.len = search rules in
    subst (All (λ x. HasRules (shared_rules c.args.port.now) x.bench.port)) (sym (kept_all c.args.workers.len xs _ long)) c.ready_all.ensures.rules

pub returns-clause-serving : goal.returns-clause-serving
returns-clause-serving g c =
    let xs = c.ready_all.new.workers in
    let long : length xs ≡ c.args.workers.len = search rules in
    subst (EachAt (IsServing c.args.config.now g.D.Link.Link.told g.D.Link.Link.counts g.D.Door.told g.K.Sink.holds g.K.Sink.faults)) (sym (kept_all c.args.workers.len xs _ long)) c.ready_all.ensures.serving

pub returns-clause-ready : goal.returns-clause-ready
returns-clause-ready g c =
    let xs = c.ready_all.new.workers in
    let long : length xs ≡ c.args.workers.len = search rules in
    subst (All AreReady) (sym (kept_all c.args.workers.len xs _ long)) c.ready_all.ensures.ready
