use Rattle.std.proofs.Common.{◌≡◌, ◌+◌, ◌||◌, false, ap, refl, subst, ◌∙◌, sym, Some, arith, length}
use Rattle.std.proofs.lemmas.List.Elements.{All-nil, All-pop, All-push, All-same, All-weaker}
use Rattle.std.specs.Prelude.{All}
use Rattle.relay_worker.specs.Running.{EachAt, HasRun}
use Rattle.stream_registry.specs.SharedState.{shared_rules}
use Rattle.stream_registry.specs.Gates.{told_at}
use Rattle.relay_serve.specs.Settling.{IsBalanced, IsLeft, IsServing}
use Rattle.relay_serve.specs.Starts.{HasRules}
use Rattle.relay_serve.proofs.Counted.{later_same, later_then}
use Rattle.relay_worker.proofs.Numbered.{each_none, each_pop, each_push}
use Rattle.relay_serve.proofs.Settling.{balanced_as, balanced_later, balanced_worn, left_as, or_false, or_false_first, or_false_last}
use Rattle.relay_serve.proofs.Ruled.{popped}
use Rattle.relay_serve.proofs.ending.take_all_apart.Goals as goal

pub take_apart-left-requires-clause-run : goal.take_apart-left-requires-clause-run
take_apart-left-requires-clause-run g c κs within =
    (All-pop (λ x. HasRun g.D.Door.told x) c.loop-worker.workers.items c.pop.new.self.items (Some c.in-Some.worker) c.in-Some.ensures.items c.loop-worker.invariant.run).1

pub take_apart-left-requires-clause-rules : goal.take_apart-left-requires-clause-rules
take_apart-left-requires-clause-rules g c κs within =
    (All-pop (λ x. HasRules (shared_rules c.args.first.now) x.bench.port) c.loop-worker.workers.items c.pop.new.self.items (Some c.in-Some.worker) c.in-Some.ensures.items
    c.loop-worker.invariant.workers).1 ∙ sym c.loop-worker.invariant.rules

pub take_apart-left-requires-clause-serving : goal.take_apart-left-requires-clause-serving
take_apart-left-requires-clause-serving g c κs within =
    let P = IsServing c.args.config.now g.D.Link.Link.told g.D.Link.Link.counts g.D.Door.told g.K.Sink.holds g.K.Sink.faults in
    let number : length c.pop.new.self.items ≡ c.len-number.result = omega (arith, c.pop.new.self.ok.0) in
    subst (λ n. P n c.in-Some.worker) number
    (each_pop P c.loop-worker.workers.items c.pop.new.self.items c.in-Some.worker c.in-Some.ensures.items c.loop-worker.invariant.serving).1

pub loop-worker-preserved : goal.loop-worker-preserved
loop-worker-preserved g c =
    let i = c.loop-worker.invariant in
    let e = c.take_apart-left.ensures in
    let pushed = rw c.if-is_err.ensures.negation at c.push.ensures.items in
    let h = told_at c.loop-worker.first.roots in
    let k = told_at c.take_apart-left.new.first.roots in
    let streams = (shared_rules c.args.first.now).limits in
    let shorter = popped c.loop-worker.workers.items c.pop.new.self.items c.in-Some.worker c.in-Some.ensures.items in
    record {
      run = (All-pop (λ x. HasRun g.D.Door.told x) c.loop-worker.workers.items c.pop.new.self.items (Some c.in-Some.worker) c.in-Some.ensures.items i.run).0;
      workers = (All-pop (λ x. HasRules (shared_rules c.args.first.now) x.bench.port) c.loop-worker.workers.items c.pop.new.self.items (Some c.in-Some.worker)
          c.in-Some.ensures.items i.workers).0;
      serving = (each_pop (IsServing c.args.config.now g.D.Link.Link.told g.D.Link.Link.counts g.D.Door.told g.K.Sink.holds g.K.Sink.faults) c.loop-worker.workers.items c.pop.new.self.items
          c.in-Some.worker c.in-Some.ensures.items i.serving).0;
      few = omega (arith, shorter, i.few);
      rules = e.rules ∙ i.rules;
      grown = later_then (told_at c.args.first.now.roots) h k i.grown e.grown;
      all = omega (arith, popped c.push.new.self.items c.loop-worker.list.items _ pushed, shorter, i.all);
      numbered = subst (λ l. EachAt (λ n x. x.number + n + 1 ≡ length c.args.workers.items) l) (sym pushed)
          (each_push (λ n x. x.number + n + 1 ≡ length c.args.workers.items) c.loop-worker.list.items c.take_apart-left.result.0 i.numbered
          (omega (arith, e.number, c.pop.new.self.ok.0, shorter, i.all)));
      left = All-same (λ x. IsLeft c.args.config.now g.K.Sink.holds g.K.Sink.faults (shared_rules c.args.first.now) x.number (g.D.Door.told x.door) x.recorders.items) _ _ pushed
          (All-push (λ x. IsLeft c.args.config.now g.K.Sink.holds g.K.Sink.faults (shared_rules c.args.first.now) x.number (g.D.Door.told x.door) x.recorders.items)
          c.loop-worker.list.items c.take_apart-left.result.0 i.left
          (left_as c.args.config.now g.K.Sink.holds g.K.Sink.faults (shared_rules c.loop-worker.first) (shared_rules c.args.first.now) c.take_apart-left.result.0.number _
          (g.D.Door.told c.take_apart-left.result.0.door) c.take_apart-left.result.0.recorders.items i.rules (sym e.number) e.left));
      balanced = λ r.
          let both = or_false c.loop-worker.refused c.take_apart-left.result.1 r in
          let old = c.loop-worker.worn in
          let one = c.take_apart-left.result.2 in
          All-same (λ x. IsBalanced c.args.config.now streams k (old || one) x.number (g.D.Door.told x.door)) _ _ pushed
          (All-push (λ x. IsBalanced c.args.config.now streams k (old || one) x.number (g.D.Door.told x.door)) c.loop-worker.list.items c.take_apart-left.result.0
          (All-weaker (λ x. IsBalanced c.args.config.now streams h old x.number (g.D.Door.told x.door)) (λ x. IsBalanced c.args.config.now streams k (old || one) x.number (g.D.Door.told x.door))
          (λ x b. balanced_worn c.args.config.now streams k old (old || one) (or_false_first old one) x.number (g.D.Door.told x.door)
          (balanced_later c.args.config.now streams h k e.grown old x.number (g.D.Door.told x.door) b)) c.loop-worker.list.items (i.balanced both.0))
          (balanced_worn c.args.config.now streams k one (old || one) (or_false_last old one) c.take_apart-left.result.0.number (g.D.Door.told c.take_apart-left.result.0.door)
          (balanced_as c.args.config.now (shared_rules c.loop-worker.first) (shared_rules c.args.first.now) k one c.take_apart-left.result.0.number _
          (g.D.Door.told c.take_apart-left.result.0.door) i.rules (sym e.number) (e.balanced both.1))));
    }

pub returns-then-is_err-clause-grown : goal.returns-then-is_err-clause-grown
returns-then-is_err-clause-grown g c =
    later_then (told_at c.args.first.now.roots) (told_at c.loop-worker.first.roots) (told_at c.take_apart-left.new.first.roots) c.loop-worker.invariant.grown
    c.take_apart-left.ensures.grown

pub loop-worker-init : goal.loop-worker-init
loop-worker-init g c =
    let none = sym c.new-list.ensures.items in
    record {
      run = c.requires.run;
      workers = c.requires.rules;
      serving = c.requires.serving;
      few = omega (arith, c.requires.few, c.args.workers.ok.0);
      rules = refl;
      grown = later_same (told_at c.args.first.now.roots);
      all = omega (arith, ap length c.new-list.ensures.items);
      numbered = subst (λ l. EachAt (λ n x. x.number + n + 1 ≡ length c.args.workers.items) l) none (each_none (λ n x. x.number + n + 1 ≡ length c.args.workers.items));
      left = subst
          (λ l. All (λ x. IsLeft c.args.config.now g.K.Sink.holds g.K.Sink.faults (shared_rules c.args.first.now) x.number (g.D.Door.told x.door) x.recorders.items) l)
          none (All-nil (λ x. IsLeft c.args.config.now g.K.Sink.holds g.K.Sink.faults (shared_rules c.args.first.now) x.number (g.D.Door.told x.door) x.recorders.items));
      balanced = λ r. subst
          (λ l. All (λ x. IsBalanced c.args.config.now (shared_rules c.args.first.now).limits (told_at c.args.first.now.roots) false x.number (g.D.Door.told x.door)) l)
          none (All-nil (λ x. IsBalanced c.args.config.now (shared_rules c.args.first.now).limits (told_at c.args.first.now.roots) false x.number (g.D.Door.told x.door)));
    }

pub returns-clause-numbered : goal.returns-clause-numbered
returns-clause-numbered g c = λ i d l. omega (arith, c.loop-worker.invariant.numbered i d l, c.args.workers.ok.0)
