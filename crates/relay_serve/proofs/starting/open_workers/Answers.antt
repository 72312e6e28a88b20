use Rattle.std.proofs.Common.{◌≡◌, ◌∙◌, ℕ, [], ◌∷◌, ◌++◌, ap, sym, subst, refl, Some, arith, length}
use Rattle.std.specs.List.{range_with_len}
use Rattle.std.proofs.lemmas.List.Elements.{All-nil, All-pop, All-push, All-same}
use Rattle.stream_registry.specs.Names.{PortRules}
use Rattle.stream_registry.specs.SharedState.{Streams, shared_rules}
use Rattle.relay_outside.specs.Houses.{asked_door}
use Rattle.relay_worker.specs.Running.{EachAt}
use Rattle.relay_serve.specs.Settling.{AsksFor, IsServing, TellsMore}
use Rattle.relay_serve.specs.Recordings.{names_of, names_upto, with_names}
use Rattle.relay_serve.specs.Starts.{HasRules}
use Rattle.relay_serve.proofs.Naming.{named_then, upto_more, with_none}
use Rattle.relay_worker.proofs.Numbered.{each_push}
use Rattle.relay_serve.proofs.Ruled.{popped}
use Rattle.relay_serve.proofs.Settling.{asks_for, range_more}
use Rattle.relay_serve.proofs.Telling.{more_same, more_then, none_more, one_more}
use Rattle.relay_serve.proofs.starting.open_workers.Goals as goal

pub open_worker-requires-clause-places : goal.open_worker-requires-clause-places
open_worker-requires-clause-places g c κs within =
    let r = (All-pop (HasRules (shared_rules c.args.first.now)) c.loop-port.ports.items c.pop.new.self.items (Some c.in-Some.port) c.in-Some.ensures.items
    c.loop-port.invariant.ports).1 in
    c.requires.places ∙ ap (λ (q : PortRules). length q.names) (sym r)

pub loop-port-init : goal.loop-port-init
loop-port-init g c =
    let none = c.new-workers.ensures.items in
    let before = g.H.House.asked c.args.house.now in
    let P = IsServing c.args.config.now g.H.Door.Link.Link.told g.H.Door.Link.Link.counts g.H.Door.Door.told g.H.File.Sink.holds g.H.File.Sink.faults in
    record {
      ports = c.requires.rules;
      workers = All-same (λ x. HasRules (shared_rules c.args.first.now) x.bench.port) _ _ none (All-nil (λ x. HasRules (shared_rules c.args.first.now) x.bench.port));
      count = omega (arith, ap length none);
      serving = subst (λ l. EachAt P l) (sym none) (λ i d lt. absurd (omega (arith, lt)));
      house = refl;
      asked = subst (λ (n : ℕ). TellsMore (AsksFor c.args.config.now) (range_with_len 0 n) before before) (sym (ap length none)) (none_more (AsksFor c.args.config.now) before);
      named =
          let names = g.H.House.named c.args.house.now in
          sym (ap (λ (n : ℕ). with_names names (names_upto c.args.config.now n)) (ap length none) ∙ with_none names);
    }

pub loop-port-preserved : goal.loop-port-preserved
loop-port-preserved g c =
    let i = c.loop-port.invariant in
    let r = All-pop (HasRules (shared_rules c.args.first.now)) c.loop-port.ports.items c.pop.new.self.items (Some c.in-Some.port) c.in-Some.ensures.items i.ports in
    let pushed = rw c.if-is_err.ensures.negation at c.push.ensures.items in
    let P = IsServing c.args.config.now g.H.Door.Link.Link.told g.H.Door.Link.Link.counts g.H.Door.Door.told g.H.File.Sink.holds g.H.File.Sink.faults in
    let number : c.len-number.result ≡ length c.loop-port.workers.items = omega (arith, c.loop-port.workers.ok.0) in
    record {
      ports = r.0;
      workers = All-same (λ x. HasRules (shared_rules c.args.first.now) x.bench.port) _ _ pushed
          (All-push (λ x. HasRules (shared_rules c.args.first.now) x.bench.port) c.loop-port.workers.items c.in_ok-worker.worker i.workers
          (subst (λ (p : Streams). HasRules (shared_rules c.args.first.now) p) (sym c.in_ok-worker.ensures.port) r.1));
      count = omega (arith, popped _ _ _ pushed, popped c.loop-port.ports.items c.pop.new.self.items c.in-Some.port c.in-Some.ensures.items, i.count);
      serving = subst (λ l. EachAt P l) (sym pushed) (each_push P c.loop-port.workers.items c.in_ok-worker.worker i.serving
          (subst (λ n. P n c.in_ok-worker.worker) number c.in_ok-worker.ensures.serving));
      house = c.in_ok-worker.ensures.house ∙ i.house;
      asked =
          let R = AsksFor c.args.config.now in
          let n : ℕ = length c.loop-port.workers.items in
          let before = g.H.House.asked c.args.house.now in
          let mid = g.H.House.asked c.loop-port.house in
          let now = g.H.House.asked c.open_worker.new.house in
          let last = one_more R n mid now (asked_door c.len-number.result c.args.config.now.listen c.args.config.now.accept) c.in_ok-worker.ensures.asked
          (asks_for c.args.config.now n c.len-number.result number) in
          more_same R (range_with_len 0 n ++ n ∷ []) _ before before now (range_more n ∙ ap (range_with_len 0) (sym (popped _ _ _ pushed))) refl
          (more_then R (range_with_len 0 n) (n ∷ []) before mid now i.asked last);
      named =
          let config = c.args.config.now in
          let n : ℕ = length c.loop-port.workers.items in
          let before = g.H.House.named c.args.house.now in
          let all : names_upto config n ++ names_of config c.len-number.result ≡ names_upto config (length c.push.new.self.items) =
          ap (λ (m : ℕ). names_upto config n ++ names_of config m) number ∙ (upto_more config n ∙ ap (names_upto config) (sym (popped _ _ _ pushed))) in
          named_then before (g.H.House.named c.loop-port.house) (g.H.House.named c.open_worker.new.house) (names_upto config n) (names_of config c.len-number.result) i.named c.in_ok-worker.ensures.named
          ∙ ap (with_names before) all;
    }

pub returns-clause-asked : goal.returns-clause-asked
returns-clause-asked g c =
    let all : length c.loop-port.workers.items ≡ c.loop-port.workers.len = omega (arith, c.loop-port.workers.ok.0) in
    subst (λ (n : ℕ). TellsMore (AsksFor c.args.config.now) (range_with_len 0 n) (g.H.House.asked c.args.house.now) (g.H.House.asked c.loop-port.house)) all
    c.loop-port.invariant.asked

pub returns-clause-named : goal.returns-clause-named
returns-clause-named g c =
    let all : length c.loop-port.workers.items ≡ c.loop-port.workers.len = omega (arith, c.loop-port.workers.ok.0) in
    c.loop-port.invariant.named ∙ ap (λ (n : ℕ). with_names (g.H.House.named c.args.house.now) (names_upto c.args.config.now n)) all
