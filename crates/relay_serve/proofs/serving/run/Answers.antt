use Rattle.std.proofs.Common.{rules, ℕ, ◌∙◌, ap, subst, []}
use Rattle.relay_outside.specs.Houses.{HouseTold}
use Rattle.stream_registry.specs.Roots.{seen_at}
use Rattle.relay_serve.specs.Ends.{RunsAs, seen}
use Rattle.relay_serve.specs.Recordings.{names_upto, with_names}
use Rattle.relay_serve.specs.Http.{AsksAll}
use Rattle.relay_serve.proofs.Ends.{runs_unopened}
use Rattle.relay_serve.proofs.Opened.{few_places}
use Rattle.relay_serve.proofs.serving.run.Goals as goal

pub returns-in-Ok : goal.returns-in-Ok
returns-in-Ok g c = (
  seen_at c.conclude.new.port.roots,
  subst (λ (h : HouseTold). RunsAs c.args.config.now (seen_at c.conclude.new.port.roots) (seen (g.K.Sink.holds c.args.out.now) (g.K.Sink.faults c.args.out.now) h (g.H.House.asked c.args.house.now) (g.H.House.named c.args.house.now))
      (seen (g.K.Sink.holds c.conclude.new.out) (g.K.Sink.faults c.conclude.new.out) (g.H.House.told c.conclude.new.house) (g.H.House.asked c.conclude.new.house) (g.H.House.named c.conclude.new.house)) c.conclude.result) c.in-Ok.ensures.house
      (c.conclude.ensures.runs (g.H.House.asked c.args.house.now)
      (subst (λ (n : ℕ). AsksAll c.args.config.now n (g.H.House.asked c.args.house.now) (g.H.House.asked c.make_ready.new.house))
      c.in-Ok.ensures.each c.in-Ok.ensures.asked)
      (g.H.House.named c.args.house.now)
      (c.in-Ok.ensures.named ∙ ap (λ (n : ℕ). with_names (g.H.House.named c.args.house.now) (names_upto c.args.config.now n)) c.in-Ok.ensures.each)),
)

pub returns : goal.returns
returns g c =
    let r = runs_unopened c.args.config.now (λ q. []) (g.K.Sink.holds c.args.out.now) (g.K.Sink.faults c.args.out.now) (g.H.House.told c.args.house.now)
    (g.H.House.told c.make_ready.new.house) (g.H.House.asked c.args.house.now) (g.H.House.asked c.make_ready.new.house) (g.H.House.named c.args.house.now) (g.H.House.named c.make_ready.new.house) c.in-Err.fail c.in-Err.ensures.house in
    (λ q. [], search (rules, r))

pub run_workers-workers-requires-clause-total : goal.run_workers-workers-requires-clause-total
run_workers-workers-requires-clause-total g c κs within = few_places c.args.config.now c.requires.lawful

pub conclude-requires-clause-total : goal.conclude-requires-clause-total
conclude-requires-clause-total g c κs within = few_places c.args.config.now c.requires.lawful
