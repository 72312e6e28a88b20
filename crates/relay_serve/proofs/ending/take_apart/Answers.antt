use Rattle.std.proofs.Common.{rules, ◌∙◌, sym, ap, subst}
use Rattle.std.specs.Prelude.{All, map}
use Rattle.relay_outside.specs.Doors.{IsDone}
use Rattle.relay_worker.specs.Running.{label_of}
use Rattle.stream_registry.specs.Gates.{told_at}
use Rattle.stream_registry.specs.Names.{PortRules}
use Rattle.stream_registry.specs.SharedState.{shared_rules}
use Rattle.relay_serve.specs.Starts.{HasRules, HasTally}
use Rattle.relay_serve.proofs.Ruled.{filed_all}
use Rattle.relay_serve.proofs.Settling.{balanced_from}
use Rattle.relay_serve.proofs.ending.take_apart.Goals as goal

pub returns-clause-left : goal.returns-clause-left
returns-clause-left g c =
    let same : HasRules (shared_rules c.args.first.now) c.finish-finished.result.port = search rules in
    let e = c.finish-finished.ensures in
    let s = c.requires.serving in
    record {
      done = subst (λ d. IsDone (g.D.Door.told d)) (sym e.door) c.requires.run.done;
      filed = filed_all (shared_rules c.args.first.now) c.finish-finished.result.port c.finish-finished.result.recorders.items same e.filed;
      labels = ap (map label_of) e.recorders ∙ s.labels;
      tallies = subst (All (HasTally g.K.Sink.holds g.K.Sink.faults)) (sym e.recorders) s.tallies;
    }

pub returns-clause-balanced : goal.returns-clause-balanced
returns-clause-balanced g c = λ r.
    let same : HasRules (shared_rules c.args.first.now) c.finish-finished.result.port = search rules in
    let s = c.requires.serving in
    balanced_from c.args.config.now (shared_rules c.args.first.now).limits (told_at c.finish-finished.result.port.roots) (told_at c.gather.new.self.roots)
    (shared_rules c.finish-finished.result.port).limits c.args.worker.terms c.args.number (g.D.Door.told c.finish-finished.result.door) c.finish-finished.result.refused c.finish-finished.result.worn
    (c.finish-finished.ensures.books _ s.books) r (ap (λ (q : PortRules). q.limits) same) c.gather.ensures.later s.number_is s.limited s.links_are
