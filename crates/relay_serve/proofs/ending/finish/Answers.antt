use Rattle.std.proofs.Common.{◌≡◌, ◌∙◌, ◌&&◌, length, not, true, sym, subst}
use Rattle.stream_registry.specs.Gates.{numbers, told_at}
use Rattle.stream_registry.specs.Names.{PortRules}
use Rattle.stream_registry.specs.SharedState.{shared_rules}
use Rattle.relay_worker.specs.Filed.{state_of}
use Rattle.relay_serve.specs.Recorded.{HasLeft}
use Rattle.relay_serve.proofs.Counted.{later_then}
use Rattle.relay_serve.proofs.Recording.{records_of}
use Rattle.relay_serve.proofs.Settling.{and_true, not_true}
use Rattle.relay_serve.proofs.ending.finish.Goals as goal

pub returns-clause-grown : goal.returns-clause-grown
returns-clause-grown g c =
    later_then (told_at c.args.port.now.roots) (told_at c.settle-end.new.port.roots) (told_at c.part-file.new.port.roots) c.settle-end.ensures.grown c.part-file.ensures.grown

pub returns-clause-records : goal.returns-clause-records
returns-clause-records g c = λ whole.
    let all = and_true (c.part-file.result.1 && not c.is_starved-spared.result) c.is_first-first.result whole in
    let both = and_true c.part-file.result.1 _ all.0 in
    let s = c.settle-end.ensures in
    let rules : shared_rules c.settle-end.new.port ≡ shared_rules c.args.port.now = s.rules in
    let r = c.settle-end.new.recorder in
    records_of g.K.Sink.holds g.K.Sink.faults (λ p. numbers p.seen p.mine) (λ p. length p.seen) (shared_rules c.args.port.now).limits (told_at c.args.port.now.roots)
    (told_at c.part-file.new.port.roots) (λ _. c.is_worn.result ≡ true) c.args.recorder r c.settle-end.result c.part-file.result.0 s.label s.settled
    (sym c.is_starved-spared.ensures ∙ not_true c.is_starved-spared.result both.1) (λ out. c.is_worn.ensures ∙ out)
    (λ none. sym c.joined_from.ensures ∙ c.is_first-first.ensures all.1 none) s.tally c.part-file.ensures.file c.law.ensures.whole c.law.ensures.prefix
    (subst (λ (q : PortRules). HasLeft (λ p. numbers p.seen p.mine) (q.limits (state_of r).seat.place) (told_at c.part-file.new.port.roots (state_of r).seat.place) (state_of r))
    rules (c.part-file.ensures.left both.0))
