use Rattle.std.proofs.Common.{Ok, subst}
use Rattle.client_command.specs.Pulls.{pull_seen}
use Rattle.client_command.specs.Telling.{PullSteps}
use Rattle.client_command.specs.declared.stop.Step.{Step}
use Rattle.client_command.proofs.pulling.pull_all.Goals as goal

pub loop-preserved-in-Ok-Moved : goal.loop-preserved-in-Ok-Moved
loop-preserved-in-Ok-Moved g c =
    let t = c.step.new in
    let e = c.in-Ok-Moved.ensures in
    record {
      live = e.live;
      none = e.none;
      goes = λ k old p. subst
          (λ (s : Step). PullSteps (Ok s) k t.client t.begun old (pull_seen (g.L.Link.told t.link) (g.L.Link.counts t.link) (g.K.Sink.holds t.out) (g.K.Sink.faults t.out)))
          c.in-Ok-Moved.field-0-is (e.goes k old (c.loop.invariant.goes k old p));
    }

pub loop-preserved : goal.loop-preserved
loop-preserved g c =
    let t = c.step.new in
    let e = c.in-Ok-Idle.ensures in
    record {
      live = e.live;
      none = e.none;
      goes = λ k old p. subst
          (λ (s : Step). PullSteps (Ok s) k t.client t.begun old (pull_seen (g.L.Link.told t.link) (g.L.Link.counts t.link) (g.K.Sink.holds t.out) (g.K.Sink.faults t.out)))
          c.in-Ok-Idle.field-0-is (e.goes k old (c.loop.invariant.goes k old p));
    }

pub returns-in-Ok-Over : goal.returns-in-Ok-Over
returns-in-Ok-Over g c = λ k old p.
    let t = c.step.new in
    subst (λ (s : Step). PullSteps (Ok s) k t.client t.begun old (pull_seen (g.L.Link.told t.link) (g.L.Link.counts t.link) (g.K.Sink.holds t.out) (g.K.Sink.faults t.out)))
    c.in-Ok-Over.field-0-is (c.in-Ok-Over.ensures.goes k old (c.loop.invariant.goes k old p))

pub returns-in-Err : goal.returns-in-Err
returns-in-Err g c = λ k old p. c.in-Err.ensures.goes k old (c.loop.invariant.goes k old p)
