use Rattle.std.proofs.Common.{Ok, subst}
use Rattle.client_command.specs.Giving.{PushSteps, StillOpen}
use Rattle.client_command.specs.Pushes.{push_seen}
use Rattle.client_command.specs.declared.stop.Step.{Step}
use Rattle.client_command.proofs.pushing.give_all.Goals as goal

pub loop-preserved-in-Ok-Moved : goal.loop-preserved-in-Ok-Moved
loop-preserved-in-Ok-Moved g c =
    let t = c.step.new in
    let e = c.in-Ok-Moved.ensures in
    let may = subst (λ (s : Step). StillOpen s t.client t.film) c.in-Ok-Moved.field-0-is e.may in
    record {
      may = may.0;
      reading = may.1;
      goes = λ k old v. subst
          (λ (s : Step). PushSteps (Ok s) k t.client t.film old (push_seen (g.S.Source.left t.input) (g.S.Source.faults t.input) (g.L.Link.told t.link) (g.L.Link.counts t.link)))
          c.in-Ok-Moved.field-0-is (e.goes k old (c.loop.invariant.goes k old v));
    }

pub loop-preserved : goal.loop-preserved
loop-preserved g c =
    let t = c.step.new in
    let e = c.in-Ok-Idle.ensures in
    let may = subst (λ (s : Step). StillOpen s t.client t.film) c.in-Ok-Idle.field-0-is e.may in
    record {
      may = may.0;
      reading = may.1;
      goes = λ k old v. subst
          (λ (s : Step). PushSteps (Ok s) k t.client t.film old (push_seen (g.S.Source.left t.input) (g.S.Source.faults t.input) (g.L.Link.told t.link) (g.L.Link.counts t.link)))
          c.in-Ok-Idle.field-0-is (e.goes k old (c.loop.invariant.goes k old v));
    }

pub returns-in-Ok-Over-clause-live : goal.returns-in-Ok-Over-clause-live
returns-in-Ok-Over-clause-live g c =
    subst (λ (s : Step). StillOpen s c.step.new.client c.step.new.film) c.in-Ok-Over.field-0-is c.in-Ok-Over.ensures.may

pub returns-in-Ok-Over-clause-goes : goal.returns-in-Ok-Over-clause-goes
returns-in-Ok-Over-clause-goes g c = λ k old v.
    let t = c.step.new in
    subst (λ (s : Step). PushSteps (Ok s) k t.client t.film old (push_seen (g.S.Source.left t.input) (g.S.Source.faults t.input) (g.L.Link.told t.link) (g.L.Link.counts t.link)))
    c.in-Ok-Over.field-0-is (c.in-Ok-Over.ensures.goes k old (c.loop.invariant.goes k old v))

pub returns-in-Err-clause-goes : goal.returns-in-Err-clause-goes
returns-in-Err-clause-goes g c = λ k old v. c.in-Err.ensures.goes k old (c.loop.invariant.goes k old v)
