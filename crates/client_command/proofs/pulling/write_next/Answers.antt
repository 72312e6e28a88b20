use Rattle.std.proofs.Common.{◌∙◌, Bool, Ok, ap, rules, subst, sym, true}
use Rattle.client_command.specs.Pulls.{pull_seen}
use Rattle.client_command.specs.Telling.{PullSteps, step_by}
use Rattle.client_command.specs.declared.stop.Step.{Step}
use Rattle.client_command.proofs.Pulled.{gift_steps, gift_stops, none_steps, none_taken}
use Rattle.client_command.proofs.pulling.write_next.Goals as goal

pub returns-in-None-clause-goes : goal.returns-in-None-clause-goes
returns-in-None-clause-goes g c = λ k old told counts p.
    let t = c.taken in
    let new = pull_seen told counts (g.K.Sink.holds c.args.out.now) (g.K.Sink.faults c.args.out.now) in
    let h = none_taken k c.args.client.now t.new.client c.args.begun.now old new p (sym t.ensures.gift ∙ c.in-None.is) t.ensures.left (t.ensures.goes k old.told told old.counts counts p.runs) in
    subst (λ (s : Step). PullSteps (Ok s) k t.new.client c.args.begun.now old new) (sym c.step_by.ensures) (none_steps c.args.moved k t.new.client c.args.begun.now old new h)

pub returns-in_ok-write_gift-in-Some-clause-goes : goal.returns-in_ok-write_gift-in-Some-clause-goes
returns-in_ok-write_gift-in-Some-clause-goes g c = λ k old told counts p.
    let t = c.taken in
    let out = c.write_gift.new.out in
    let w = c.in_ok-write_gift-in-Some.ensures in
    let h = gift_steps c.args.moved k c.args.client.now t.new.client c.args.begun.now c.in-Some.gift old told counts (g.K.Sink.holds c.args.out.now) (g.K.Sink.holds out)
    (g.K.Sink.faults c.args.out.now) (g.K.Sink.faults out) p (sym t.ensures.gift ∙ c.in-Some.is) t.ensures.left (t.ensures.goes k old.told told old.counts counts p.runs)
    (w.text c.args.client.now.parts.taken old.held p.begun_is p.held) w.faults in
    subst (λ (s : Step). PullSteps (Ok s) k t.new.client true old (pull_seen told counts (g.K.Sink.holds out) (g.K.Sink.faults out)))
    (sym (c.step_by-in-Some.ensures ∙ ap (λ (b : Bool). step_by b c.args.moved) c.is_last.ensures)) h

pub returns-in_err-write_gift-in-Some-clause-goes : goal.returns-in_err-write_gift-in-Some-clause-goes
returns-in_err-write_gift-in-Some-clause-goes g c = λ k old told counts p.
    let t = c.taken in
    let out = c.write_gift.new.out in
    let w = c.in_err-write_gift-in-Some.ensures in
    let h = gift_stops c.in_err-write_gift-in-Some.field-0.0 k c.args.client.now t.new.client c.args.begun.now c.in-Some.gift old told counts (g.K.Sink.holds c.args.out.now) (g.K.Sink.holds out)
    (g.K.Sink.faults c.args.out.now) (g.K.Sink.faults out) p (sym t.ensures.gift ∙ c.in-Some.is) t.ensures.left (t.ensures.goes k old.told told old.counts counts p.runs)
    (w.text c.args.client.now.parts.taken old.held p.begun_is p.held) w.faults in
    search (rules, h)
