use Rattle.std.proofs.Common.{◌∙◌, rules, sym}
use Rattle.rtmp_client.specs.ClientState.{has_started}
use Rattle.loop_command.specs.Course.{PushesOnce}
use Rattle.loop_command.specs.Rounds.{Goes}
use Rattle.loop_command.proofs.Rounding.{memory_steps, pushes_by, unstarted}
use Rattle.loop_command.proofs.publishing.push_part.Goals as goal

pub returns-in_err-give_next-clause-goes : goal.returns-in_err-give_next-clause-goes
returns-in_err-give_next-clause-goes c = λ file old now h.
    let e = c.in_err-give_next in
    let r = c.args.run.now in
    let s = c.give_next.new.run in
    let x = memory_steps e.field-0.0 (Goes file s old now (PushesOnce (has_started r.pull.client.parts.phase) r s)) ⊥ e.ensures.err in
    search (rules, x)

pub returns-then-started-clause-goes : goal.returns-then-started-clause-goes
returns-then-started-clause-goes c = λ file old now h.
    let t = c.push_turn in
    let p = c.in_ok-give_next.ensures.goes file old now h in
    pushes_by t.result file c.args.run.now c.give_next.new.run t.new.run old now (sym c.started.ensures ∙ c.if-started.true) p.made
    (t.ensures.goes file old now p.is_run)

pub returns-clause-goes : goal.returns-clause-goes
returns-clause-goes c = λ file old now h. unstarted file c.args.run.now old now (sym c.started.ensures ∙ c.if-started.false) h
