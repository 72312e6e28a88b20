use Rattle.std.proofs.Common.{◌∙◌, Bool, false, subst, sym, true}
use Rattle.loop_command.specs.Course.{Pushed}
use Rattle.loop_command.specs.Desk.{pusher}
use Rattle.loop_command.specs.Lines.{ClientGoes}
use Rattle.loop_command.specs.Rounds.{Goes}
use Rattle.loop_command.proofs.Refusing.{push_lasts, same_whole}
use Rattle.loop_command.proofs.Rounding.{client_ends, own_turn}
use Rattle.loop_command.proofs.Running.{pushed_goes, pushed_ok, pushes_runs}
use Rattle.loop_command.proofs.publishing.push_once.Goals as goal

pub returns-in-Err-clause-goes : goal.returns-in-Err-clause-goes
returns-in-Err-clause-goes c = λ file old now h.
    let v = c.in-Err in
    let r = c.args.run.now in
    let l = c.turn_client.new.line in
    let s = record r { push = l } in
    let t = c.talk_law.ensures in
    client_ends v.stop (Goes file s old now (Pushed r s)) r.push l
    (push_lasts c.a_session_begins_once.ensures file old now r c.requires.sound.rules_are h (t.plays h.plays.stands)
    (same_whole r.push.session l.session c.turn_client.ensures.session h.publishes.stands t.publishes) t.room
    c.a_client_that_is_granted_is_ended_by_no_byte.ensures c.requires.lives) v.ensures.turned

pub returns-in-Err-clause-err : goal.returns-in-Err-clause-err
returns-in-Err-clause-err c = own_turn c.in-Err.stop c.args.run.now.push c.turn_client.new.line c.in-Err.ensures.turned

pub returns-in-Ok-true-clause-sound : goal.returns-in-Ok-true-clause-sound
returns-in-Ok-true-clause-sound c =
    let v = c.in-Ok-true in
    let e = v.ensures in
    let t = e.turned in
    pushed_ok true t.0 c.args.run.now c.turn_client.new.line (sym t.1 ∙ v.field-0-test) e.few (λ f m. e.live m (t.1 ∙ f)) c.turn_client.ensures.lasts
    t.2 c.requires.sound

pub returns-in-Ok-true-clause-goes : goal.returns-in-Ok-true-clause-goes
returns-in-Ok-true-clause-goes c = λ file old now h.
    let v = c.in-Ok-true in
    let e = v.ensures in
    let t = e.turned in
    let l = c.turn_client.new.line in
    let r = c.args.run.now in
    let goes = subst (λ (b : Bool). ClientGoes b pusher r.push.client l.client l.near) t.1
    (e.goes pusher (pushes_runs r.stage file r.tags.items r.push.client r.push.near c.requires.lives h.pushes)) in
    pushed_goes true file old now t.0 r l (sym t.1 ∙ v.field-0-test) c.requires.lives (e.passed h.push_passed) goes c.turn_client.ensures.lasts t.2 h

pub returns-in-Ok-false-clause-sound : goal.returns-in-Ok-false-clause-sound
returns-in-Ok-false-clause-sound c =
    let v = c.in-Ok-false in
    let e = v.ensures in
    let t = e.turned in
    pushed_ok false t.0 c.args.run.now c.turn_client.new.line (sym t.1 ∙ v.field-0-test) e.few (λ f m. e.live m (t.1 ∙ f)) c.turn_client.ensures.lasts
    t.2 c.requires.sound

pub returns-in-Ok-false-clause-goes : goal.returns-in-Ok-false-clause-goes
returns-in-Ok-false-clause-goes c = λ file old now h.
    let v = c.in-Ok-false in
    let e = v.ensures in
    let t = e.turned in
    let l = c.turn_client.new.line in
    let r = c.args.run.now in
    let goes = subst (λ (b : Bool). ClientGoes b pusher r.push.client l.client l.near) t.1
    (e.goes pusher (pushes_runs r.stage file r.tags.items r.push.client r.push.near c.requires.lives h.pushes)) in
    pushed_goes false file old now t.0 r l (sym t.1 ∙ v.field-0-test) c.requires.lives (e.passed h.push_passed) goes c.turn_client.ensures.lasts t.2 h
