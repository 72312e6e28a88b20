use Rattle.std.proofs.Common.{◌∙◌, Bool, refl, subst, sym}
use Rattle.loop_command.specs.Course.{Pulled}
use Rattle.loop_command.specs.Desk.{puller}
use Rattle.loop_command.specs.Lines.{ClientGoes}
use Rattle.loop_command.specs.Rounds.{Goes}
use Rattle.loop_command.proofs.Refusing.{pull_goes_on, pull_lasts, same_whole}
use Rattle.loop_command.proofs.Rounding.{client_ends, own_turn}
use Rattle.loop_command.proofs.Running.{pull_run, pull_sound}
use Rattle.loop_command.proofs.playing.pull_turn.Goals as goal

pub returns-in-Err-clause-goes : goal.returns-in-Err-clause-goes
returns-in-Err-clause-goes c = λ file old now h.
    let v = c.in-Err in
    let r = c.args.run.now in
    let l = c.turn_client.new.line in
    let s = record r { pull = l } in
    let t = c.talk_law.ensures in
    client_ends v.stop (Goes file s old now (Pulled r s)) r.pull l
    (pull_lasts c.a_session_begins_once.ensures file old now r c.requires.sound.rules_are h
    (same_whole r.pull.session l.session c.turn_client.ensures.session h.plays.stands t.plays) (t.publishes h.publishes.stands) t.room
    c.a_client_that_is_granted_is_ended_by_no_byte.ensures) v.ensures.turned

pub returns-in-Err-clause-err : goal.returns-in-Err-clause-err
returns-in-Err-clause-err c = own_turn c.in-Err.stop c.args.run.now.pull c.turn_client.new.line c.in-Err.ensures.turned

pub returns-in-Ok-true-clause-sound : goal.returns-in-Ok-true-clause-sound
returns-in-Ok-true-clause-sound c =
    let v = c.in-Ok-true in
    let t = v.ensures.turned in
    pull_sound t.0 c.args.run.now c.turn_client.new.line v.ensures.few (v.ensures.live c.requires.sound.pulls v.field-0-test) t.2 c.requires.sound

pub returns-in-Ok-true-clause-goes : goal.returns-in-Ok-true-clause-goes
returns-in-Ok-true-clause-goes c = λ file old now h.
    let v = c.in-Ok-true in
    let l = c.turn_client.new.line in
    let t = v.ensures.turned in
    let runs = subst (λ (b : Bool). ClientGoes b puller c.args.run.now.pull.client l.client l.near) v.field-0-test (v.ensures.goes puller h.pulls) in
    record {
      is_run = pull_run file old now t.0 c.args.run.now l (v.ensures.passed h.pull_passed) runs c.turn_client.ensures.lasts t.2 h;
      made = record { answer = t.0; lives = sym t.1 ∙ v.field-0-test; turned = t.2; others = refl };
    }

pub returns-in-Ok-false-clause-goes : goal.returns-in-Ok-false-clause-goes
returns-in-Ok-false-clause-goes c = λ file old now h.
    let v = c.in-Ok-false in
    let l = c.turn_client.new.line in
    absurd (pull_goes_on file old now c.args.run.now l.client l.near h
    (subst (λ (b : Bool). ClientGoes b puller c.args.run.now.pull.client l.client l.near) v.field-0-test (v.ensures.goes puller h.pulls)))
