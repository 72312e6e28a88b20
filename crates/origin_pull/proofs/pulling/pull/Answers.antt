use Rattle.std.proofs.Common.{◌∙◌, refl, ap}
use Rattle.rtmp_client.specs.declared.end.ClientTurn.TheVariants as turn
use Rattle.origin_pull.specs.Turns.{end_as}
use Rattle.origin_pull.specs.declared.turn.EdgeTurn.TheVariants.{Ended}
use Rattle.origin_pull.proofs.Owing.{IsFree}
use Rattle.origin_pull.proofs.Room.{room_free}
use Rattle.origin_pull.proofs.Turning.{told_calls, told_did, told_lasts, told_lives, told_may}
use Rattle.origin_pull.proofs.Walking.{turn_leaves}
use Rattle.origin_pull.proofs.pulling.pull.Goals as goal

pub returns-in-Moved-clause-sound : goal.returns-in-Moved-clause-sound
returns-in-Moved-clause-sound g c =
    let L = g.L.Link in
    let a = c.args in
    let t = c.in-Moved.ensures in
    let r = c.receive in
    let b = c.turn.new.self in
    let f : IsFree a.core.now = record { kept = c.requires.nothing.0; due = c.requires.nothing.1 } in
    told_lives turn.Moved a.core.now r.new.core a.client.now b r.new.client r.result c.requires.sound f t.lasts t.stands
    (turn_leaves L.hears L.says a.client.now b turn.Moved a.link.now c.turn.new.link t.turn) r.ensures.takes r.ensures.room

pub returns-in-Idle-clause-sound : goal.returns-in-Idle-clause-sound
returns-in-Idle-clause-sound g c =
    let L = g.L.Link in
    let a = c.args in
    let t = c.in-Idle.ensures in
    let r = c.receive-in-Idle in
    let b = c.turn.new.self in
    let f : IsFree a.core.now = record { kept = c.requires.nothing.0; due = c.requires.nothing.1 } in
    told_lives turn.Idle a.core.now r.new.core a.client.now b r.new.client r.result c.requires.sound f t.lasts t.stands
    (turn_leaves L.hears L.says a.client.now b turn.Idle a.link.now c.turn.new.link t.turn) r.ensures.takes r.ensures.room

pub returns-in-Ended-clause-sound : goal.returns-in-Ended-clause-sound
returns-in-Ended-clause-sound g c =
    let L = g.L.Link in
    let a = c.args in
    let t = c.in-Ended.ensures in
    let b = c.turn.new.self in
    let f : IsFree a.core.now = record { kept = c.requires.nothing.0; due = c.requires.nothing.1 } in
    told_lives turn.Ended a.core.now a.core.now a.client.now b b (Ended c.end_of.result) c.requires.sound f t.lasts t.stands
    (turn_leaves L.hears L.says a.client.now b turn.Ended a.link.now c.turn.new.link t.turn)
    (refl, refl, ap Ended (c.end_of.ensures ∙ ap end_as c.end.ensures)) (room_free a.core.now a.core.now b f refl)

pub returns-in-Moved-clause-pulls : goal.returns-in-Moved-clause-pulls
returns-in-Moved-clause-pulls g c = record { answer = turn.Moved; between = c.turn.new.self; turned = c.in-Moved.ensures.turn; told = c.receive.ensures.takes }

pub returns-in-Moved-clause-lasts : goal.returns-in-Moved-clause-lasts
returns-in-Moved-clause-lasts g c =
    let a = c.args in
    let t = c.in-Moved.ensures in
    let r = c.receive in
    let b = c.turn.new.self in
    told_lasts turn.Moved a.core.now r.new.core a.client.now b r.new.client r.result t.lasts r.ensures.takes

pub returns-in-Moved-clause-calls : goal.returns-in-Moved-clause-calls
returns-in-Moved-clause-calls g c = let r = c.receive in told_calls turn.Moved c.args.core.now r.new.core c.turn.new.self r.new.client r.result r.ensures.takes

pub returns-in-Moved-clause-did : goal.returns-in-Moved-clause-did
returns-in-Moved-clause-did g c =
    let a = c.args in
    let t = c.in-Moved.ensures in
    let r = c.receive in
    let b = c.turn.new.self in
    told_did turn.Moved a.core.now r.new.core a.client.now b r.new.client r.result t.did r.ensures.takes

pub returns-in-Moved-clause-may_wait : goal.returns-in-Moved-clause-may_wait
returns-in-Moved-clause-may_wait g c =
    let L = g.L.Link in
    let a = c.args in
    let t = c.in-Moved.ensures in
    let r = c.receive in
    let b = c.turn.new.self in
    told_may turn.Moved a.core.now r.new.core a.client.now b r.new.client r.result (L.counts a.link.now) (L.counts c.turn.new.link) c.requires.sound.client.gift
    (turn_leaves L.hears L.says a.client.now b turn.Moved a.link.now c.turn.new.link t.turn) t.may_be r.ensures.takes

pub returns-in-Idle-clause-pulls : goal.returns-in-Idle-clause-pulls
returns-in-Idle-clause-pulls g c = record {
  answer = turn.Idle;
  between = c.turn.new.self;
  turned = c.in-Idle.ensures.turn;
  told =
      c.receive-in-Idle.ensures.takes;
}

pub returns-in-Idle-clause-lasts : goal.returns-in-Idle-clause-lasts
returns-in-Idle-clause-lasts g c =
    let a = c.args in
    let t = c.in-Idle.ensures in
    let r = c.receive-in-Idle in
    let b = c.turn.new.self in
    told_lasts turn.Idle a.core.now r.new.core a.client.now b r.new.client r.result t.lasts r.ensures.takes

pub returns-in-Idle-clause-calls : goal.returns-in-Idle-clause-calls
returns-in-Idle-clause-calls g c = let r = c.receive-in-Idle in
    told_calls turn.Idle c.args.core.now r.new.core c.turn.new.self r.new.client r.result r.ensures.takes

pub returns-in-Idle-clause-did : goal.returns-in-Idle-clause-did
returns-in-Idle-clause-did g c =
    let a = c.args in
    let t = c.in-Idle.ensures in
    let r = c.receive-in-Idle in
    let b = c.turn.new.self in
    told_did turn.Idle a.core.now r.new.core a.client.now b r.new.client r.result t.did r.ensures.takes

pub returns-in-Idle-clause-may_wait : goal.returns-in-Idle-clause-may_wait
returns-in-Idle-clause-may_wait g c =
    let L = g.L.Link in
    let a = c.args in
    let t = c.in-Idle.ensures in
    let r = c.receive-in-Idle in
    let b = c.turn.new.self in
    told_may turn.Idle a.core.now r.new.core a.client.now b r.new.client r.result (L.counts a.link.now) (L.counts c.turn.new.link) c.requires.sound.client.gift
    (turn_leaves L.hears L.says a.client.now b turn.Idle a.link.now c.turn.new.link t.turn) t.may_be r.ensures.takes

pub returns-in-Ended-clause-pulls : goal.returns-in-Ended-clause-pulls
returns-in-Ended-clause-pulls g c =
    record {
      answer = turn.Ended;
      between = c.turn.new.self;
      turned = c.in-Ended.ensures.turn;
      told =
          (refl, refl, ap Ended (c.end_of.ensures ∙ ap end_as c.end.ensures));
    }

pub returns-in-Ended-clause-lasts : goal.returns-in-Ended-clause-lasts
returns-in-Ended-clause-lasts g c =
    let a = c.args in
    let b = c.turn.new.self in
    told_lasts turn.Ended a.core.now a.core.now a.client.now b b (Ended c.end_of.result) c.in-Ended.ensures.lasts
    (refl, refl, ap Ended (c.end_of.ensures ∙ ap end_as c.end.ensures))
