use Rattle.std.proofs.Common.{rules, refl}
use Rattle.relay_outside.specs.declared.link.Said.TheVariants as said
use Rattle.relay_session.specs.Places.{AskedAlone}
use Rattle.relay_session.specs.Turns.{life}
use Rattle.relay_session.specs.declared.end.End.TheVariants as end
use Rattle.relay_session.specs.declared.turn.Turn.TheVariants.{Ended}
use Rattle.relay_session.proofs.Holds.{ended_filled, steady_sent}
use Rattle.relay_session.proofs.Rounds.{first_pending, sent_some, sent_something, sent_within, some_pending}
use Rattle.relay_session.proofs.Stopping.{stands_on}
use Rattle.relay_session.proofs.six_steps.send_on.Goals as goal

pub send-requires : goal.send-requires
send-requires g c = sent_something c.fill.new.core.outgoing.ready c.first.result.now (search rules) (search rules)

pub note_sent-requires-clause-within : goal.note_sent-requires-clause-within
note_sent-requires-clause-within g c = sent_within c.fill.new.core.outgoing.ready c.first.result.now 16384 c.in-Took.count (search rules) c.in-Took.ensures.count.1

pub returns-in-NotYet-clause-turn : goal.returns-in-NotYet-clause-turn
returns-in-NotYet-clause-turn g c =
    let P = g.P.StreamPort in
    let L = g.L.Link in
    let b = c.args.body.now in
    let d = c.fill.new.core in
    sent_some (AskedAlone P.fits P.rules P.root P.seen P.count P.wants P.busies P.adds P.kin P.branches) (g.D.Desk.grants c.args.desk.now) L.hears L.says (life b.core b.input c.args.port.now b.seat) (life c.input_on-in-NotYet.new.body.core c.input_on-in-NotYet.new.body.input c.input_on-in-NotYet.new.port c.input_on-in-NotYet.new.body.seat) c.args.link.now c.send.new.self c.input_on-in-NotYet.new.link d c.first.result.now said.NotYet c.args.moved c.input_on-in-NotYet.result c.in-Ok.ensures.filled
    (some_pending d.outgoing (search rules)) (first_pending d.outgoing c.first.result.now (search rules) c.in-Ok.ensures.ready) c.in-NotYet.ensures.step c.input_on-in-NotYet.ensures.turn

pub returns-in-Failed-clause-turn : goal.returns-in-Failed-clause-turn
returns-in-Failed-clause-turn g c =
    let P = g.P.StreamPort in
    let L = g.L.Link in
    let b = c.args.body.now in
    let d = c.fill.new.core in
    sent_some (AskedAlone P.fits P.rules P.root P.seen P.count P.wants P.busies P.adds P.kin P.branches) (g.D.Desk.grants c.args.desk.now) L.hears L.says (life b.core b.input c.args.port.now b.seat) (life d b.input c.args.port.now b.seat) c.args.link.now c.send.new.self c.send.new.self d c.first.result.now said.Failed c.args.moved (Ended end.LinkFault) c.in-Ok.ensures.filled
    (some_pending d.outgoing (search rules)) (first_pending d.outgoing c.first.result.now (search rules) c.in-Ok.ensures.ready) c.in-Failed.ensures.step (record { ended = refl; gone = refl; port = refl; seat = refl }, refl)

pub returns-in-OutOfMemory-clause-turn : goal.returns-in-OutOfMemory-clause-turn
returns-in-OutOfMemory-clause-turn g c =
    let P = g.P.StreamPort in
    let L = g.L.Link in
    let b = c.args.body.now in
    let d = c.fill.new.core in
    sent_some (AskedAlone P.fits P.rules P.root P.seen P.count P.wants P.busies P.adds P.kin P.branches) (g.D.Desk.grants c.args.desk.now) L.hears L.says (life b.core b.input c.args.port.now b.seat) (life d b.input c.args.port.now b.seat) c.args.link.now c.send.new.self c.send.new.self d c.first.result.now said.OutOfMemory c.args.moved (Ended end.OutOfMemory) c.in-Ok.ensures.filled
    (some_pending d.outgoing (search rules)) (first_pending d.outgoing c.first.result.now (search rules) c.in-Ok.ensures.ready) c.in-OutOfMemory.ensures.step (record { ended = refl; gone = refl; port = refl; seat = refl }, refl)

pub returns-in-Took-clause-turn : goal.returns-in-Took-clause-turn
returns-in-Took-clause-turn g c =
    let P = g.P.StreamPort in
    let L = g.L.Link in
    let b = c.args.body.now in
    let d = c.fill.new.core in
    sent_some (AskedAlone P.fits P.rules P.root P.seen P.count P.wants P.busies P.adds P.kin P.branches) (g.D.Desk.grants c.args.desk.now) L.hears L.says (life b.core b.input c.args.port.now b.seat) (life c.input_on-in-Took.new.body.core c.input_on-in-Took.new.body.input c.input_on-in-Took.new.port c.input_on-in-Took.new.body.seat) c.args.link.now c.send.new.self c.input_on-in-Took.new.link d c.first.result.now (said.Took c.in-Took.count) c.args.moved c.input_on-in-Took.result c.in-Ok.ensures.filled
    (some_pending d.outgoing (search rules)) (first_pending d.outgoing c.first.result.now (search rules) c.in-Ok.ensures.ready) c.in-Took.ensures.step (c.note_sent.new.core, (c.note_sent.ensures.sent, c.input_on-in-Took.ensures.turn, λ desk. stands_on desk d c.note_sent.new.core c.note_sent.ensures.sound (c.note_sent.ensures.stands desk)))

pub returns-in-Err-clause-sound : goal.returns-in-Err-clause-sound
returns-in-Err-clause-sound g c =
    let e = c.fill.ensures in
    ended_filled c.args.body.now.core c.fill.new.core c.requires.sound e.gone e.hand e.reader e.light e.fits

pub input_on-requires-in-Took-clause-sound : goal.input_on-requires-in-Took-clause-sound
input_on-requires-in-Took-clause-sound g c =
    let e = c.fill.ensures in
    let f = c.note_sent.ensures in
    steady_sent c.args.body.now.core c.fill.new.core c.note_sent.new.core c.in-Took.count c.requires.sound e.gone e.light e.fits f.sent f.sound f.fits
