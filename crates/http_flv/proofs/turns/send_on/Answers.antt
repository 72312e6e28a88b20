use Rattle.std.proofs.Common.{rules, refl, sym, ap, ◌∙◌, take, Some, None}
use Rattle.relay_outside.specs.declared.link.Said.TheVariants as said
use Rattle.relay_session.specs.Places.{AskedAlone}
use Rattle.http_flv.specs.Turns.{life}
use Rattle.http_flv.specs.declared.end.HttpEnd.TheVariants as end
use Rattle.http_flv.specs.declared.turn.HttpTurn.TheVariants.{Ended}
use Rattle.http_flv.proofs.Rounds.{sent_some, took_on}
use Rattle.http_flv.proofs.Standing.{told_stands}
use Rattle.http_flv.proofs.turns.send_on.Goals as goal

pub returns-in-NotYet-clause-turn : goal.returns-in-NotYet-clause-turn
returns-in-NotYet-clause-turn g c =
    let P = g.P.StreamPort in
    let L = g.L.Link in
    let b = c.args.body.now in
    sent_some (AskedAlone P.fits P.rules P.root P.seen P.count P.wants P.busies P.adds P.kin P.branches) (g.D.Desk.grants c.args.desk.now) L.hears L.says (life b.core c.args.port.now b.seat) (life c.input_on-in-NotYet.new.body.core c.input_on-in-NotYet.new.port c.input_on-in-NotYet.new.body.seat) c.args.link.now c.send.new.self c.input_on-in-NotYet.new.link c.first.result.now said.NotYet c.args.moved c.input_on-in-NotYet.result
    (sym c.is_empty.ensures ∙ c.if-is_empty.false) (c.first.ensures.value ∙ ap (take 16384) c.left.ensures) c.in-NotYet.ensures.step c.input_on-in-NotYet.ensures.turn

pub returns-in-Failed-clause-turn : goal.returns-in-Failed-clause-turn
returns-in-Failed-clause-turn g c =
    let P = g.P.StreamPort in
    let L = g.L.Link in
    let b = c.args.body.now in
    sent_some (AskedAlone P.fits P.rules P.root P.seen P.count P.wants P.busies P.adds P.kin P.branches) (g.D.Desk.grants c.args.desk.now) L.hears L.says (life b.core c.args.port.now b.seat) (life b.core c.args.port.now b.seat) c.args.link.now c.send.new.self c.send.new.self c.first.result.now said.Failed c.args.moved (Ended end.LinkFault)
    (sym c.is_empty.ensures ∙ c.if-is_empty.false) (c.first.ensures.value ∙ ap (take 16384) c.left.ensures) c.in-Failed.ensures.step (record { ended = refl; gone = refl; port = refl; seat = refl }, refl)

pub returns-in-OutOfMemory-clause-turn : goal.returns-in-OutOfMemory-clause-turn
returns-in-OutOfMemory-clause-turn g c =
    let P = g.P.StreamPort in
    let L = g.L.Link in
    let b = c.args.body.now in
    sent_some (AskedAlone P.fits P.rules P.root P.seen P.count P.wants P.busies P.adds P.kin P.branches) (g.D.Desk.grants c.args.desk.now) L.hears L.says (life b.core c.args.port.now b.seat) (life b.core c.args.port.now b.seat) c.args.link.now c.send.new.self c.send.new.self c.first.result.now said.OutOfMemory c.args.moved (Ended end.OutOfMemory)
    (sym c.is_empty.ensures ∙ c.if-is_empty.false) (c.first.ensures.value ∙ ap (take 16384) c.left.ensures) c.in-OutOfMemory.ensures.step (record { ended = refl; gone = refl; port = refl; seat = refl }, refl)

pub returns-in-None-clause-turn : goal.returns-in-None-clause-turn
returns-in-None-clause-turn g c =
    let P = g.P.StreamPort in
    let L = g.L.Link in
    let b = c.args.body.now in
    sent_some (AskedAlone P.fits P.rules P.root P.seen P.count P.wants P.busies P.adds P.kin P.branches) (g.D.Desk.grants c.args.desk.now) L.hears L.says (life b.core c.args.port.now b.seat) (life c.input_on-in-None.new.body.core c.input_on-in-None.new.port c.input_on-in-None.new.body.seat) c.args.link.now c.send.new.self c.input_on-in-None.new.link c.first.result.now (said.Took c.in-Took.count) c.args.moved c.input_on-in-None.result
    (sym c.is_empty.ensures ∙ c.if-is_empty.false) (c.first.ensures.value ∙ ap (take 16384) c.left.ensures) c.in-Took.ensures.step
    (took_on (AskedAlone P.fits P.rules P.root P.seen P.count P.wants P.busies P.adds P.kin P.branches) (g.D.Desk.grants c.args.desk.now) L.hears L.says (life b.core c.args.port.now b.seat) (life c.input_on-in-None.new.body.core c.input_on-in-None.new.port c.input_on-in-None.new.body.seat) c.send.new.self c.input_on-in-None.new.link c.note_sent.new.core c.in-Took.count None c.args.moved c.input_on-in-None.result c.note_sent.ensures.sent (search rules) c.input_on-in-None.ensures.turn)

pub returns-in-Some-clause-turn : goal.returns-in-Some-clause-turn
returns-in-Some-clause-turn g c =
    let P = g.P.StreamPort in
    let L = g.L.Link in
    let b = c.args.body.now in
    sent_some (AskedAlone P.fits P.rules P.root P.seen P.count P.wants P.busies P.adds P.kin P.branches) (g.D.Desk.grants c.args.desk.now) L.hears L.says (life b.core c.args.port.now b.seat) (life c.note_sent.new.core c.args.port.now b.seat) c.args.link.now c.send.new.self c.send.new.self c.first.result.now (said.Took c.in-Took.count) c.args.moved (Ended (end.Answered c.in-Some.code))
    (sym c.is_empty.ensures ∙ c.if-is_empty.false) (c.first.ensures.value ∙ ap (take 16384) c.left.ensures) c.in-Took.ensures.step
    (took_on (AskedAlone P.fits P.rules P.root P.seen P.count P.wants P.busies P.adds P.kin P.branches) (g.D.Desk.grants c.args.desk.now) L.hears L.says (life b.core c.args.port.now b.seat) (life c.note_sent.new.core c.args.port.now b.seat) c.send.new.self c.send.new.self c.note_sent.new.core c.in-Took.count (Some c.in-Some.code) c.args.moved (Ended (end.Answered c.in-Some.code)) c.note_sent.ensures.sent (search rules) (record { ended = refl; gone = refl; port = refl; seat = refl }, refl))

pub returns-in-Some-clause-stands : goal.returns-in-Some-clause-stands
returns-in-Some-clause-stands g c = λ s. told_stands (g.D.Desk.grants c.args.desk.now) c.note_sent.new.core c.in-Some.code (search rules) (c.note_sent.ensures.stands (g.D.Desk.grants c.args.desk.now) s)
