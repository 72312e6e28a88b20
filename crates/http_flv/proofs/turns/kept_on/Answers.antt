use Rattle.std.proofs.Common.{rules, refl, Ok, Err, Some}
use Rattle.relay_session.specs.Places.{AskedAlone}
use Rattle.http_flv.specs.Turns.{life}
use Rattle.http_flv.specs.declared.turn.HttpTurn.TheVariants.{Ended, Idle}
use Rattle.http_flv.proofs.Rounds.{after_false, after_true, kept_none, kept_some}
use Rattle.http_flv.proofs.Standing.{stands_kept}
use Rattle.http_flv.proofs.turns.kept_on.Goals as goal

pub returns-in-None-clause-turn : goal.returns-in-None-clause-turn
returns-in-None-clause-turn g c =
    let P = g.P.StreamPort in
    let L = g.L.Link in
    let b = c.args.body.now in
    kept_none (AskedAlone P.fits P.rules P.root P.seen P.count P.wants P.busies P.adds P.kin P.branches) (g.D.Desk.grants c.args.desk.now) L.hears L.says (life b.core c.args.port.now b.seat) (life c.send_on.new.body.core c.send_on.new.port c.send_on.new.body.seat) c.args.link.now c.send_on.new.link c.take.new.self c.send_on.result (search rules) (search rules) c.send_on.ensures.turn

pub returns-in-Ok-true-clause-turn : goal.returns-in-Ok-true-clause-turn
returns-in-Ok-true-clause-turn g c =
    let P = g.P.StreamPort in
    let L = g.L.Link in
    let b = c.args.body.now in
    let m = c.make.new in
    let k = life m.body.core m.port m.body.seat in
    let w = life c.send_on-in-Ok-true.new.body.core c.send_on-in-Ok-true.new.port c.send_on-in-Ok-true.new.body.seat in
    kept_some (AskedAlone P.fits P.rules P.root P.seen P.count P.wants P.busies P.adds P.kin P.branches) (g.D.Desk.grants c.args.desk.now) L.hears L.says (life b.core c.args.port.now b.seat) k w c.args.link.now c.send_on-in-Ok-true.new.link c.in-Some.entry (Ok c.in-Ok-true.field-0) c.send_on-in-Ok-true.result (search rules) c.in-Ok-true.ensures.tried
    (after_true (AskedAlone P.fits P.rules P.root P.seen P.count P.wants P.busies P.adds P.kin P.branches) (g.D.Desk.grants c.args.desk.now) L.hears L.says k w c.args.link.now c.send_on-in-Ok-true.new.link c.in-Ok-true.field-0 c.send_on-in-Ok-true.result c.in-Ok-true.field-0-test c.send_on-in-Ok-true.ensures.turn)

pub returns-in-Ok-false-clause-turn : goal.returns-in-Ok-false-clause-turn
returns-in-Ok-false-clause-turn g c =
    let P = g.P.StreamPort in
    let L = g.L.Link in
    let b = c.args.body.now in
    let m = c.make.new in
    let k = life m.body.core m.port m.body.seat in
    kept_some (AskedAlone P.fits P.rules P.root P.seen P.count P.wants P.busies P.adds P.kin P.branches) (g.D.Desk.grants c.args.desk.now) L.hears L.says (life b.core c.args.port.now b.seat) k k c.args.link.now c.args.link.now c.in-Some.entry (Ok c.in-Ok-false.field-0) Idle (search rules) c.in-Ok-false.ensures.tried
    (after_false (AskedAlone P.fits P.rules P.root P.seen P.count P.wants P.busies P.adds P.kin P.branches) (g.D.Desk.grants c.args.desk.now) L.hears L.says k c.args.link.now c.in-Ok-false.field-0 Idle c.in-Ok-false.field-0-test refl)

pub returns-in-Err-clause-turn : goal.returns-in-Err-clause-turn
returns-in-Err-clause-turn g c =
    let P = g.P.StreamPort in
    let L = g.L.Link in
    let b = c.args.body.now in
    let m = c.make.new in
    let k = life m.body.core m.port m.body.seat in
    kept_some (AskedAlone P.fits P.rules P.root P.seen P.count P.wants P.busies P.adds P.kin P.branches) (g.D.Desk.grants c.args.desk.now) L.hears L.says (life b.core c.args.port.now b.seat) k k c.args.link.now c.args.link.now c.in-Some.entry (Err c.in-Err.end) (Ended c.in-Err.end) (search rules) c.in-Err.ensures.tried (record { ended = refl; gone = refl; port = refl; seat = refl }, refl)

pub returns-in-Err-clause-stands : goal.returns-in-Err-clause-stands
returns-in-Err-clause-stands g c = λ s. c.in-Err.ensures.stands (g.D.Desk.grants c.args.desk.now) (stands_kept (g.D.Desk.grants c.args.desk.now) c.args.body.now.core (Some c.in-Some.entry) s)
