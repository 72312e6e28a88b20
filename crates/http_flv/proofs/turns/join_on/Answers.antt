use Rattle.std.proofs.Common.{rules, refl, Some, Ok, Err}
use Rattle.relay_session.specs.Places.{AskedAlone}
use Rattle.http_flv.specs.Turns.{life}
use Rattle.http_flv.specs.declared.turn.HttpTurn.TheVariants.{Ended}
use Rattle.http_flv.proofs.Rounds.{joined_some}
use Rattle.http_flv.proofs.Standing.{stands_kept}
use Rattle.http_flv.proofs.turns.join_on.Goals as goal

pub returns-in-None-clause-stands : goal.returns-in-None-clause-stands
returns-in-None-clause-stands g c = λ desk s. c.take_on.ensures.stands desk (stands_kept desk c.args.body.now.core c.take.new.self s)

pub returns-in-Ok-clause-turn : goal.returns-in-Ok-clause-turn
returns-in-Ok-clause-turn g c =
    let P = g.P.StreamPort in
    let b = c.args.body.now in
    let m = c.make.new in
    let f = c.take_on-in-Ok in
    joined_some (AskedAlone P.fits P.rules P.root P.seen P.count P.wants P.busies P.adds P.kin P.branches) (life b.core c.args.port.now b.seat) (life m.body.core m.port m.body.seat) (life f.new.body.core f.new.port f.new.body.seat) c.in-Some.entry (Ok c.in-Ok.field-0) f.result
    (search rules) c.in-Ok.ensures.tried f.ensures.turn

pub returns-in-Err-clause-stands : goal.returns-in-Err-clause-stands
returns-in-Err-clause-stands g c = λ desk s. c.in-Err.ensures.stands desk (stands_kept desk c.args.body.now.core (Some c.in-Some.entry) s)

pub returns-in-Err-clause-turn : goal.returns-in-Err-clause-turn
returns-in-Err-clause-turn g c =
    let P = g.P.StreamPort in
    let b = c.args.body.now in
    let m = c.make.new in
    joined_some (AskedAlone P.fits P.rules P.root P.seen P.count P.wants P.busies P.adds P.kin P.branches) (life b.core c.args.port.now b.seat) (life m.body.core m.port m.body.seat) (life m.body.core m.port m.body.seat) c.in-Some.entry (Err c.in-Err.end) (Ended c.in-Err.end)
    (search rules) c.in-Err.ensures.tried (record { ended = refl; gone = refl; port = refl; seat = refl })
