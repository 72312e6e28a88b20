use Rattle.std.proofs.Common.{rules, refl, Ok, Err}
use Rattle.relay_session.specs.Places.{AskedAlone}
use Rattle.relay_session.specs.Turns.{life}
use Rattle.relay_session.specs.declared.turn.Turn.TheVariants.{Ended}
use Rattle.relay_session.proofs.Rounds.{called_failed, called_some}
use Rattle.relay_session.proofs.six_steps.make_on.Goals as goal

pub returns-in-Ok-clause-turn : goal.returns-in-Ok-clause-turn
returns-in-Ok-clause-turn g c =
    let P = g.P.StreamPort in
    let b = c.args.body.now in
    let m = c.make.new in
    let f = c.finish-in-Ok in
    called_some (AskedAlone P.fits P.rules P.root P.seen P.count P.wants P.busies P.adds P.kin P.branches) (life b.core b.input c.args.port.now b.seat) (life m.body.core m.body.input m.port m.body.seat) (life f.new.body.core f.new.body.input f.new.port f.new.body.seat) c.in-Some.entry (Ok c.in-Ok.field-0) c.in-Ok.field-0 f.result
    (search rules) c.in-Ok.ensures.tried refl f.ensures.turn

pub returns-in-Err-clause-turn : goal.returns-in-Err-clause-turn
returns-in-Err-clause-turn g c =
    let P = g.P.StreamPort in
    let b = c.args.body.now in
    let m = c.make.new in
    called_failed (AskedAlone P.fits P.rules P.root P.seen P.count P.wants P.busies P.adds P.kin P.branches) (life b.core b.input c.args.port.now b.seat) (life m.body.core m.body.input m.port m.body.seat) c.in-Some.entry (Err c.in-Err.end) c.in-Err.end (Ended c.in-Err.end) (search rules) c.in-Err.ensures.tried refl refl
