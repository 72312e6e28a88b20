use Rattle.std.proofs.Common.{rules, refl, inr, take}
use Rattle.relay_outside.specs.Heard.{CameBytes}
use Rattle.relay_session.specs.Places.{AskedAlone}
use Rattle.relay_session.specs.Turns.{life}
use Rattle.relay_session.specs.declared.end.End.TheVariants as end
use Rattle.relay_session.specs.declared.turn.Turn.TheVariants.{Ended}
use Rattle.relay_session.proofs.Rounds.{input_came}
use Rattle.relay_session.proofs.six_steps.input_on.Goals as goal

pub returns-in-Err-clause-turn : goal.returns-in-Err-clause-turn
returns-in-Err-clause-turn g c =
    let P = g.P.StreamPort in
    let L = g.L.Link in
    let b = c.args.body.now in
    input_came (AskedAlone P.fits P.rules P.root P.seen P.count P.wants P.busies P.adds P.kin P.branches) (g.D.Desk.grants c.args.desk.now) L.hears (life b.core b.input c.args.port.now b.seat) (life b.core c.receive.new.self c.args.port.now b.seat) c.args.link.now c.recv.new.self (CameBytes (take c.in-Bytes.count c.recv.new.into)) c.args.moved
    (Ended end.OutOfMemory) (search rules) (search rules) c.in-Bytes.ensures.step (inr (record { ended = refl; gone = refl; port = refl; seat = refl }))
