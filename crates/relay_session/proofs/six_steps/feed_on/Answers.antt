use Rattle.std.proofs.Common.{◌∙◌, ap, refl, subst, Bool}
use Rattle.stream_registry.specs.Names.{places}
use Rattle.relay_session.specs.Feeding.{Hears}
use Rattle.relay_session.specs.Places.{AskedAlone}
use Rattle.relay_session.specs.Turns.{Taken, is_nil, life}
use Rattle.relay_session.specs.declared.turn.Turn.TheVariants.{Ended}
use Rattle.relay_session.proofs.Rounds.{at_heard, fed_loud, fed_quiet, fed_stopped}
use Rattle.relay_session.proofs.Going.{light_fed}
use Rattle.relay_session.proofs.Stopping.{stands_on}
use Rattle.relay_session.proofs.six_steps.feed_on.Goals as goal

pub make_on-requires-clause-at : goal.make_on-requires-clause-at
make_on-requires-clause-at g c =
    let P = g.P.StreamPort in
    let b = c.args.body.now in
    let e = c.in-Ok-true.ensures in
    at_heard (P.fits c.args.port.now) (places (P.rules c.args.port.now)) (g.D.Desk.grants c.args.desk.now) b.core c.feed.new.core b.seat c.in-Ok-true.field-0 c.requires.at c.requires.offered c.in-Ok-true.field-0-test e.heard e.fed.fixed

pub returns-in-Ok-true-clause-turn : goal.returns-in-Ok-true-clause-turn
returns-in-Ok-true-clause-turn g c =
    let P = g.P.StreamPort in
    let b = c.args.body.now in
    let desk = g.D.Desk.grants c.args.desk.now in
    let e = c.in-Ok-true.ensures in
    let f = c.make_on in
    fed_loud (AskedAlone P.fits P.rules P.root P.seen P.count P.wants P.busies P.adds P.kin P.branches) desk (life b.core b.input c.args.port.now b.seat) (life f.new.body.core f.new.body.input f.new.port f.new.body.seat) c.feed.new.core c.feed.new.input c.args.moved f.result e.fed
    (subst (Hears desk b.core c.feed.new.core) c.in-Ok-true.field-0-test e.heard) f.ensures.turn (e.grows c.in-Ok-true.field-0-test) (stands_on desk b.core c.feed.new.core e.sound e.stands)

pub returns-in-Ok-false-clause-turn : goal.returns-in-Ok-false-clause-turn
returns-in-Ok-false-clause-turn g c =
    let P = g.P.StreamPort in
    let b = c.args.body.now in
    let desk = g.D.Desk.grants c.args.desk.now in
    let e = c.in-Ok-false.ensures in
    let f = c.finish in
    let w = life f.new.body.core f.new.body.input f.new.port f.new.body.seat in
    fed_quiet (AskedAlone P.fits P.rules P.root P.seen P.count P.wants P.busies P.adds P.kin P.branches) desk (life b.core b.input c.args.port.now b.seat) w c.feed.new.core c.feed.new.input c.is_empty-none.result c.args.moved f.result e.fed (e.all c.in-Ok-false.field-0-test)
    (subst (Hears desk b.core c.feed.new.core) c.in-Ok-false.field-0-test e.heard) (c.is_empty-none.ensures ∙ ap is_nil c.left.ensures.value)
    (subst (λ (x : Bool). Taken (AskedAlone P.fits P.rules P.root P.seen P.count P.wants P.busies P.adds P.kin P.branches) (life c.feed.new.core c.feed.new.input c.args.port.now b.seat) x f.result w) c.either.ensures f.ensures.turn) (stands_on desk b.core c.feed.new.core e.sound e.stands)

pub returns-in-Err-clause-turn : goal.returns-in-Err-clause-turn
returns-in-Err-clause-turn g c =
    let P = g.P.StreamPort in
    let b = c.args.body.now in
    fed_stopped (AskedAlone P.fits P.rules P.root P.seen P.count P.wants P.busies P.adds P.kin P.branches) (g.D.Desk.grants c.args.desk.now) (life b.core b.input c.args.port.now b.seat) c.feed.new.core c.feed.new.input c.in-Err.end c.args.moved (Ended c.in-Err.end) c.in-Err.ensures.stopped refl

pub make_on-requires-clause-sound : goal.make_on-requires-clause-sound
make_on-requires-clause-sound g c = record { sound = c.in-Ok-true.ensures.sound; light = light_fed c.feed.new.core.outgoing.others c.feed.new.core.kept c.feed.ensures.light; fits = c.feed.ensures.fits c.requires.sound.fits }
