use Rattle.std.proofs.Common.{◌≡◌, ◌<◌, length, get_or, sym, subst, rules}
use Rattle.config_desk.specs.Grants.{granted_from}
use Rattle.relay_replay.specs.Cast.{CastState}
use Rattle.relay_replay.specs.Scenes.{Sits}
use Rattle.relay_replay.proofs.Keep.{session_sits, offered, turn_of}
use Rattle.relay_replay.proofs.cast.Cast.turn.Goals as goal

pub turn-requires-clause-offered : goal.turn-requires-clause-offered
turn-requires-clause-offered g c =
    let i = c.self.inside in
    let list = c.args.desk.now.list.now in
    let opens = c.args.desk.now.opens.now in
    let old : CastState = record { port = i.port; sessions = i.sessions.items; recorders = i.recorders.items } in
    let sits : Sits list opens (length c.args.self.now.recorders) old =
    subst (Sits list opens (length c.args.self.now.recorders)) (sym c.self.view_is) c.requires.sits in
    offered list opens i.port sits.port

pub returns-clause-sits : goal.returns-clause-sits
returns-clause-sits g c =
    let i = c.self.inside in
    let list = c.args.desk.now.list.now in
    let opens = c.args.desk.now.opens.now in
    let old : CastState = record { port = i.port; sessions = i.sessions.items; recorders = i.recorders.items } in
    let sits : Sits list opens (length c.args.self.now.recorders) old =
    subst (Sits list opens (length c.args.self.now.recorders)) (sym c.self.view_is) c.requires.sits in
    session_sits c.turn.result list opens (length c.args.self.now.recorders) c.args.n old c.turn.new.port c.turn.new.self sits
    c.turn.ensures.fixed c.turn.ensures.fits c.turn.ensures.ready

pub returns-clause-turn : goal.returns-clause-turn
returns-clause-turn g c =
    let i = c.self.inside in
    let old : CastState = record { port = i.port; sessions = i.sessions.items; recorders = i.recorders.items } in
    let there : c.args.n < length i.sessions.items = search rules in
    let read : c.index_mut.result.now ≡ get_or i.sessions.items c.args.n c.index_mut.result.now = search rules in
    rw (← c.self.view_is) (turn_of c.turn.result (granted_from 0 c.args.desk.now.list.now c.args.desk.now.opens.now) c.args.n old c.index_mut.result.now
    c.turn.new.port
    c.turn.new.self there read c.turn.ensures.fixed c.turn.ensures.turn)
