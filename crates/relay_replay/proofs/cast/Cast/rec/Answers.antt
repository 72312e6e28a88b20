use Rattle.std.proofs.Common.{length, sym, subst}
use Rattle.relay_replay.specs.Cast.{CastState}
use Rattle.relay_replay.specs.Scenes.{Sits}
use Rattle.relay_replay.proofs.Keep.{recorder_sits}
use Rattle.relay_replay.proofs.cast.Cast.rec.Goals as goal

pub returns-clause-sits : goal.returns-clause-sits
returns-clause-sits g c =
    let i = c.self.inside in
    let list = c.args.desk.now.list.now in
    let opens = c.args.desk.now.opens.now in
    let old : CastState = record { port = i.port; sessions = i.sessions.items; recorders = i.recorders.items } in
    let sits : Sits list opens (length c.args.self.now.recorders) old =
    subst (Sits list opens (length c.args.self.now.recorders)) (sym c.self.view_is) c.requires.sits in
    recorder_sits c.turn.result list opens (length c.args.self.now.recorders) c.args.n old c.turn.new.port c.turn.new.self sits c.turn.ensures.fixed
    c.turn.ensures.others c.turn.ensures.fits
