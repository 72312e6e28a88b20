use Rattle.relay_session.specs.Alone.{branches_at, made_step}
use Rattle.relay_session.specs.SeatState.{known}
use Rattle.relay_session.proofs.SeatStanding.{go_on_trans}
use Rattle.relay_session.proofs.SeatGrowing.{grows_after}
use Rattle.relay_session.proofs.seat.Seat.make.Goals as goal

pub returns-clause-knows : goal.returns-clause-knows
returns-clause-knows g c =
    let P = g.P.StreamPort in
    go_on_trans (known P.root P.seen c.args.port.now c.args.self.now) (known P.root P.seen c.enter.new.port c.enter.new.self) (known P.root P.seen c.call-made.new.port c.call-made.new.self) c.enter.ensures.knows c.call-made.ensures.knows

pub returns-clause-roots : goal.returns-clause-roots
returns-clause-roots g c =
    let P = g.P.StreamPort in
    go_on_trans (P.root c.args.port.now) (P.root c.enter.new.port) (P.root c.call-made.new.port) c.enter.ensures.roots c.call-made.ensures.roots

pub returns-clause-adds : goal.returns-clause-adds
returns-clause-adds g c =
    let P = g.P.StreamPort in
    let M = g.met.P.StreamPort in
    grows_after P.adds M.adds_none M.adds_both (P.root c.args.port.now) (P.root c.enter.new.port) (P.root c.call-made.new.port) c.args.place (made_step c.args.entry c.call-made.result) c.enter.ensures.adds c.call-made.ensures.adds

pub returns-clause-splits : goal.returns-clause-splits
returns-clause-splits g c =
    let P = g.P.StreamPort in
    record { between = P.kin c.enter.new.port; pass = branches_at P.branches c.enter.new.self.spot; comes = c.enter.ensures.comes; call = c.call-made.ensures.splits }
