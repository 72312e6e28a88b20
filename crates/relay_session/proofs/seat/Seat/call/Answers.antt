use Rattle.std.proofs.Common.{rules, ◌≡◌, true, false, [], ◌∷◌, refl}
use Rattle.relay_session.specs.Alone.{branches_at}
use Rattle.relay_session.specs.SeatState.{known, is_over}
use Rattle.relay_session.proofs.SeatStanding.{go_on_trans, noted_later}
use Rattle.relay_session.proofs.SeatGrowing.{grows_then}
use Rattle.relay_session.proofs.SeatSplitting.{rests_on, rests_over}
use Rattle.relay_session.proofs.seat.Seat.call.Goals as goal

pub returns-then-over-clause-noted : goal.returns-then-over-clause-noted
returns-then-over-clause-noted g c =
    let P = g.P.StreamPort in
    noted_later ((P.rules c.args.port.now).limits c.args.place) (P.root c.args.port.now c.args.place) (known P.root P.seen c.args.port.now c.args.self.now c.args.place) (c.args.entry, c.in-Answer.reply)
    (known P.root P.seen c.ask.new.port c.ask.new.self c.args.place) (known P.root P.seen c.rise.new.port c.rise.new.self c.args.place) (c.rise.ensures.knows.at_each c.args.place) c.in-Answer.ensures.noted

pub returns-then-over-clause-knows : goal.returns-then-over-clause-knows
returns-then-over-clause-knows g c =
    let P = g.P.StreamPort in
    go_on_trans (known P.root P.seen c.args.port.now c.args.self.now) (known P.root P.seen c.ask.new.port c.ask.new.self) (known P.root P.seen c.rise.new.port c.rise.new.self) c.ask.ensures.knows c.rise.ensures.knows

pub returns-then-over-clause-roots : goal.returns-then-over-clause-roots
returns-then-over-clause-roots g c =
    let P = g.P.StreamPort in
    go_on_trans (P.root c.args.port.now) (P.root c.ask.new.port) (P.root c.rise.new.port) c.ask.ensures.roots c.rise.ensures.roots

pub returns-then-over-clause-adds : goal.returns-then-over-clause-adds
returns-then-over-clause-adds g c =
    let P = g.P.StreamPort in
    let M = g.met.P.StreamPort in
    grows_then P.adds M.adds_none M.adds_both (P.root c.args.port.now) (P.root c.ask.new.port) (P.root c.rise.new.port) c.args.place ((c.args.entry, c.in-Answer.reply) ∷ []) c.in-Answer.ensures.adds c.rise.ensures.adds

pub returns-then-over-clause-splits : goal.returns-then-over-clause-splits
returns-then-over-clause-splits g c =
    let P = g.P.StreamPort in
    let o : is_over c.in-Answer.reply ≡ true = search rules in
    record {
      between = P.kin c.ask.new.port;
      grown = branches_at P.branches c.ask.new.self.spot;
      call = c.in-Answer.ensures.splits;
      rests = rests_over P.branches (is_over c.in-Answer.reply) (P.kin c.ask.new.port) (P.kin c.rise.new.port) c.ask.new.self.spot c.rise.new.self.spot c.args.place o c.in-Answer.ensures.spot c.rise.ensures.gives c.rise.ensures.spot;
    }

pub returns-else-over-clause-splits : goal.returns-else-over-clause-splits
returns-else-over-clause-splits g c =
    let P = g.P.StreamPort in
    let o : is_over c.in-Answer.reply ≡ false = search rules in
    record {
      between = P.kin c.ask.new.port;
      grown = branches_at P.branches c.ask.new.self.spot;
      call = c.in-Answer.ensures.splits;
      rests = rests_on P.branches (is_over c.in-Answer.reply) (P.kin c.ask.new.port) c.ask.new.self.spot c.args.place o;
    }

pub returns-in-Busy-clause-splits : goal.returns-in-Busy-clause-splits
returns-in-Busy-clause-splits g c =
    let P = g.P.StreamPort in
    record { between = P.kin c.ask.new.port; grown = branches_at P.branches c.ask.new.self.spot; call = c.in-Busy.ensures.splits; rests = (refl, refl) }

pub returns-in-Worn-clause-splits : goal.returns-in-Worn-clause-splits
returns-in-Worn-clause-splits g c =
    let P = g.P.StreamPort in
    record { between = P.kin c.ask.new.port; grown = branches_at P.branches c.ask.new.self.spot; call = c.in-Worn.ensures.splits; rests = (refl, refl) }

pub returns-in-OutOfMemory-clause-splits : goal.returns-in-OutOfMemory-clause-splits
returns-in-OutOfMemory-clause-splits g c =
    let P = g.P.StreamPort in
    record { between = P.kin c.ask.new.port; grown = branches_at P.branches c.ask.new.self.spot; call = c.in-OutOfMemory.ensures.splits; rests = (refl, refl) }
