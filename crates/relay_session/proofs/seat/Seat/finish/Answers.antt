use Rattle.std.proofs.Common.{refl, ◌∙◌}
use Rattle.relay_session.specs.SeatState.{known, is_over}
use Rattle.relay_session.proofs.SeatStanding.{begins_same, go_on_trans, not_here, not_there}
use Rattle.relay_session.specs.declared.seat_answers.Made.TheVariants as made
use Rattle.relay_session.proofs.SeatGrowing.{as_made, as_none, none_same}
use Rattle.relay_session.proofs.SeatSplitting.{none_gives, one_gives, one_rests}
use Rattle.relay_session.proofs.seat.Seat.finish.Goals as goal

pub returns-in-Answer-clause-knows : goal.returns-in-Answer-clause-knows
returns-in-Answer-clause-knows g c =
    let P = g.P.StreamPort in
    go_on_trans (known P.root P.seen c.args.port.now c.args.self.now) (known P.root P.seen c.call.new.port c.call.new.self) (known P.root P.seen c.rise-in-Answer.new.port c.rise-in-Answer.new.self) c.call.ensures.knows c.rise-in-Answer.ensures.knows

pub returns-in-Answer-clause-roots : goal.returns-in-Answer-clause-roots
returns-in-Answer-clause-roots g c =
    let P = g.P.StreamPort in
    go_on_trans (P.root c.args.port.now) (P.root c.call.new.port) (P.root c.rise-in-Answer.new.port) c.call.ensures.roots c.rise-in-Answer.ensures.roots

pub returns-clause-knows : goal.returns-clause-knows
returns-clause-knows g c =
    let P = g.P.StreamPort in
    go_on_trans (known P.root P.seen c.args.port.now c.args.self.now) (known P.root P.seen c.call.new.port c.call.new.self) (known P.root P.seen c.rise-in-Worn.new.port c.rise-in-Worn.new.self) c.call.ensures.knows c.rise-in-Worn.ensures.knows

pub returns-clause-roots : goal.returns-clause-roots
returns-clause-roots g c =
    let P = g.P.StreamPort in
    go_on_trans (P.root c.args.port.now) (P.root c.call.new.port) (P.root c.rise-in-Worn.new.port) c.call.ensures.roots c.rise-in-Worn.ensures.roots

pub returns-in-Answer-clause-others : goal.returns-in-Answer-clause-others
returns-in-Answer-clause-others g c = λ q away.
    let d = not_here c.args.self.now.spot c.args.place q c.requires.spot away in
    c.rise-in-Answer.ensures.others q (not_there (is_over c.in-Answer.field-0) c.call.new.self.spot c.args.place q c.in-Answer.ensures.spot d) ∙ c.call.ensures.others q d

pub returns-in_default-clause-adds : goal.returns-in_default-clause-adds
returns-in_default-clause-adds g c =
    let P = g.P.StreamPort in
    let M = g.met.P.StreamPort in
    as_none P.adds M.adds_none M.adds_both ((P.rules c.args.port.now).limits c.args.place) (P.root c.args.port.now) (P.root c.rise.new.port) (known P.root P.seen c.args.port.now c.args.self.now c.args.place) (known P.root P.seen c.rise.new.port c.rise.new.self c.args.place) c.args.place c.args.self.now.visits c.rise.new.self.visits c.rise.ensures.visits c.rise.ensures.adds

pub returns-in_default-clause-splits : goal.returns-in_default-clause-splits
returns-in_default-clause-splits g c =
    let P = g.P.StreamPort in
    none_gives P.branches (P.kin c.args.port.now) (P.kin c.rise.new.port) c.args.self.now.spot c.rise.new.self.spot c.args.place c.args.self.now.visits c.rise.new.self.visits c.requires.spot c.rise.ensures.gives c.rise.ensures.spot c.rise.ensures.visits

pub returns-in-Answer-clause-adds : goal.returns-in-Answer-clause-adds
returns-in-Answer-clause-adds g c =
    let P = g.P.StreamPort in
    let M = g.met.P.StreamPort in
    as_made P.adds M.adds_none M.adds_both ((P.rules c.args.port.now).limits c.args.place) (P.root c.args.port.now) (P.root c.call.new.port) (P.root c.rise-in-Answer.new.port) (known P.root P.seen c.args.port.now c.args.self.now c.args.place) (known P.root P.seen c.call.new.port c.call.new.self c.args.place) (known P.root P.seen c.rise-in-Answer.new.port c.rise-in-Answer.new.self c.args.place) c.args.place (record { who = c.args.who; at = c.args.fed; call = c.in-Some.call }) (made.Answer c.in-Answer.field-0) c.args.self.now.visits _ (c.rise-in-Answer.ensures.visits ∙ c.in-Answer.ensures.makes) c.in-Answer.ensures.noted (c.rise-in-Answer.ensures.knows.at_each c.args.place) c.in-Answer.ensures.adds c.rise-in-Answer.ensures.adds

pub returns-in-Answer-clause-splits : goal.returns-in-Answer-clause-splits
returns-in-Answer-clause-splits g c =
    let P = g.P.StreamPort in
    one_gives P.branches (P.kin c.args.port.now) (P.kin c.call.new.port) (P.kin c.rise-in-Answer.new.port) c.args.self.now.spot c.call.new.self.spot c.rise-in-Answer.new.self.spot c.args.place (record { who = c.args.who; at = c.args.fed; call = c.in-Some.call }) (made.Answer c.in-Answer.field-0) c.args.self.now.visits _ c.in-Answer.ensures.splits c.in-Answer.ensures.spot c.rise-in-Answer.ensures.gives c.rise-in-Answer.ensures.spot (c.rise-in-Answer.ensures.visits ∙ c.in-Answer.ensures.makes)

pub returns-in-Busy-clause-adds : goal.returns-in-Busy-clause-adds
returns-in-Busy-clause-adds g c =
    let P = g.P.StreamPort in
    let M = g.met.P.StreamPort in
    as_made P.adds M.adds_none M.adds_both ((P.rules c.args.port.now).limits c.args.place) (P.root c.args.port.now) (P.root c.call.new.port) (P.root c.call.new.port) (known P.root P.seen c.args.port.now c.args.self.now c.args.place) (known P.root P.seen c.call.new.port c.call.new.self c.args.place) (known P.root P.seen c.call.new.port c.call.new.self c.args.place) c.args.place (record { who = c.args.who; at = c.args.fed; call = c.in-Some.call }) (made.Busy c.in-Busy.field-0) c.args.self.now.visits _ (c.in-Busy.ensures.makes) c.in-Busy.ensures.noted (begins_same _ _ refl) c.in-Busy.ensures.adds (none_same P.adds M.adds_none M.adds_both (P.root c.call.new.port) (P.root c.call.new.port) (λ q. refl))

pub returns-in-Busy-clause-splits : goal.returns-in-Busy-clause-splits
returns-in-Busy-clause-splits g c =
    let P = g.P.StreamPort in
    one_rests P.branches (P.kin c.args.port.now) (P.kin c.call.new.port) c.args.self.now.spot c.call.new.self.spot c.args.place (record { who = c.args.who; at = c.args.fed; call = c.in-Some.call }) (made.Busy c.in-Busy.field-0) c.args.self.now.visits _ c.in-Busy.ensures.splits c.in-Busy.ensures.spot c.in-Busy.ensures.makes

pub returns-in-OutOfMemory-clause-adds : goal.returns-in-OutOfMemory-clause-adds
returns-in-OutOfMemory-clause-adds g c =
    let P = g.P.StreamPort in
    let M = g.met.P.StreamPort in
    as_made P.adds M.adds_none M.adds_both ((P.rules c.args.port.now).limits c.args.place) (P.root c.args.port.now) (P.root c.call.new.port) (P.root c.call.new.port) (known P.root P.seen c.args.port.now c.args.self.now c.args.place) (known P.root P.seen c.call.new.port c.call.new.self c.args.place) (known P.root P.seen c.call.new.port c.call.new.self c.args.place) c.args.place (record { who = c.args.who; at = c.args.fed; call = c.in-Some.call }) (made.OutOfMemory c.in-OutOfMemory.field-0) c.args.self.now.visits _ (c.in-OutOfMemory.ensures.makes) c.in-OutOfMemory.ensures.noted (begins_same _ _ refl) c.in-OutOfMemory.ensures.adds (none_same P.adds M.adds_none M.adds_both (P.root c.call.new.port) (P.root c.call.new.port) (λ q. refl))

pub returns-in-OutOfMemory-clause-splits : goal.returns-in-OutOfMemory-clause-splits
returns-in-OutOfMemory-clause-splits g c =
    let P = g.P.StreamPort in
    one_rests P.branches (P.kin c.args.port.now) (P.kin c.call.new.port) c.args.self.now.spot c.call.new.self.spot c.args.place (record { who = c.args.who; at = c.args.fed; call = c.in-Some.call }) (made.OutOfMemory c.in-OutOfMemory.field-0) c.args.self.now.visits _ c.in-OutOfMemory.ensures.splits c.in-OutOfMemory.ensures.spot c.in-OutOfMemory.ensures.makes

pub returns-clause-adds : goal.returns-clause-adds
returns-clause-adds g c =
    let P = g.P.StreamPort in
    let M = g.met.P.StreamPort in
    as_made P.adds M.adds_none M.adds_both ((P.rules c.args.port.now).limits c.args.place) (P.root c.args.port.now) (P.root c.call.new.port) (P.root c.rise-in-Worn.new.port) (known P.root P.seen c.args.port.now c.args.self.now c.args.place) (known P.root P.seen c.call.new.port c.call.new.self c.args.place) (known P.root P.seen c.rise-in-Worn.new.port c.rise-in-Worn.new.self c.args.place) c.args.place (record { who = c.args.who; at = c.args.fed; call = c.in-Some.call }) (made.Worn c.in-Worn.field-0) c.args.self.now.visits _ (c.in-Worn.ensures.makes.0, c.rise-in-Worn.ensures.visits ∙ c.in-Worn.ensures.makes.1) c.in-Worn.ensures.noted (c.rise-in-Worn.ensures.knows.at_each c.args.place) c.in-Worn.ensures.adds c.rise-in-Worn.ensures.adds

pub returns-clause-splits : goal.returns-clause-splits
returns-clause-splits g c =
    let P = g.P.StreamPort in
    one_gives P.branches (P.kin c.args.port.now) (P.kin c.call.new.port) (P.kin c.rise-in-Worn.new.port) c.args.self.now.spot c.call.new.self.spot c.rise-in-Worn.new.self.spot c.args.place (record { who = c.args.who; at = c.args.fed; call = c.in-Some.call }) (made.Worn c.in-Worn.field-0) c.args.self.now.visits _ c.in-Worn.ensures.splits c.in-Worn.ensures.spot c.rise-in-Worn.ensures.gives c.rise-in-Worn.ensures.spot (c.in-Worn.ensures.makes.0, c.rise-in-Worn.ensures.visits ∙ c.in-Worn.ensures.makes.1)
