use Rattle.std.proofs.Common.{rules, ◌≡◌, ℕ, Option, Some, None, refl, sym, subst, ◌∙◌}
use Rattle.stream_registry.specs.Names.{PortRules}
use Rattle.relay_session.specs.Alone.{GrowsAs, LeavesSplit}
use Rattle.relay_session.specs.SeatState.{known, place_of, is_over}
use Rattle.relay_session.proofs.SeatStanding.{begins_same, go_on_trans, not_here, not_there, leave_none, leave_some, leave_worn}
use Rattle.relay_session.specs.declared.seat_answers.Made.TheVariants as made
use Rattle.relay_session.proofs.SeatGrowing.{as_made, as_more, from_nowhere, from_place, none_same}
use Rattle.relay_session.proofs.SeatSplitting.{at_place, one_gives, one_more, one_rests}
use Rattle.relay_session.proofs.seat.Seat.leave.Goals as goal

pub returns-in-None-clause-leaves : goal.returns-in-None-clause-leaves
returns-in-None-clause-leaves g c =
    let at : place_of c.args.self.now.spot ≡ Some c.in-Some.place = search rules in
    leave_none (place_of c.args.self.now.spot) c.in-Some.place c.args.who c.args.fed c.args.kept.now c.take.new.self c.args.self.now.active c.finish.new.self.active c.args.self.now.visits c.finish.new.self.visits c.finish.result
    at (search rules) c.take.ensures.after c.finish.ensures.leaves

pub returns-in-Answer-clause-leaves : goal.returns-in-Answer-clause-leaves
returns-in-Answer-clause-leaves g c =
    let at : place_of c.args.self.now.spot ≡ Some c.in-Some.place = search rules in
    leave_some (place_of c.args.self.now.spot) c.in-Some.place c.args.who c.args.fed c.args.kept.now c.take.new.self c.in-Some-take.entry c.in-Answer.field-0 c.args.self.now.active c.call.new.self.active c.finish-in-Some-place.new.self.active
    c.args.self.now.visits c.call.new.self.visits c.finish-in-Some-place.new.self.visits c.finish-in-Some-place.result
    at (search rules) c.take.ensures.after c.in-Answer.ensures.active c.in-Answer.ensures.makes c.finish-in-Some-place.ensures.leaves

pub returns-in-Answer-clause-others : goal.returns-in-Answer-clause-others
returns-in-Answer-clause-others g c = λ q away.
    let at : place_of c.args.self.now.spot ≡ Some c.in-Some.place = search rules in
    let d = not_here c.args.self.now.spot c.in-Some.place q at away in
    c.finish-in-Some-place.ensures.others q (not_there (is_over c.in-Answer.field-0) c.call.new.self.spot c.in-Some.place q c.in-Answer.ensures.spot d) ∙ c.call.ensures.others q d

pub returns-clause-leaves : goal.returns-clause-leaves
returns-clause-leaves g c =
    let at : place_of c.args.self.now.spot ≡ Some c.in-Some.place = search rules in
    leave_worn (place_of c.args.self.now.spot) c.in-Some.place c.args.who c.args.fed c.args.kept.now (Some c.in-Worn.entry) c.args.self.now.active c.rise.new.self.active c.args.self.now.visits c.rise.new.self.visits
    at (search rules) (c.rise.ensures.visits ∙ c.in-Worn.ensures.makes.1)

pub returns-in-Answer-clause-knows : goal.returns-in-Answer-clause-knows
returns-in-Answer-clause-knows g c =
    let P = g.P.StreamPort in
    go_on_trans (known P.root P.seen c.args.port.now c.args.self.now) (known P.root P.seen c.call.new.port c.call.new.self) (known P.root P.seen c.finish-in-Some-place.new.port c.finish-in-Some-place.new.self) c.call.ensures.knows c.finish-in-Some-place.ensures.knows

pub returns-in-Answer-clause-roots : goal.returns-in-Answer-clause-roots
returns-in-Answer-clause-roots g c =
    let P = g.P.StreamPort in
    go_on_trans (P.root c.args.port.now) (P.root c.call.new.port) (P.root c.finish-in-Some-place.new.port) c.call.ensures.roots c.finish-in-Some-place.ensures.roots

pub returns-clause-knows : goal.returns-clause-knows
returns-clause-knows g c =
    let P = g.P.StreamPort in
    go_on_trans (known P.root P.seen c.args.port.now c.args.self.now) (known P.root P.seen c.call.new.port c.call.new.self) (known P.root P.seen c.rise.new.port c.rise.new.self) c.call.ensures.knows c.rise.ensures.knows

pub returns-clause-roots : goal.returns-clause-roots
returns-clause-roots g c =
    let P = g.P.StreamPort in
    go_on_trans (P.root c.args.port.now) (P.root c.call.new.port) (P.root c.rise.new.port) c.call.ensures.roots c.rise.ensures.roots

pub returns-in-None-clause-adds : goal.returns-in-None-clause-adds
returns-in-None-clause-adds g c =
    let P = g.P.StreamPort in
    let M = g.met.P.StreamPort in
    let at : place_of c.args.self.now.spot ≡ Some c.in-Some.place = search rules in
    from_place P.adds M.adds_none M.adds_both (P.rules c.args.port.now).limits (P.root c.args.port.now) (P.root c.finish.new.port) (known P.root P.seen c.args.port.now c.args.self.now) (known P.root P.seen c.finish.new.port c.finish.new.self) (place_of c.args.self.now.spot) c.in-Some.place c.args.self.now.visits c.finish.new.self.visits at c.finish.ensures.adds

pub returns-in-None-clause-splits : goal.returns-in-None-clause-splits
returns-in-None-clause-splits g c =
    let P = g.P.StreamPort in
    let at : place_of c.args.self.now.spot ≡ Some c.in-Some.place = search rules in
    at_place P.branches (place_of c.args.self.now.spot) c.in-Some.place (P.kin c.args.port.now) (P.kin c.finish.new.port) c.args.self.now.spot c.finish.new.self.spot c.args.self.now.visits c.finish.new.self.visits at
    c.finish.ensures.splits

pub returns-in-None-place-clause-adds : goal.returns-in-None-place-clause-adds
returns-in-None-place-clause-adds g c =
    let P = g.P.StreamPort in
    let M = g.met.P.StreamPort in
    let at : place_of c.args.self.now.spot ≡ Some c.in-Some.place = search rules in
    from_place P.adds M.adds_none M.adds_both (P.rules c.args.port.now).limits (P.root c.args.port.now) (P.root c.call.new.port) (known P.root P.seen c.args.port.now c.args.self.now) (known P.root P.seen c.call.new.port c.call.new.self) (place_of c.args.self.now.spot) c.in-Some.place c.args.self.now.visits c.call.new.self.visits at
    (as_made P.adds M.adds_none M.adds_both ((P.rules c.args.port.now).limits c.in-Some.place) (P.root c.args.port.now) (P.root c.call.new.port) (P.root c.call.new.port) (known P.root P.seen c.args.port.now c.args.self.now c.in-Some.place) (known P.root P.seen c.call.new.port c.call.new.self c.in-Some.place) (known P.root P.seen c.call.new.port c.call.new.self c.in-Some.place) c.in-Some.place c.in-Some-take.entry (made.Answer c.in-Answer.field-0) c.args.self.now.visits c.call.new.self.visits
    c.in-Answer.ensures.makes c.in-Answer.ensures.noted (begins_same _ _ refl) c.in-Answer.ensures.adds (none_same P.adds M.adds_none M.adds_both (P.root c.call.new.port) (P.root c.call.new.port) (λ q. refl)))

pub returns-in-None-place-clause-splits : goal.returns-in-None-place-clause-splits
returns-in-None-place-clause-splits g c =
    let P = g.P.StreamPort in
    let at : place_of c.args.self.now.spot ≡ Some c.in-Some.place = search rules in
    at_place P.branches (place_of c.args.self.now.spot) c.in-Some.place (P.kin c.args.port.now) (P.kin c.call.new.port) c.args.self.now.spot c.call.new.self.spot c.args.self.now.visits c.call.new.self.visits at
    (one_rests P.branches (P.kin c.args.port.now) (P.kin c.call.new.port) c.args.self.now.spot c.call.new.self.spot c.in-Some.place c.in-Some-take.entry (made.Answer c.in-Answer.field-0) c.args.self.now.visits c.call.new.self.visits
    c.in-Answer.ensures.splits c.in-Answer.ensures.spot c.in-Answer.ensures.makes)

pub returns-in-Answer-clause-adds : goal.returns-in-Answer-clause-adds
returns-in-Answer-clause-adds g c =
    let P = g.P.StreamPort in
    let M = g.met.P.StreamPort in
    let at : place_of c.args.self.now.spot ≡ Some c.in-Some.place = search rules in
    from_place P.adds M.adds_none M.adds_both (P.rules c.args.port.now).limits (P.root c.args.port.now) (P.root c.finish-in-Some-place.new.port) (known P.root P.seen c.args.port.now c.args.self.now) (known P.root P.seen c.finish-in-Some-place.new.port c.finish-in-Some-place.new.self) (place_of c.args.self.now.spot) c.in-Some.place c.args.self.now.visits c.finish-in-Some-place.new.self.visits at
    (as_more P.adds M.adds_none M.adds_both ((P.rules c.args.port.now).limits c.in-Some.place) (P.root c.args.port.now) (P.root c.call.new.port) (P.root c.finish-in-Some-place.new.port) (known P.root P.seen c.args.port.now c.args.self.now c.in-Some.place) (known P.root P.seen c.call.new.port c.call.new.self c.in-Some.place) (known P.root P.seen c.finish-in-Some-place.new.port c.finish-in-Some-place.new.self c.in-Some.place) c.in-Some.place c.in-Some-take.entry c.in-Answer.field-0 c.args.self.now.visits c.call.new.self.visits c.finish-in-Some-place.new.self.visits
    c.in-Answer.ensures.makes c.in-Answer.ensures.noted (c.finish-in-Some-place.ensures.knows.at_each c.in-Some.place) c.in-Answer.ensures.adds
    (subst (λ (x : PortRules). GrowsAs P.adds (x.limits c.in-Some.place) (P.root c.call.new.port) (known P.root P.seen c.call.new.port c.call.new.self c.in-Some.place) c.in-Some.place c.call.new.self.visits c.finish-in-Some-place.new.self.visits (P.root c.finish-in-Some-place.new.port) (known P.root P.seen c.finish-in-Some-place.new.port c.finish-in-Some-place.new.self c.in-Some.place)) c.call.ensures.fixed c.finish-in-Some-place.ensures.adds))

pub returns-in-Answer-clause-splits : goal.returns-in-Answer-clause-splits
returns-in-Answer-clause-splits g c =
    let P = g.P.StreamPort in
    let at : place_of c.args.self.now.spot ≡ Some c.in-Some.place = search rules in
    at_place P.branches (place_of c.args.self.now.spot) c.in-Some.place (P.kin c.args.port.now) (P.kin c.finish-in-Some-place.new.port) c.args.self.now.spot c.finish-in-Some-place.new.self.spot c.args.self.now.visits c.finish-in-Some-place.new.self.visits at
    (one_more P.branches (P.kin c.args.port.now) (P.kin c.call.new.port) (P.kin c.finish-in-Some-place.new.port) c.args.self.now.spot c.call.new.self.spot c.finish-in-Some-place.new.self.spot c.in-Some.place c.in-Some-place.field-0 c.in-Some-take.entry (made.Answer c.in-Answer.field-0)
    c.args.self.now.visits c.call.new.self.visits c.finish-in-Some-place.new.self.visits c.in-Answer.ensures.splits c.in-Answer.ensures.spot (search rules) c.in-Answer.ensures.makes c.finish-in-Some-place.ensures.splits)

pub returns-in-Busy-clause-adds : goal.returns-in-Busy-clause-adds
returns-in-Busy-clause-adds g c =
    let P = g.P.StreamPort in
    let M = g.met.P.StreamPort in
    let at : place_of c.args.self.now.spot ≡ Some c.in-Some.place = search rules in
    from_place P.adds M.adds_none M.adds_both (P.rules c.args.port.now).limits (P.root c.args.port.now) (P.root c.call.new.port) (known P.root P.seen c.args.port.now c.args.self.now) (known P.root P.seen c.call.new.port c.call.new.self) (place_of c.args.self.now.spot) c.in-Some.place c.args.self.now.visits c.call.new.self.visits at
    (as_made P.adds M.adds_none M.adds_both ((P.rules c.args.port.now).limits c.in-Some.place) (P.root c.args.port.now) (P.root c.call.new.port) (P.root c.call.new.port) (known P.root P.seen c.args.port.now c.args.self.now c.in-Some.place) (known P.root P.seen c.call.new.port c.call.new.self c.in-Some.place) (known P.root P.seen c.call.new.port c.call.new.self c.in-Some.place) c.in-Some.place c.in-Some-take.entry (made.Busy c.in-Busy.entry) c.args.self.now.visits c.call.new.self.visits
    c.in-Busy.ensures.makes c.in-Busy.ensures.noted (begins_same _ _ refl) c.in-Busy.ensures.adds (none_same P.adds M.adds_none M.adds_both (P.root c.call.new.port) (P.root c.call.new.port) (λ q. refl)))

pub returns-in-Busy-clause-splits : goal.returns-in-Busy-clause-splits
returns-in-Busy-clause-splits g c =
    let P = g.P.StreamPort in
    let at : place_of c.args.self.now.spot ≡ Some c.in-Some.place = search rules in
    at_place P.branches (place_of c.args.self.now.spot) c.in-Some.place (P.kin c.args.port.now) (P.kin c.call.new.port) c.args.self.now.spot c.call.new.self.spot c.args.self.now.visits c.call.new.self.visits at
    (one_rests P.branches (P.kin c.args.port.now) (P.kin c.call.new.port) c.args.self.now.spot c.call.new.self.spot c.in-Some.place c.in-Some-take.entry (made.Busy c.in-Busy.entry) c.args.self.now.visits c.call.new.self.visits
    c.in-Busy.ensures.splits c.in-Busy.ensures.spot c.in-Busy.ensures.makes)

pub returns-in-OutOfMemory-clause-adds : goal.returns-in-OutOfMemory-clause-adds
returns-in-OutOfMemory-clause-adds g c =
    let P = g.P.StreamPort in
    let M = g.met.P.StreamPort in
    let at : place_of c.args.self.now.spot ≡ Some c.in-Some.place = search rules in
    from_place P.adds M.adds_none M.adds_both (P.rules c.args.port.now).limits (P.root c.args.port.now) (P.root c.call.new.port) (known P.root P.seen c.args.port.now c.args.self.now) (known P.root P.seen c.call.new.port c.call.new.self) (place_of c.args.self.now.spot) c.in-Some.place c.args.self.now.visits c.call.new.self.visits at
    (as_made P.adds M.adds_none M.adds_both ((P.rules c.args.port.now).limits c.in-Some.place) (P.root c.args.port.now) (P.root c.call.new.port) (P.root c.call.new.port) (known P.root P.seen c.args.port.now c.args.self.now c.in-Some.place) (known P.root P.seen c.call.new.port c.call.new.self c.in-Some.place) (known P.root P.seen c.call.new.port c.call.new.self c.in-Some.place) c.in-Some.place c.in-Some-take.entry (made.OutOfMemory c.in-OutOfMemory.entry) c.args.self.now.visits c.call.new.self.visits
    c.in-OutOfMemory.ensures.makes c.in-OutOfMemory.ensures.noted (begins_same _ _ refl) c.in-OutOfMemory.ensures.adds (none_same P.adds M.adds_none M.adds_both (P.root c.call.new.port) (P.root c.call.new.port) (λ q. refl)))

pub returns-in-OutOfMemory-clause-splits : goal.returns-in-OutOfMemory-clause-splits
returns-in-OutOfMemory-clause-splits g c =
    let P = g.P.StreamPort in
    let at : place_of c.args.self.now.spot ≡ Some c.in-Some.place = search rules in
    at_place P.branches (place_of c.args.self.now.spot) c.in-Some.place (P.kin c.args.port.now) (P.kin c.call.new.port) c.args.self.now.spot c.call.new.self.spot c.args.self.now.visits c.call.new.self.visits at
    (one_rests P.branches (P.kin c.args.port.now) (P.kin c.call.new.port) c.args.self.now.spot c.call.new.self.spot c.in-Some.place c.in-Some-take.entry (made.OutOfMemory c.in-OutOfMemory.entry) c.args.self.now.visits c.call.new.self.visits
    c.in-OutOfMemory.ensures.splits c.in-OutOfMemory.ensures.spot c.in-OutOfMemory.ensures.makes)

pub returns-clause-adds : goal.returns-clause-adds
returns-clause-adds g c =
    let P = g.P.StreamPort in
    let M = g.met.P.StreamPort in
    let at : place_of c.args.self.now.spot ≡ Some c.in-Some.place = search rules in
    from_place P.adds M.adds_none M.adds_both (P.rules c.args.port.now).limits (P.root c.args.port.now) (P.root c.rise.new.port) (known P.root P.seen c.args.port.now c.args.self.now) (known P.root P.seen c.rise.new.port c.rise.new.self) (place_of c.args.self.now.spot) c.in-Some.place c.args.self.now.visits c.rise.new.self.visits at
    (as_made P.adds M.adds_none M.adds_both ((P.rules c.args.port.now).limits c.in-Some.place) (P.root c.args.port.now) (P.root c.call.new.port) (P.root c.rise.new.port) (known P.root P.seen c.args.port.now c.args.self.now c.in-Some.place) (known P.root P.seen c.call.new.port c.call.new.self c.in-Some.place) (known P.root P.seen c.rise.new.port c.rise.new.self c.in-Some.place) c.in-Some.place c.in-Some-take.entry (made.Worn c.in-Worn.entry) c.args.self.now.visits c.rise.new.self.visits
    (c.in-Worn.ensures.makes.0, c.rise.ensures.visits ∙ c.in-Worn.ensures.makes.1) c.in-Worn.ensures.noted (c.rise.ensures.knows.at_each c.in-Some.place) c.in-Worn.ensures.adds c.rise.ensures.adds)

pub returns-clause-splits : goal.returns-clause-splits
returns-clause-splits g c =
    let P = g.P.StreamPort in
    let at : place_of c.args.self.now.spot ≡ Some c.in-Some.place = search rules in
    at_place P.branches (place_of c.args.self.now.spot) c.in-Some.place (P.kin c.args.port.now) (P.kin c.rise.new.port) c.args.self.now.spot c.rise.new.self.spot c.args.self.now.visits c.rise.new.self.visits at
    (one_gives P.branches (P.kin c.args.port.now) (P.kin c.call.new.port) (P.kin c.rise.new.port) c.args.self.now.spot c.call.new.self.spot c.rise.new.self.spot c.in-Some.place c.in-Some-take.entry (made.Worn c.in-Worn.entry) c.args.self.now.visits c.rise.new.self.visits
    c.in-Worn.ensures.splits c.in-Worn.ensures.spot c.rise.ensures.gives c.rise.ensures.spot (c.in-Worn.ensures.makes.0, c.rise.ensures.visits ∙ c.in-Worn.ensures.makes.1))

pub returns-in_default-clause-adds : goal.returns-in_default-clause-adds
returns-in_default-clause-adds g c =
    let P = g.P.StreamPort in
    let M = g.met.P.StreamPort in
    let at : place_of c.args.self.now.spot ≡ None = search rules in
    from_nowhere P.adds M.adds_none M.adds_both (P.rules c.args.port.now).limits (P.root c.args.port.now) (P.root c.args.port.now) (known P.root P.seen c.args.port.now c.args.self.now) (known P.root P.seen c.args.port.now c.args.self.now) (place_of c.args.self.now.spot) c.args.self.now.visits c.args.self.now.visits at
    refl (none_same P.adds M.adds_none M.adds_both (P.root c.args.port.now) (P.root c.args.port.now) (λ q. refl))

pub returns-in_default-clause-splits : goal.returns-in_default-clause-splits
returns-in_default-clause-splits g c =
    let P = g.P.StreamPort in
    let at : place_of c.args.self.now.spot ≡ None = search rules in
    subst (λ (o : Option ℕ). LeavesSplit o P.branches (P.kin c.args.port.now) c.args.self.now.spot c.args.self.now.visits c.args.self.now.visits (P.kin c.args.port.now) c.args.self.now.spot) (sym at) refl
