use Rattle.std.proofs.Common.{rules, ◌≡◌, ◌∷◌, ◌++◌, List, [], Option, Some, Ok, Err, refl, ◌∙◌, subst}
use Rattle.media_recorder.specs.Ports.{FitsIf, seen_of, mine_of}
use Rattle.stream_registry.specs.Told.{Step}
use Rattle.media_recorder.specs.Alone.{Enters, Reaches}
use Rattle.media_recorder.specs.Seats.{SeatState, entry_of}
use Rattle.media_recorder.proofs.Alone.{asks_alone, reaches}
use Rattle.media_recorder.proofs.Standing.{seat_made, seat_unmade}
use Rattle.media_recorder.proofs.seat.Seat.call.Goals as goal

pub invariant_of-self : goal.invariant_of-self
invariant_of-self g c =
    let P = g.P.StreamPort in
    let i = c.self.inside in
    let calls : c.add-in-Ok.new.self ≡ i.calls ++ (entry_of i.who c.args.call, c.in-Ok.reply) ∷ [] = search rules in
    let fits : FitsIf (P.fits c.args.port.now i.place) i.pass = search rules in
    let e = c.in-Ok.ensures in
    let n = c.entered-pass.ensures in
    let seen : P.seen c.entered-pass.result ≡ seen_of P.seen (P.root c.args.port.now i.place) i.pass =
    subst (λ (o : Option _). P.seen c.entered-pass.result ≡ seen_of P.seen (P.root c.args.port.now i.place) o) c.take.ensures.value n.seen in
    let mine : P.mine c.entered-pass.result ≡ mine_of P.mine i.pass = subst (λ (o : Option _). P.mine c.entered-pass.result ≡ mine_of P.mine o) c.take.ensures.value n.mine in
    seat_made P.limits P.seen P.mine (P.fits c.args.port.now i.place) ((P.rules c.args.port.now).limits i.place) (λ p f. g.met.P.StreamPort.ruled c.args.port.now i.place p f)
    i.who (P.root c.args.port.now i.place) _ i.pass i.calls c.add-in-Ok.new.self (entry_of i.who c.args.call, c.in-Ok.reply) (P.limits c.entered-pass.result) (P.limits c.call.new.pass)
    (P.seen c.entered-pass.result) (P.seen c.call.new.pass) (P.mine c.entered-pass.result) (P.mine c.call.new.pass)
    fits c.self.invariant n.fits.1 e.pass.1 seen mine refl calls e.reply e.laws

pub invariant_of-self-in-Err : goal.invariant_of-self-in-Err
invariant_of-self-in-Err g c =
    let P = g.P.StreamPort in
    let i = c.self.inside in
    let fits : FitsIf (P.fits c.args.port.now i.place) i.pass = search rules in
    let e = c.in-Err.ensures in
    let n = c.entered-pass.ensures in
    let seen : P.seen c.entered-pass.result ≡ seen_of P.seen (P.root c.args.port.now i.place) i.pass =
    subst (λ (o : Option _). P.seen c.entered-pass.result ≡ seen_of P.seen (P.root c.args.port.now i.place) o) c.take.ensures.value n.seen in
    let mine : P.mine c.entered-pass.result ≡ mine_of P.mine i.pass = subst (λ (o : Option _). P.mine c.entered-pass.result ≡ mine_of P.mine o) c.take.ensures.value n.mine in
    seat_unmade P.limits P.seen P.mine (P.fits c.args.port.now i.place) ((P.rules c.args.port.now).limits i.place) (λ p f. g.met.P.StreamPort.ruled c.args.port.now i.place p f)
    i.who (P.root c.args.port.now i.place) i.pass i.calls (P.limits c.entered-pass.result) (P.limits c.call.new.pass)
    (P.seen c.entered-pass.result) (P.seen c.call.new.pass) (P.mine c.entered-pass.result) (P.mine c.call.new.pass)
    fits c.self.invariant n.fits.1 e.pass.1 seen mine e.pass.2 e.unmade.0

pub returns-in-Ok-clause-alone : goal.returns-in-Ok-clause-alone
returns-in-Ok-clause-alone g c =
    let P = g.P.StreamPort in
    let i = c.self.inside in
    let n = c.entered-pass in
    let calls : c.add-in-Ok.new.self ≡ i.calls ++ (entry_of i.who c.args.call, c.in-Ok.reply) ∷ [] = search rules in
    let enters : Enters P.branches (P.kin c.args.port.now) i.place i.pass (P.branches n.result) (P.kin n.new.port) =
    subst (λ (o : Option _). Enters P.branches (P.kin c.args.port.now) i.place o (P.branches n.result) (P.kin n.new.port)) c.take.ensures.value n.ensures.splits in
    let old : SeatState g.row.P-Pass.Denot = record { who = i.who; place = i.place; pass = i.pass; calls = i.calls } in
    let new : SeatState g.row.P-Pass.Denot = record { who = i.who; place = i.place; pass = Some c.call.new.pass; calls = c.add-in-Ok.new.self } in
    let root : P.root n.new.port i.place ≡ P.root c.args.port.now i.place = n.ensures.roots i.place in
    let laws : Reaches ((P.rules c.args.port.now).limits i.place) (P.root c.args.port.now i.place) (P.seen c.call.new.pass) =
    subst (λ (h : List Step). Reaches ((P.rules c.args.port.now).limits i.place) h (P.seen c.call.new.pass)) root
    (reaches ((P.rules c.args.port.now).limits i.place) (P.limits n.result) (P.limits c.call.new.pass) (P.root n.new.port i.place) (P.seen n.result) (P.mine n.result) (entry_of i.who c.args.call, c.in-Ok.reply) (P.seen c.call.new.pass)
    (P.mine c.call.new.pass) (c.in-Ok.ensures.pass.1 ∙ n.ensures.fits.1) c.in-Ok.ensures.reply c.in-Ok.ensures.laws) in
    rw (← c.self.view_is) (asks_alone P.rules P.adds P.root P.seen P.kin P.branches c.args.port.now n.new.port c.call.new.self old c.args.call (Ok c.in-Ok.reply) new (P.branches n.result)
    calls laws n.ensures.roots c.in-Ok.ensures.adds enters c.in-Ok.ensures.split)

pub returns-in-Err-clause-alone : goal.returns-in-Err-clause-alone
returns-in-Err-clause-alone g c =
    let P = g.P.StreamPort in
    let i = c.self.inside in
    let n = c.entered-pass in
    let enters : Enters P.branches (P.kin c.args.port.now) i.place i.pass (P.branches n.result) (P.kin n.new.port) =
    subst (λ (o : Option _). Enters P.branches (P.kin c.args.port.now) i.place o (P.branches n.result) (P.kin n.new.port)) c.take.ensures.value n.ensures.splits in
    let old : SeatState g.row.P-Pass.Denot = record { who = i.who; place = i.place; pass = i.pass; calls = i.calls } in
    let new : SeatState g.row.P-Pass.Denot = record { who = i.who; place = i.place; pass = Some c.call.new.pass; calls = i.calls } in
    rw (← c.self.view_is) (asks_alone P.rules P.adds P.root P.seen P.kin P.branches c.args.port.now n.new.port c.call.new.self old c.args.call (Err c.in-Err.fail) new (P.branches n.result)
    refl tt n.ensures.roots c.in-Err.ensures.adds enters c.in-Err.ensures.split)
