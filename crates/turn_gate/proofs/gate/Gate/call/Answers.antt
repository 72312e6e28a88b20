use Rattle.std.proofs.Common.{rules, ap, sym, ◌≡◌, ◌∙◌, ◌<◌, List, length, Some, subst}
use Rattle.turn_gate.specs.InSlot.{InSlot}
use Rattle.turn_gate.specs.declared.view.Branch.{Branch}
use Rattle.turn_gate.specs.TurnTable.{about_of}
use Rattle.turn_gate.specs.Serving.{Served}
use Rattle.turn_gate.proofs.Answering.{has, serving, keeps_pass, replies}
use Rattle.turn_gate.proofs.Turning.{seizes}
use Rattle.turn_gate.proofs.gate.Gate.call.Goals as goal

pub swap-requires : goal.swap-requires
swap-requires g c = (search rules, search rules, seizes (InSlot g.T.Machine.stands g.T.Machine.about) _ _ _ _ (search rules) (search rules) (search rules))

pub serve-requires-clause-turn : goal.serve-requires-clause-turn
serve-requires-clause-turn g c = let t = c.swap.ensures.2.0 (search rules) in serving (InSlot g.T.Machine.stands g.T.Machine.about) c.self.inside.turns.shared.key c.pass.inside.seat.me c.swap.new.seat.me t (search rules)

pub invariant_of-pass-2 : goal.invariant_of-pass-2
invariant_of-pass-2 g c =
    let t = c.swap.ensures.2.0 (search rules) in let v = c.pass.inside.seat.me.0 in let n = c.swap.new.seat.me in let f = c.serve.new.seat.me in
    let key = c.self.inside.turns.shared.key in
    let of_key : v.of ≡ Some key = search rules in
    let k = keeps_pass (g.T.Machine.lawful key) key c.args.call v n f t.history v.kin c.serve.new.seen c.serve.result (has v n.0 t.history t.view_is) of_key c.pass.invariant.5 t.begins c.serve.ensures.served in
    let same : about_of g.T.Machine.any f.0.of ≡ key = ap (λ o. about_of g.T.Machine.any o) k.3 in
    (k.0, k.1, subst (λ (l : List Branch). 0 < length l) (sym k.2) c.pass.invariant.2, k.3 ∙ ap (λ x. Some x) (sym same), k.4, k.5, subst (λ a. g.T.Machine.lawful a f.0.seen) (sym same) k.6)

pub returns-clause-reply : goal.returns-clause-reply
returns-clause-reply g c =
    let t = c.swap.ensures.2.0 (search rules) in let v = c.pass.inside.seat.me.0 in let n = c.swap.new.seat.me in let f = c.serve.new.seat.me in
    let about : c.self.inside.turns.shared.key ≡ c.args.self.now.about = search rules in
    let of_same : f.0.of ≡ v.of = search rules in
    let table : c.serve.new.seat.table_id ≡ c.pass.inside.seat.table_id = search rules in
    rw (← c.pass.view_is) (replies (g.T.Machine.lawful c.args.self.now.about) c.args.self.now.about c.args.call v n f t.history v.kin c.serve.new.seen c.serve.result c.pass.inside.seat.table_id c.serve.new.seat.table_id (about_of g.T.Machine.any v.of) (about_of g.T.Machine.any f.0.of) table (ap (λ o. about_of g.T.Machine.any o) of_same) (has v n.0 t.history t.view_is) c.pass.invariant.5 t.begins
    (subst (λ a. Served (g.T.Machine.lawful a) n c.args.call c.serve.result c.serve.new.seen f) about c.serve.ensures.served))
