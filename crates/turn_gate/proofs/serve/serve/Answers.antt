use Rattle.std.proofs.Common.{rules, arith, ◌≡◌, ◌≢◌, ◌<◌, ◌^◌, ◌+◌, ℕ, List, ◌∷◌, [], ◌++◌, length, get_or, Option, Some, ap, sym, ◌∙◌, subst, length-append}
use Rattle.atomic_table.specs.Table.{rest}
use Rattle.turn_gate.specs.declared.view.Counted.{Counted}
use Rattle.turn_gate.specs.InSlot.{InSlot}
use Rattle.turn_gate.proofs.serve.serve.Goals as goal

pub slot_mut-requires : goal.slot_mut-requires
slot_mut-requires g c = let t = c.requires.turn in (c.requires.table.1, (Some t.value, t.slot ∙ ap (λ l. (0, Some t.value) ∷ rest l) (sym t.slot)))

pub free-requires-clause-turn : goal.free-requires-clause-turn
free-requires-clause-turn g c =
    let t = c.requires.turn in
    let held : Some t.value ≡ c.slot_mut.result.now = ap (λ (l : List (ℕ × Option (Counted g.row.T.Denot))). (get_or l 0 (0, Some t.value)).1) (sym t.slot ∙ c.slot_mut.ensures.value) in
    let same : t.value ≡ c.unwrap-kept.result.now = search rules in
    record {
      holds = t.holds;
      of_is = t.of_is;
      value = c.unwrap-kept.result.now;
      slot = ap (λ l. (0, Some c.unwrap-kept.result.now) ∷ rest l) t.slot;
      fits = subst (λ x. InSlot g.T.Machine.stands g.T.Machine.about c.args.turns.now.key x c.args.seat.now.me.0.whole) same t.fits;
    }

pub free_after-requires-clause-turn : goal.free_after-requires-clause-turn
free_after-requires-clause-turn g c =
    let t = c.requires.turn in let k = c.unwrap-kept.result.now in let whole = c.args.seat.now.me.0.whole in
    let e : g.row.T-Call.Denot × g.row.T-Reply.Denot = (c.of-asked.result.value, c.apply-reply.result) in
    let held : Some t.value ≡ c.slot_mut.result.now = ap (λ (l : List (ℕ × Option (Counted g.row.T.Denot))). (get_or l 0 (0, Some t.value)).1) (sym t.slot ∙ c.slot_mut.ensures.value) in
    let same : t.value ≡ k = search rules in
    let fits : InSlot g.T.Machine.stands g.T.Machine.about c.args.turns.now.key k whole = subst (λ x. InSlot g.T.Machine.stands g.T.Machine.about c.args.turns.now.key x whole) same t.fits in
    let short : length whole < 2 ^ 62 = (let counted = fits.counted in let bounded = fits.bounded in let full : k.calls ≢ 2 ^ 62 = search rules in omega arith) in
    let asked : c.of-asked.result.value ≡ c.args.call = search rules in
    record {
      holds = t.holds;
      of_is = t.of_is;
      value = record { machine = c.apply-reply.new.self; calls = k.calls + 1 };
      slot = ap (λ l. (0, Some record { machine = c.apply-reply.new.self; calls = k.calls + 1 }) ∷ rest l) t.slot;
      fits = record {
        about_is = c.apply-reply.ensures.about ∙ fits.about_is;
        stood = subst (λ x. g.T.Machine.stands c.apply-reply.new.self (whole ++ (x, c.apply-reply.result) ∷ [])) (sym asked) (c.apply-reply.ensures.history whole fits.stood short);
        counted = ap (λ n. n + 1) fits.counted ∙ sym (length-append whole (e ∷ []));
        bounded = let long = length-append whole (e ∷ []) in omega arith;
      };
    }
