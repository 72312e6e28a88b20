-- The places of the calls rise, and each Take was made where a play was granted
use Rattle.std.proofs.Common.{◌≡◌, ℕ, ◌+◌, ◌-◌, ◌<◌, ◌≤◌, true, false, List, [], ◌∷◌, ◌++◌, refl, sym, ap, ◌∙◌, subst, arith}
use Rattle.std.proofs.lemmas.Bool.{lt-leb}
use Rattle.stream_model.specs.declared.calls.Call.{Call}
use Rattle.session_owed.specs.Dialogue.{Dialogue}
use Rattle.session_owed.specs.Talk.{Own, hand_bytes, is_take, state_at}
use Rattle.session_owed.specs.Talks.{Rise}
use Rattle.session_owed.proofs.Counting.{state_more}

-- a state that holds from later on
state_before : {S : Type 0} (n o : ℕ) (s t : S) (es : List (ℕ × S)) → n < o → state_at n s (es ++ (o, t) ∷ []) ≡ state_at n s es
state_before n o s t es h = state_more n s es (o, t) ∙ rw (lt-leb o n h) refl

-- a call that is no Take
pub act_plays : {P : Type 0} (c : Call) → is_take c ≡ false → is_take c ≡ true → P
act_plays c e t = absurd (let h : true ≡ false = sym t ∙ e in cc)

module _ {S : Type 0} (d : Dialogue S) where
  pub rise_within : (states : List (ℕ × S)) (from to : ℕ) (C : List Own) → Rise d states from to C → from ≤ to
  rise_within states from to [] r = r
  rise_within states from to (c ∷ C) r = omega (arith, r.0, rise_within states c.0.at to C r.2)

  pub rise_wide : (states : List (ℕ × S)) (from to later : ℕ) (C : List Own) → to ≤ later → Rise d states from to C → Rise d states from later C
  rise_wide states from to later [] le r = omega (arith, r, le)
  rise_wide states from to later (c ∷ C) le r = (r.0, r.1, rise_wide states c.0.at to later C le r.2)

  pub rise_push : (states : List (ℕ × S)) (from to : ℕ) (C : List Own) (c : Own) → Rise d states from to C → c.0.at ≡ to → (is_take c.0.call ≡ true → d.plays (state_at (c.0.at - hand_bytes) d.start states) ≡ true)
      → Rise d states from to (C ++ c ∷ [])
  rise_push states from to [] c r a p = (omega (arith, r, a), p, omega (arith, a))
  rise_push states from to (b ∷ C) c r a p = (r.0, r.1, rise_push states b.0.at to C c r.2 a p)

  -- a state more that holds from behind them on
  more_by : (states : List (ℕ × S)) (o : ℕ) (t : S) (from to : ℕ) (C : List Own) → hand_bytes ≤ from → to < hand_bytes + o → Rise d states from to C → Rise d (states ++ (o, t) ∷ []) from to C
  more_by states o t from to [] late lt r = r
  more_by states o t from to (c ∷ C) late lt r =
      let here : hand_bytes ≤ c.0.at = omega (arith, late, r.0) in
      let at : c.0.at - hand_bytes < o = omega (arith, rise_within states c.0.at to C r.2, lt, here) in
      (r.0, λ k. (ap d.plays (state_before (c.0.at - hand_bytes) o d.start t states at) ∙ r.1 k), more_by states o t c.0.at to C here lt r.2)

  pub rise_more : (states : List (ℕ × S)) (o : ℕ) (t : S) (to : ℕ) (C : List Own) → to < hand_bytes + o → Rise d states hand_bytes to C → Rise d (states ++ (o, t) ∷ []) hand_bytes to C
  rise_more states o t to C lt r = more_by states o t hand_bytes to C (omega arith) lt r

  -- the same of states that are equal
  pub rise_in : (C : List Own) (to : ℕ) (old new : List (ℕ × S)) → old ≡ new → Rise d old hand_bytes to C → Rise d new hand_bytes to C
  rise_in C to old new e r = subst (λ (l : List (ℕ × S)). Rise d l hand_bytes to C) e r
