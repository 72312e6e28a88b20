-- What a line does to the stream or the pool of a drill.
use Rattle.std.proofs.Common.{◌≡◌, ◌⊎◌, inl, inr, ℕ, ◌+◌, Bool, true, false, if◌then◌else◌, List, [], ◌∷◌, Option, None, Some, refl, sym, subst}
use Rattle.stream_model.specs.declared.calls.StreamLimits.{StreamLimits}
use Rattle.stream_model.specs.declared.calls.Entry.{Entry}
use Rattle.stream_model.specs.History.{History}
use Rattle.stream_model.specs.Shape.{TableKnown, shape_reply, table_answered, IsShapeLawful, IsLegalAt, IsLawfulBy, reply_by}
use Rattle.relay_script.specs.declared.line.DrillLine.{DrillLine}
use Rattle.relay_script.specs.declared.line.DrillLine.TheVariants.{Nothing, Ring, Pool, Step, Held}
use Rattle.relay_script.specs.Script.{Line, lines, line_says}
use Rattle.relay_script.specs.Lines.{meaning}
use Rattle.relay_program.specs.Drill.{State, Done, does, after_line, ring_from, pool_from, replied, table_of, may_call, fresh}
use Rattle.relay_program.specs.Drill.{state_from, state_then, outside_from, outside_then, outside_line, DrillKept}

-- it stays, or it has had no call yet, or it has had one more
abbrev Moves : TableKnown → TableKnown → Type 0
Moves k new = (new ≡ k) ⊎ ((new.past ≡ []) ⊎ ((entry : Entry) × (new ≡ table_answered k entry (shape_reply k.shape k.past entry))))

same : {d e : Done} → Some d ≡ Some e → d ≡ e
same e = cc

none_some : {A B : Type 0} (d : A) → None ≡ Some d → B
none_some d e = absurd (cc)

moved : (k : TableKnown) (d e : Done) → Some d ≡ Some e → Moves k (table_of d.state) → Moves k (table_of e.state)
moved k d e i m = subst (λ (x : Done). Moves k (table_of x.state)) (same i) m

ring_moves : (limits : StreamLimits) (k : TableKnown) (said : Option StreamLimits) (table : Option TableKnown) (d : Done) → ring_from limits said table ≡ Some d
    → Moves k (table_of d.state)
ring_moves limits k None None d e = moved k _ d e (inr (inl refl))
ring_moves limits k None (Some t) d e = none_some d e
ring_moves limits k (Some said) table d e = none_some d e

pool_moves : (slots : ℕ) (s : State) (k : TableKnown) (table : Option TableKnown) (d : Done) → pool_from slots s table ≡ Some d → Moves k (table_of d.state)
pool_moves slots s k None d e = moved k _ d e (inr (inl refl))
pool_moves slots s k (Some t) d e = none_some d e

call_moves : (b : Bool) (s : State) (entry : Entry) (d : Done)
    → (if b then Some (replied s entry (shape_reply (table_of s).shape (table_of s).past entry)) else None) ≡ Some d → Moves (table_of s) (table_of d.state)
call_moves true s entry d e = moved (table_of s) (replied s entry (shape_reply (table_of s).shape (table_of s).past entry)) d e (inr (inr (entry, refl)))
call_moves false s entry d e = none_some d e

line_moves : (line : DrillLine) (s : State) (d : Done) → does line s ≡ Some d → Moves (table_of s) (table_of d.state)
line_moves Nothing s d e = moved (table_of s) _ d e (inl refl)
line_moves (Ring limits) s d e = ring_moves limits (table_of s) s.limits s.table d e
line_moves (Pool slots) s d e = pool_moves slots s (table_of s) s.table d e
line_moves (Step entry) s d e = call_moves (may_call s entry.call) s entry d e
line_moves Held s d e = moved (table_of s) _ d e (inl refl)

after_moves : (line : Option DrillLine) (s : State) (d : Done) → after_line line s ≡ Some d → Moves (table_of s) (table_of d.state)
after_moves None s d e = none_some d e
after_moves (Some line) s d e = line_moves line s d e

-- ---- each was answered by the rules

abbrev Lawful : TableKnown → Type 0
Lawful k = IsShapeLawful k.shape k.past

no_call : (limits : StreamLimits) (slots : Option ℕ) (past : History) → past ≡ [] → IsLawfulBy limits slots past
no_call limits None past e = rw e tt
no_call limits (Some n) past e = rw e tt

one_more : (limits : StreamLimits) (slots : Option ℕ) (past : History) (entry : Entry) → IsLawfulBy limits slots past
    → IsLawfulBy limits slots ((entry, reply_by limits slots past entry) ∷ past)
one_more limits None past entry h = (refl, h)
one_more limits (Some n) past entry h = (refl, h)

lawful_moves : (k new : TableKnown) → Moves k new → Lawful k → Lawful new
lawful_moves k new (inl e) h = subst Lawful (sym e) h
lawful_moves k new (inr (inl e)) h = no_call new.shape.limits new.shape.slots new.past e
lawful_moves k new (inr (inr (entry, e))) h = subst Lawful (sym e) (one_more k.shape.limits k.shape.slots k.past entry h)

-- ---- all lines

lines_kept : (ls : List Line) (s t : State) → state_from ls s ≡ Some t → Lawful (table_of s) → Lawful (table_of t)
lines_kept [] s t e h = let same : s ≡ t = cc in subst (λ (x : State). Lawful (table_of x)) same h
lines_kept (line ∷ ls) s t e h =
    (elim (after_line (line_says meaning line) s) as (λ m. ((d : Done) → m ≡ Some d → Lawful (table_of d.state)) → state_then m (λ x. state_from ls x) ≡ Some t
    → Lawful (table_of t)) [
      | None ↦ λ keeps i. none_some t i
      | Some d ↦ λ keeps i. lines_kept ls d.state t i (keeps d refl)
    ]) (λ d i. lawful_moves (table_of s) (table_of d.state) (after_moves (line_says meaning line) s d i) h) e

lines_made : (n : ℕ) (ls : List Line) (s : State) → outside_from n ls s ≡ None → (t : State) × (state_from ls s ≡ Some t)
lines_made n [] s e = (s, refl)
lines_made n (line ∷ ls) s e =
    (elim (after_line (line_says meaning line) s) as (λ m. outside_then n m (λ x. outside_from (n + 1) ls x) ≡ None
    → (t : State) × (state_then m (λ x. state_from ls x) ≡ Some t)) [
      | None ↦ λ i. none_some n (sym i)
      | Some d ↦ λ i. lines_made (n + 1) ls d.state i
    ]) e

pub drill_kept : ((k : TableKnown) → Lawful k → (slot player : ℕ) → IsLegalAt k.shape k.past slot player) → (script : List ℕ) → outside_line script ≡ None
    → DrillKept script
drill_kept viewers script e =
    let made = lines_made 1 (lines script) fresh e in
    let rules = lines_kept (lines script) fresh made.0 made.1 tt in
    record { state = made.0; made = made.1; rules = rules; viewers = viewers (table_of made.0) rules }
