-- The calls of an edge, as what it is told grows and as they are made
use Rattle.std.proofs.Common.{◌≡◌, ℕ, Bool, false, List, [], ◌∷◌, ◌++◌, Option, Some, None, refl, sym, ap, ◌∙◌, append-nil, append_assoc}
use Rattle.stream_model.specs.declared.calls.Call.{Call}
use Rattle.stream_model.specs.declared.calls.Entry.{Entry}
use Rattle.stream_model.specs.declared.replies.Reply.{Reply}
use Rattle.session_owed.specs.Talk.{Own}
use Rattle.client_owed.specs.declared.types.Gift.{Gift}
use Rattle.origin_calls.specs.Calls.{calls_for, edge_calls, entries, entry_of, live_after, live_by}
use Rattle.origin_pull.specs.Keeping.{Begun, Owes, calls_due, listed, made, waiting}
use Rattle.origin_pull.specs.Turns.{IsAnswered, IsDue, IsKept}
use Rattle.origin_pull.specs.declared.core_fields.Core.{Core}
use Rattle.origin_pull.specs.declared.due.Due.{Due}
use Rattle.origin_pull.specs.declared.due.Due.TheVariants.{Nothing, One, Two}

-- ---- lists

made_add : (C : List Own) (o : Own) → made (C ++ o ∷ []) ≡ made C ++ o.0 ∷ []
made_add [] o = refl
made_add (c ∷ C) o = ap (λ (l : List Entry). c.0 ∷ l) (made_add C o)

entries_join : (who : ℕ) (a b : List Call) → entries who (a ++ b) ≡ entries who a ++ entries who b
entries_join who [] b = refl
entries_join who (c ∷ a) b = ap (λ (l : List Entry). entry_of who c ∷ l) (entries_join who a b)

-- ---- one thing more is told

calls_more : (live : Bool) (gs : List Gift) (g : Gift) → edge_calls live (gs ++ g ∷ []) ≡ edge_calls live gs ++ calls_for (live_after live gs) g
unfolding edge_calls live_after
calls_more live [] g = append-nil (calls_for live g)
calls_more live (x ∷ gs) g =
    ap (λ (l : List Call). calls_for live x ++ l) (calls_more (live_by live x) gs g)
    ∙ sym (append_assoc (calls_for live x) (edge_calls (live_by live x) gs) (calls_for (live_after (live_by live x) gs) g))

live_more : (live : Bool) (gs : List Gift) (g : Gift) → live_after live (gs ++ g ∷ []) ≡ live_by (live_after live gs) g
unfolding live_after
live_more live [] g = refl
live_more live (x ∷ gs) g = live_more (live_by live x) gs g

entries_more : (who : ℕ) (gs : List Gift) (g : Gift) → entries who (edge_calls false (gs ++ g ∷ []))
    ≡ entries who (edge_calls false gs) ++ entries who (calls_for (live_after false gs) g)
entries_more who gs g = ap (entries who) (calls_more false gs g) ∙ entries_join who (edge_calls false gs) (calls_for (live_after false gs) g)

-- ---- nothing waits

no_entry : (o : Option Entry) (l : List Entry) → listed o ++ l ≡ [] → (o ≡ None) × (l ≡ [])
no_entry None l e = (refl, e)
no_entry (Some x) l e = absurd (cc)

no_due : (who : ℕ) (d : Due) → entries who (calls_due d) ≡ [] → d ≡ Nothing
no_due who Nothing e = refl
no_due who (One c) e = absurd (cc)
no_due who (Two c d) e = absurd (cc)

pub record IsFree (c : Core) : Type 0 where
  pub kept : c.kept ≡ None
  pub due : c.due ≡ Nothing

pub nothing_waits : (c : Core) → waiting c ≡ [] → IsFree c
nothing_waits c e = let p = no_entry c.kept (entries c.who (calls_due c.due)) e in record { kept = p.0; due = no_due c.who c.due p.1 }

pub free_waits : (c : Core) → IsFree c → waiting c ≡ []
free_waits c f = ap (λ (o : Option Entry). listed o ++ entries c.who (calls_due c.due)) f.kept ∙ ap (λ (d : Due). entries c.who (calls_due d)) f.due

-- ---- what was made and what waits

-- all that was to be called was called
pub all_made : (c : Core) (gs : List Gift) → IsFree c → Owes c (waiting c) gs → made c.calls ≡ entries c.who (edge_calls false gs)
all_made c gs f o = sym (append-nil (made c.calls)) ∙ ap (λ (l : List Entry). made c.calls ++ l) (sym (free_waits c f)) ∙ o.calls

pub owes_begun : (c : Core) (ws : List Entry) (gs : List Gift) → Owes c ws gs → Begun c gs
owes_begun c ws gs o = (ws, o.calls)

pub owes_answered : (c d : Core) (e : Entry) (rest : List Entry) (r : Reply) (gs : List Gift) → IsAnswered c e rest r d → Owes c (e ∷ rest) gs
    → Owes d (waiting d) gs
owes_answered c d e rest r gs i o =
    let calls : d.calls ≡ c.calls ++ (e, r) ∷ [] = ap (λ (x : Core). x.calls) i.parts in
    let more : made d.calls ≡ made c.calls ++ e ∷ [] = ap made calls ∙ made_add c.calls (e, r) in
    record {
      live = ap (λ (x : Core). x.live) i.parts ∙ o.live;
      calls = ap (λ (l : List Entry). l ++ waiting d) more ∙ ap (λ (l : List Entry). (made c.calls ++ e ∷ []) ++ l) i.left
          ∙ append_assoc (made c.calls) (e ∷ []) rest ∙ o.calls ∙ sym (ap (λ (x : Core). entries x.who (edge_calls false gs)) i.parts);
    }

pub owes_kept : (c d : Core) (e : Entry) (rest : List Entry) (gs : List Gift) → IsKept c e rest d → Owes c (e ∷ rest) gs → Owes d (waiting d) gs
owes_kept c d e rest gs i o = record {
  live = ap (λ (x : Core). x.live) i.parts ∙ o.live;
  calls = ap (λ (x : Core). made x.calls ++ waiting d) i.parts ∙ ap (λ (l : List Entry). made c.calls ++ l) i.left ∙ o.calls
      ∙ sym (ap (λ (x : Core). entries x.who (edge_calls false gs)) i.parts);
}

pub due_waits : (c d : Core) (g : Gift) → IsFree c → IsDue c g d → waiting d ≡ entries c.who (calls_for c.live g)
due_waits c d g f i =
    ap (λ (x : Core). listed x.kept ++ entries x.who (calls_due d.due)) i.parts ∙ ap (λ (o : Option Entry). listed o ++ entries c.who (calls_due d.due)) f.kept
    ∙ ap (entries c.who) i.calls

pub owes_due : (c d : Core) (g : Gift) (gs : List Gift) → IsFree c → IsDue c g d → Owes c (waiting c) gs → Owes d (waiting d) (gs ++ g ∷ [])
owes_due c d g gs f i o = record {
  live = ap (λ (x : Core). x.live) i.parts ∙ ap (λ (b : Bool). live_by b g) o.live ∙ sym (live_more false gs g);
  calls = ap (λ (x : Core). made x.calls ++ waiting d) i.parts ∙ ap (λ (l : List Entry). made c.calls ++ l) (due_waits c d g f i)
      ∙ ap (λ (l : List Entry). l ++ entries c.who (calls_for c.live g)) (all_made c gs f o)
      ∙ ap (λ (b : Bool). entries c.who (edge_calls false gs) ++ entries c.who (calls_for b g)) o.live
      ∙ sym (entries_more c.who gs g) ∙ sym (ap (λ (x : Core). entries x.who (edge_calls false (gs ++ g ∷ []))) i.parts);
}

-- where there was no memory for a unit, what was called begins what was to be
pub begun_more : (c : Core) (g : Gift) (gs : List Gift) → IsFree c → Owes c (waiting c) gs → Begun c (gs ++ g ∷ [])
begun_more c g gs f o = (
  entries c.who (calls_for (live_after false gs) g),
  ap (λ (l : List Entry). l ++ entries c.who (calls_for (live_after false gs) g))
      (all_made c gs f o) ∙ sym (entries_more c.who gs g),
)
