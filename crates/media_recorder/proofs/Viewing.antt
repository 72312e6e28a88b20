-- What a recorder takes is what a player is sent
use Rattle.std.proofs.Common.{◌≡◌, ◌==◌, ℕ, suc, zero, Bool, true, false, if◌then◌else◌, List, [], ◌∷◌, ◌++◌, length, None, Some, Option, ◌⊎◌, inl, inr, refl, ap, sym, ◌∙◌, subst}
use Rattle.std.specs.Option.{is_some}
use Rattle.std.proofs.lemmas.List.{append-nil}
use Rattle.std.proofs.lemmas.List.Concat.{flat_map-append}
use Rattle.std.proofs.lemmas.Bool.Decides.{eqb_tells}
use Rattle.av_unit.specs.declared.item.Item.{Item}
use Rattle.av_unit.specs.declared.unit.UnitArc.{UnitArc}
use Rattle.av_unit.specs.declared.head.Want.{Want}
use Rattle.stream_model.specs.declared.calls.StreamLimits.{StreamLimits}
use Rattle.stream_model.specs.declared.calls.Shape.{Shape}
use Rattle.stream_model.specs.declared.calls.Entry.{Entry}
use Rattle.stream_model.specs.declared.calls.Call.{Call}
use Rattle.stream_model.specs.declared.calls.Call.TheVariants as call
use Rattle.stream_model.specs.declared.replies.Reply.{Reply}
use Rattle.stream_model.specs.declared.replies.Reply.TheVariants.{Pushed, NotPublisher, Ended, NotPlayer, Left, Joined}
use Rattle.stream_model.specs.declared.replies.Taken.{Taken}
use Rattle.stream_model.specs.declared.replies.Taken.TheVariants.{Sent, Skip, NotYet}
use Rattle.stream_model.specs.Window.{join}
use Rattle.stream_model.specs.Take.{taken as taken_by}
use Rattle.stream_model.specs.Spell.{Spell, one_more, spell, spell_after, takes_from, cursor, sent, reply_of}
use Rattle.stream_model.specs.History.{History, items_of, publisher, holder, holder_after}
use Rattle.stream_model.specs.Answer.{reply_to, begin_reply, join_reply, free_place, first_or, is_who}
use Rattle.stream_model.specs.Known.{IsLawful}
use Rattle.stream_model.specs.Shape.{IsLawfulBy, IsShapeLawful}
use Rattle.stream_registry.specs.Told.{Step}
use Rattle.media_recorder.specs.Taken.{item_at, taken}
use Rattle.media_recorder.specs.Viewer.{items_sent, IsTakeAt, TakesOnly, calls_of}

same : (n : ℕ) → (n == n) ≡ true
same n = elim (eqb_tells n n) [ inl h ↦ h.0 | inr h ↦ absurd (h.1 refl) ]

apart : (m n : ℕ) → (m ≡ n → ⊥) → (m == n) ≡ false
apart m n d = elim (eqb_tells m n) [ inl h ↦ absurd (d h.1) | inr h ↦ h.0 ]

-- a call that changes nothing of a place
record Still (place w : ℕ) (c : Call) (r : Reply) (h : Option ℕ) (s : Spell) : Type 0 where
  held_is : holder_after w r place h ≡ h
  spell_is : spell_after c r place s ≡ s

begin_still : (place w end : ℕ) (live : Option ℕ) (c : Call) (h : Option ℕ) (s : Spell) → takes_from c place ≡ false → Still place w c (begin_reply end live) h s
begin_still place w end None c h s e = record { held_is = refl; spell_is = rw e refl }
begin_still place w end (Some by) c h s e = record { held_is = refl; spell_is = rw e refl }

push_still : (place w end : ℕ) (live : Option ℕ) (u : UnitArc) (b : Bool) (h : Option ℕ) (s : Spell) → Still place w (call.Push u) (if b then Pushed end else NotPublisher live) h s
push_still place w end live u true h s = record { held_is = refl; spell_is = refl }
push_still place w end live u false h s = record { held_is = refl; spell_is = refl }

end_still : (place w end : ℕ) (live : Option ℕ) (b : Bool) (h : Option ℕ) (s : Spell) → Still place w call.End (if b then Ended end else NotPublisher live) h s
end_still place w end live true h s = record { held_is = refl; spell_is = refl }
end_still place w end live false h s = record { held_is = refl; spell_is = refl }

join_still : (place w from : ℕ) (o : Option ℕ) (c : Call) (h : Option ℕ) (s : Spell) → takes_from c place ≡ false → ((p : ℕ) → o ≡ Some p → (p == place) ≡ false) → Still place w c (join_reply from o) h s
join_still place w from None c h s t d = record { held_is = refl; spell_is = rw t refl }
join_still place w from (Some p) c h s t d = let e = d p refl in record { held_is = rw e refl; spell_is = rw e refl }

-- a place that is free has no holder
first_free : (a b : Option ℕ) (p : ℕ) → first_or a b ≡ Some p → (a ≡ Some p) ⊎ (b ≡ Some p)
first_free None b p e = inr e
first_free (Some q) b p e = inl e

here_free : (h : Option ℕ) (n p : ℕ) → (if is_some h then None else Some n) ≡ Some p → (n ≡ p) × (h ≡ None)
here_free None n p e = (cc, refl)
here_free (Some q) n p e = let f : ⊥ = cc in absurd f

is_free : (h : ℕ → Option ℕ) (n p : ℕ) → free_place h n ≡ Some p → h p ≡ None
is_free h zero p e = let f : ⊥ = cc in absurd f
is_free h (suc n) p e = elim (first_free (free_place h n) (if is_some (h n) then None else Some n) p e) [
  | inl f ↦ is_free h n p f
  | inr f ↦ let g = here_free (h n) n p f in subst (λ (q : ℕ). h q ≡ None) g.0 g.1
]

reply_still : (place w p : ℕ) (want : Want) (t : Taken) (h : Option ℕ) (s : Spell) → (p == place) ≡ false → Still place w (call.Take p want) (reply_of t) h s
reply_still place w p want (Sent from n x) h s e = record { held_is = refl; spell_is = rw e refl }
reply_still place w p want (Skip from to) h s e = record { held_is = refl; spell_is = rw e refl }
reply_still place w p want (NotYet end) h s e = record { held_is = refl; spell_is = rw e refl }

same_spell : (b : Bool) (s : Spell) → (if b then s else s) ≡ s
same_spell true s = refl
same_spell false s = refl

none_still : (place w p : ℕ) (want : Want) (h : Option ℕ) (s : Spell) → Still place w (call.Take p want) NotPlayer h s
none_still place w p want h s = record { held_is = refl; spell_is = same_spell (p == place) s }

take_still : (place w p : ℕ) (want : Want) (t : Taken) (b : Bool) (h : Option ℕ) (s : Spell) → (b ≡ false) ⊎ ((p == place) ≡ false) → Still place w (call.Take p want) (if b then reply_of t else NotPlayer) h s
take_still place w p want t false h s d = none_still place w p want h s
take_still place w p want t true h s (inl e) = let f : ⊥ = cc in absurd f
take_still place w p want t true h s (inr e) = reply_still place w p want t h s e

leave_still : (place w p : ℕ) (b : Bool) (h : Option ℕ) (s : Spell) → (b ≡ false) ⊎ ((p == place) ≡ false) → Still place w (call.Leave p) (if b then Left p else NotPlayer) h s
leave_still place w p false h s d = record { held_is = refl; spell_is = refl }
leave_still place w p true h s (inl e) = let f : ⊥ = cc in absurd f
leave_still place w p true h s (inr e) = record { held_is = rw e refl; spell_is = refl }

-- who doesn't hold the place is no holder of it
no_holder : (past : History) (place who w p : ℕ) → holder past place ≡ Some who → (w ≡ who → ⊥) → (is_who (holder past p) w ≡ false) ⊎ ((p == place) ≡ false)
no_holder past place who w p held other = elim (eqb_tells p place) [
  | inl h ↦ inl (ap (λ (q : ℕ). is_who (holder past q) w) h.1 ∙ (ap (λ (o : Option ℕ). is_who o w) held ∙ apart who w (λ e. other (sym e))))
  | inr h ↦ inr h.0
]

other_join : (limits : StreamLimits) (past : History) (place who w : ℕ) (c : Call) → takes_from c place ≡ false → holder past place ≡ Some who
    → Still place w c (join_reply (join limits (items_of past)) (free_place (holder past) limits.players)) (holder past place) (spell past place)
other_join limits past place who w c quiet held =
    join_still place w (join limits (items_of past)) (free_place (holder past) limits.players) c (holder past place) (spell past place) quiet
    (λ p e. apart p place (λ same_place. let free : holder past place ≡ None = subst (λ (q : ℕ). holder past q ≡ None) same_place (is_free (holder past) limits.players p e) in let f : ⊥ = cc in f))

other_still : (limits : StreamLimits) (past : History) (place who w : ℕ) (c : Call) → holder past place ≡ Some who → (w ≡ who → ⊥) → Still place w c (reply_to limits past w c) (holder past place) (spell past place)
other_still limits past place who w call.Begin held other = begin_still place w (length (items_of past)) (publisher past) call.Begin (holder past place) (spell past place) refl
other_still limits past place who w (call.Push u) held other = push_still place w (length (items_of past)) (publisher past) u (is_who (publisher past) w) (holder past place) (spell past place)
other_still limits past place who w call.End held other = end_still place w (length (items_of past)) (publisher past) (is_who (publisher past) w) (holder past place) (spell past place)
other_still limits past place who w call.Join held other = other_join limits past place who w call.Join refl held
other_still limits past place who w (call.Take p want) held other =
    take_still place w p want (taken_by limits (items_of past) (cursor (spell past p)) (sent (spell past p)) want) (is_who (holder past p) w) (holder past place) (spell past place) (no_holder past place who w p held other)
other_still limits past place who w (call.Leave p) held other = leave_still place w p (is_who (holder past p) w) (holder past place) (spell past place) (no_holder past place who w p held other)
other_still limits past place who w call.Count held other = record { held_is = refl; spell_is = refl }
other_still limits past place who w (call.BeginAs name) held other =
    begin_still place w (length (items_of past)) (publisher past) (call.BeginAs name) (holder past place) (spell past place) refl
other_still limits past place who w (call.JoinAs name) held other = other_join limits past place who w (call.JoinAs name) refl held

-- a Take of the holder
record Taking (place w : ℕ) (c : Call) (r : Reply) (h : Option ℕ) (s : Spell) : Type 0 where
  held_is : holder_after w r place h ≡ h
  items_are : items_sent (spell_after c r place s).answers ≡ items_sent s.answers ++ item_at c r

given : (b : Bool) (t : Taken) (s : Spell) (all : List Item) → b ≡ true → items_sent (t ∷ s.answers) ≡ all → items_sent (if b then one_more (Some t) s else s).answers ≡ all
given true t s all e is = is
given false t s all e is = let f : ⊥ = cc in absurd f

taking : (place w : ℕ) (want : Want) (t : Taken) (h : Option ℕ) (s : Spell) → Taking place w (call.Take place want) (reply_of t) h s
taking place w want (Sent from n x) h s = record { held_is = refl; items_are = given (place == place) (Sent from n x) s (items_sent s.answers ++ x ∷ []) (same place) refl }
taking place w want (Skip from to) h s = record { held_is = refl; items_are = given (place == place) (Skip from to) s (items_sent s.answers ++ []) (same place) (sym (append-nil (items_sent s.answers))) }
taking place w want (NotYet end) h s = record { held_is = refl; items_are = given (place == place) (NotYet end) s (items_sent s.answers ++ []) (same place) (sym (append-nil (items_sent s.answers))) }

taking_if : (place w : ℕ) (want : Want) (t : Taken) (b : Bool) (h : Option ℕ) (s : Spell) → b ≡ true → Taking place w (call.Take place want) (if b then reply_of t else NotPlayer) h s
taking_if place w want t true h s e = taking place w want t h s
taking_if place w want t false h s e = let f : ⊥ = cc in absurd f

own_taking : (limits : StreamLimits) (past : History) (place who : ℕ) (want : Want) → holder past place ≡ Some who → Taking place who (call.Take place want) (reply_to limits past who (call.Take place want)) (holder past place) (spell past place)
own_taking limits past place who want held =
    taking_if place who want (taken_by limits (items_of past) (cursor (spell past place)) (sent (spell past place)) want) (is_who (holder past place) who) (holder past place) (spell past place)
    (ap (λ (o : Option ℕ). is_who o who) held ∙ same who)

if_true : {A : Type 0} (b : Bool) (x y : A) → b ≡ true → (if b then x else y) ≡ x
if_true true x y e = refl
if_true false x y e = let f : ⊥ = cc in absurd f

if_false : {A : Type 0} (b : Bool) (x y : A) → b ≡ false → (if b then x else y) ≡ y
if_false false x y e = refl
if_false true x y e = let f : ⊥ = cc in absurd f

-- the player of the place is the one that bears the name, and was sent what its Takes were
record View (place who : ℕ) (past newer : History) : Type 0 where
  held : holder past place ≡ Some who
  items : items_sent (spell past place).answers ≡ taken (calls_of who newer)

own_view : (limits : StreamLimits) (place who : ℕ) (past newer : History) (entry : Entry) (r : Reply) → r ≡ reply_to limits past entry.who entry.call → (entry.who == who) ≡ true → entry.who ≡ who → IsTakeAt place entry.call
    → View place who past newer → View place who ((entry, r) ∷ past) ((entry, r) ∷ newer)
own_view limits place who past newer entry r is test me take v =
    let is_take : r ≡ reply_to limits past who (call.Take place take.0) = is ∙ (ap (λ (w : ℕ). reply_to limits past w entry.call) me ∙ ap (λ (c : Call). reply_to limits past who c) take.1) in
    let t : Taking place who (call.Take place take.0) r (holder past place) (spell past place) =
    subst (λ (x : Reply). Taking place who (call.Take place take.0) x (holder past place) (spell past place)) (sym is_take) (own_taking limits past place who take.0 v.held) in
    let calls : calls_of who ((entry, r) ∷ newer) ≡ calls_of who newer ++ (entry, r) ∷ [] = if_true (entry.who == who) (calls_of who newer ++ (entry, r) ∷ []) (calls_of who newer) test in
    let items : taken (calls_of who newer ++ (entry, r) ∷ []) ≡ taken (calls_of who newer) ++ item_at entry.call r =
    flat_map-append (λ (s : Step). item_at s.0.call s.1) (calls_of who newer) ((entry, r) ∷ []) ∙ ap (λ (l : List Item). taken (calls_of who newer) ++ l) (append-nil (item_at entry.call r)) in
    let here : items_sent (spell_after entry.call r place (spell past place)).answers ≡ items_sent (spell past place).answers ++ item_at entry.call r =
    subst (λ (c : Call). items_sent (spell_after c r place (spell past place)).answers ≡ items_sent (spell past place).answers ++ item_at c r) (sym take.1) t.items_are in
    record {
      held = ap (λ (w : ℕ). holder_after w r place (holder past place)) me ∙ (t.held_is ∙ v.held);
      items = here ∙ (ap (λ (l : List Item). l ++ item_at entry.call r) v.items ∙ (sym items ∙ ap (λ (l : List Step). taken l) (sym calls)));
    }

other_view : (limits : StreamLimits) (place who : ℕ) (past newer : History) (entry : Entry) (r : Reply) → r ≡ reply_to limits past entry.who entry.call → (entry.who == who) ≡ false → (entry.who ≡ who → ⊥)
    → View place who past newer → View place who ((entry, r) ∷ past) ((entry, r) ∷ newer)
other_view limits place who past newer entry r is test other v =
    let t : Still place entry.who entry.call r (holder past place) (spell past place) =
    subst (λ (x : Reply). Still place entry.who entry.call x (holder past place) (spell past place)) (sym is) (other_still limits past place who entry.who entry.call v.held other) in
    let calls : calls_of who ((entry, r) ∷ newer) ≡ calls_of who newer = if_false (entry.who == who) (calls_of who newer ++ (entry, r) ∷ []) (calls_of who newer) test in
    record {
      held = t.held_is ∙ v.held;
      items = ap (λ (s : Spell). items_sent s.answers) t.spell_is ∙ (v.items ∙ ap (λ (l : List Step). taken l) (sym calls));
    }

step_view : (limits : StreamLimits) (place who : ℕ) (past newer : History) (step : Step) → step.1 ≡ reply_to limits past step.0.who step.0.call → (step.0.who ≡ who → IsTakeAt place step.0.call)
    → View place who past newer → View place who (step ∷ past) (step ∷ newer)
step_view limits place who past newer step is takes v = elim (eqb_tells step.0.who who) [
  | inl h ↦ own_view limits place who past newer step.0 step.1 is h.0 h.1 (takes h.1) v
  | inr h ↦ other_view limits place who past newer step.0 step.1 is h.0 h.1 v
]

view : (limits : StreamLimits) (place who from : ℕ) (entry : Entry) (newer before : History) → entry.who ≡ who → entry.call ≡ call.Join
    → IsLawful limits (newer ++ (entry, Joined place from) ∷ before) → TakesOnly who place newer → View place who (newer ++ (entry, Joined place from) ∷ before) newer
view limits place who from entry [] before me joins l t = record {
  held = if_true (place == place) (Some entry.who) (holder before place) (same place) ∙ ap (λ (w : ℕ). Some w) me;
  items = ap (λ (s : Spell). items_sent s.answers) (if_true (place == place) (record { from = from; answers = [] }) (spell before place) (same place));
}
view limits place who from entry (step ∷ newer) before me joins l t =
    step_view limits place who (newer ++ (entry, Joined place from) ∷ before) newer step l.0 t.0 (view limits place who from entry newer before me joins l.1 t.1)

pub viewed : (shape : Shape) (place who from : ℕ) (entry : Entry) (newer before : History) → shape.slots ≡ None → entry.who ≡ who → entry.call ≡ call.Join
    → IsShapeLawful shape (newer ++ (entry, Joined place from) ∷ before) → TakesOnly who place newer
    → items_sent (spell (newer ++ (entry, Joined place from) ∷ before) place).answers ≡ taken (calls_of who newer)
viewed shape place who from entry newer before stream me joins l t =
    let law : IsLawful shape.limits (newer ++ (entry, Joined place from) ∷ before) =
    subst (λ (o : Option ℕ). IsLawfulBy shape.limits o (newer ++ (entry, Joined place from) ∷ before)) stream l in
    (view shape.limits place who from entry newer before me joins law t).items
