-- The items that a player was sent, with their numbers
use Rattle.std.proofs.Common.{◌≡◌, ◌<◌, ◌≤◌, inl, inr, ℕ, ◌+◌, List, [], ◌∷◌, ◌++◌, Some, refl, ap, subst, arith}
use Rattle.std.specs.List.{All, Contains, slice_get}
use Rattle.std.proofs.lemmas.List.Elements.{Contains-append_left, Contains-push, Contains-push_cases}
use Rattle.av_unit.specs.declared.item.Item.{Item}
use Rattle.stream_model.specs.declared.replies.Taken.{Taken}
use Rattle.stream_model.specs.declared.replies.Taken.TheVariants.{Sent, Skip, NotYet}
use Rattle.stream_model.specs.Spell.{numbers_of}
use Rattle.stream_model.specs.Legal.{Each, IsAbove, OnSent}
use Rattle.origin_calls.specs.Origin.{given}
use Rattle.origin_calls.proofs.Members.{In, in_last, in_left, in_right}
use Rattle.origin_calls.proofs.Ordered.{Rises}

-- ---- each number that was sent has its item

pub sent_given : (answers : List Taken) (j : ℕ) → Contains (numbers_of answers) j → (x : Item) × In (j, x) (given answers)
sent_given [] j c = absurd (omega (arith, c.1))
sent_given (Sent at m y ∷ before) j c = elim (Contains-push_cases (numbers_of before) m j c) [
  | inl f ↦ let r = sent_given before j f in (r.0, in_left (j, r.0) (given before) ((m, y) ∷ []) r.1)
  | inr e ↦ (y, in_right (j, y) (given before) ((m, y) ∷ []) (inl (ap (λ (n : ℕ). (n, y)) e)))
]
sent_given (Skip at to ∷ before) j c = sent_given before j c
sent_given (NotYet end ∷ before) j c = sent_given before j c

pub given_sent : (answers : List Taken) (j : ℕ) (x : Item) → In (j, x) (given answers) → Contains (numbers_of answers) j
given_sent [] j x h = absurd h
given_sent (Sent at m y ∷ before) j x h = elim (in_last (j, x) (m, y) (given before) h) [
  | inl f ↦ Contains-append_left (numbers_of before) (m ∷ []) j (given_sent before j x f)
  | inr e ↦ subst (λ (q : ℕ × Item). Contains (numbers_of before ++ m ∷ []) q.0) e (Contains-push (numbers_of before) m)
]
given_sent (Skip at to ∷ before) j x h = given_sent before j x h
given_sent (NotYet end ∷ before) j x h = given_sent before j x h

-- the item that was published with that number
abbrev pub IsContent : List Item → ℕ → Item → List Taken → Type 0
IsContent items n x before = slice_get items n ≡ Some x

pub given_content : (items : List Item) (answers : List Taken) (j : ℕ) (x : Item) → Each (OnSent (IsContent items)) answers → In (j, x) (given answers)
    → slice_get items j ≡ Some x
given_content items [] j x k h = absurd h
given_content items (Sent at m y ∷ before) j x k h = elim (in_last (j, x) (m, y) (given before) h) [
  | inl f ↦ given_content items before j x k.1 f
  | inr e ↦ subst (λ (q : ℕ × Item). slice_get items q.0 ≡ Some q.1) e k.0
]
given_content items (Skip at to ∷ before) j x k h = given_content items before j x k.1 h
given_content items (NotYet end ∷ before) j x k h = given_content items before j x k.1 h

-- ---- the numbers rise

abbrev AreBelow : ℕ → List (ℕ × Item) → Type 0
AreBelow n [] = Unit {0}
AreBelow n (p ∷ ps) = (p.0 < n) × AreBelow n ps

rises_push : (b : ℕ) (ps : List (ℕ × Item)) (n : ℕ) (x : Item) → Rises b ps → b ≤ n → AreBelow n ps → Rises b (ps ++ (n, x) ∷ [])
rises_push b [] n x r l k = (l, tt)
rises_push b (p ∷ ps) n x r l k = (r.0, rises_push (p.0 + 1) ps n x r.1 (omega (arith, k.0)) k.1)

below_each : (n : ℕ) (ps : List (ℕ × Item)) → ((j : ℕ) (x : Item) → In (j, x) ps → j < n) → AreBelow n ps
below_each n [] h = tt
below_each n (p ∷ ps) h = (h p.0 p.1 (inl refl), below_each n ps (λ j x i. h j x (inr i)))

below_at : (n : ℕ) (numbers : List ℕ) (j : ℕ) → All (λ m. m < n) numbers → Contains numbers j → j < n
below_at n numbers j h c = subst (λ (m : ℕ). m < n) c.2 (h c.0 j c.1)

pub given_rises : (answers : List Taken) → Each (OnSent IsAbove) answers → Rises 0 (given answers)
given_rises [] h = tt
given_rises (Sent at n x ∷ before) h =
    rises_push 0 (given before) n x (given_rises before h.1) (omega arith)
    (below_each n (given before) (λ j y i. below_at n (numbers_of before) j h.0 (given_sent before j y i)))
given_rises (Skip at to ∷ before) h = given_rises before h.1
given_rises (NotYet end ∷ before) h = given_rises before h.1
