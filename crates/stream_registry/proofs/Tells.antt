-- What a gate's history tells a caller, as it grows
use Rattle.std.proofs.Common.{◌≡◌, ℕ, zero, suc, ◌<◌, ◌≤◌, List, [], ◌∷◌, ◌++◌, length, take, slice_get, Some, true, false, nat_eq, nat_lt, refl, sym, ap, ◌∙◌, subst, append_assoc, append-nil, arith, length-append, inl, inr}
use Rattle.std.specs.Prelude.{reverse}
use Rattle.std.specs.List.{fold}
use Rattle.std.proofs.lemmas.List.{reverse-append, reverse-reverse, take-append-le, take_all}
use Rattle.std.proofs.lemmas.List.Sums.{fold-append}
use Rattle.std.proofs.lemmas.Bool.{cases_lt}
use Rattle.std.proofs.lemmas.Bool.Decides.{nat_tests}
use Rattle.std.specs.declared.result.Result.{Result}
use Rattle.std.specs.declared.result.Result.TheVariants.{Ok, Err}
use Rattle.av_unit.specs.declared.bytes.OutOfMemory.{OutOfMemory}
use Rattle.stream_model.specs.declared.calls.Entry.{Entry}
use Rattle.stream_model.specs.declared.replies.Reply.{Reply}
use Rattle.stream_model.specs.History.{History}
use Rattle.turn_gate.specs.Histories.{Begins, longer, times}
use Rattle.stream_registry.specs.Pasts.{Attempt, past_after, past_of, GoesOn}
use Rattle.stream_registry.specs.Gates.{told, number_if, number, numbers}

abbrev pub folds : History → List Attempt → History
folds past h = fold (λ p step. past_after p step.0 step.1) past h

ends_after : (past : History) (e : Entry) (r : Result Reply OutOfMemory) → GoesOn past (past_after past e r)
ends_after past e (Ok r) = ((e, r) ∷ [], refl)
ends_after past e (Err x) = ([], refl)

ends_fold : (past : History) (h : List Attempt) → GoesOn past (folds past h)
ends_fold past [] = ([], refl)
ends_fold past (s ∷ h) =
    let a = ends_after past s.0 s.1 in
    let b = ends_fold (past_after past s.0 s.1) h in
    (b.0 ++ a.0, append_assoc b.0 a.0 past ∙ (ap (λ (l : History). b.0 ++ l) a.1 ∙ b.1))

pub past_goes_on : (xs ys : List Attempt) → Begins xs ys → GoesOn (past_of xs) (past_of ys)
past_goes_on xs ys b =
    let e = ends_fold (past_of xs) b.0 in
    (e.0, e.1 ∙ sym (ap past_of (sym b.1) ∙ fold-append (λ p step. past_after p step.0 step.1) [] xs b.0))

pub begins_told : (xs ys : List Attempt) → Begins xs ys → Begins (told xs) (told ys)
begins_told xs ys b =
    let e = ends_fold (past_of xs) b.0 in
    let joined : past_of ys ≡ folds (past_of xs) b.0 = ap past_of (sym b.1) ∙ fold-append (λ p step. past_after p step.0 step.1) [] xs b.0 in
    (reverse e.0, sym (reverse-append e.0 (past_of xs)) ∙ ap (λ (l : History). reverse l) (e.1 ∙ sym joined))

pub past_more : (h : List Attempt) (e : Entry) (r : Result Reply OutOfMemory) → past_of (h ++ (e, r) ∷ []) ≡ past_after (past_of h) e r
past_more h e r = fold-append (λ p step. past_after p step.0 step.1) [] h ((e, r) ∷ [])

pub told_more : (h : List Attempt) (e : Entry) (r : Reply) → told (h ++ (e, Ok r) ∷ []) ≡ told h ++ (e, r) ∷ []
told_more h e r = ap (λ (l : History). reverse l) (past_more h e (Ok r)) ∙ reverse-append ((e, r) ∷ []) (past_of h)

pub told_back : (h : List Attempt) → reverse (told h) ≡ past_of h
told_back h = reverse-reverse (past_of h)

-- the calls up to a place are the same in each history that goes on from it
get_left : (xs ys : List Attempt) (n : ℕ) → n < length xs → slice_get (xs ++ ys) n ≡ slice_get xs n
get_left [] ys n l = absurd (omega (arith, l))
get_left (x ∷ xs) ys zero l = refl
get_left (x ∷ xs) ys (suc n) l = get_left xs ys n (omega (arith, l))

number_stays : (xs ys : List Attempt) (n : ℕ) → n < length xs → number (xs ++ ys) n ≡ number xs n
number_stays xs ys n l =
    ap (λ o. number_if o (length (told (take n (xs ++ ys))))) (get_left xs ys n l)
    ∙ ap (λ t. number_if (slice_get xs n) (length (told t))) (take-append-le n xs ys (omega (arith, l)))

abbrev pub AllBelow : List ℕ → ℕ → Type 0
AllBelow ns n = (p : ℕ) → 0 < times p ns → p < n

below_head : (k : ℕ) (ns : List ℕ) (n : ℕ) → AllBelow (k ∷ ns) n → k < n
below_head k ns n b = let t : nat_eq k k ≡ true = grind (arith, nat_tests) in b k (rw t (omega arith))

below_tail : (k : ℕ) (ns : List ℕ) (n : ℕ) → AllBelow (k ∷ ns) n → AllBelow ns n
below_tail k ns n b = λ p l. b p (omega (arith, l))

pub numbers_stay : (xs ys : List Attempt) (ns : List ℕ) → AllBelow ns (length xs) → numbers (xs ++ ys) ns ≡ numbers xs ns
numbers_stay xs ys [] b = refl
numbers_stay xs ys (k ∷ ns) b =
    ap (λ (l : List ℕ). l ++ numbers (xs ++ ys) ns) (number_stays xs ys k (below_head k ns (length xs) b))
    ∙ ap (λ (l : List ℕ). number xs k ++ l) (numbers_stay xs ys ns (below_tail k ns (length xs) b))

pub numbers_begin : (xs ys : List Attempt) (ns : List ℕ) → Begins xs ys → AllBelow ns (length xs) → numbers ys ns ≡ numbers xs ns
numbers_begin xs ys ns b l = subst (λ (h : List Attempt). numbers h ns ≡ numbers xs ns) b.1 (numbers_stay xs b.0 ns l)

pub numbers_more : (h : List Attempt) (ns ms : List ℕ) → numbers h (ns ++ ms) ≡ numbers h ns ++ numbers h ms
numbers_more h [] ms = refl
numbers_more h (n ∷ ns) ms = ap (λ (l : List ℕ). number h n ++ l) (numbers_more h ns ms) ∙ sym (append_assoc (number h n) (numbers h ns) (numbers h ms))

get_last : (xs : List Attempt) (e : Attempt) → slice_get (xs ++ e ∷ []) (length xs) ≡ Some e
get_last [] e = refl
get_last (x ∷ xs) e = get_last xs e

number_last : (h : List Attempt) (e : Attempt) → number (h ++ e ∷ []) (length h) ≡ number_if (Some e) (length (told h))
number_last h e =
    ap (λ o. number_if o (length (told (take (length h) (h ++ e ∷ []))))) (get_last h e)
    ∙ ap (λ t. number_if (Some e) (length (told t))) (take-append-le (length h) h (e ∷ []) (omega arith) ∙ take_all (length h) h (omega arith))

-- one call more, at the end
pub numbers_placed : (seen before : List Attempt) (e : Attempt) (ns : List ℕ) → Begins seen before → AllBelow ns (length seen) → numbers (before ++ e ∷ []) (ns ++ length before ∷ []) ≡ numbers seen ns ++ number_if (Some e) (length (told before))
numbers_placed seen before e ns b l =
    let far : Begins seen (before ++ e ∷ []) = (b.0 ++ e ∷ [], sym (append_assoc seen b.0 (e ∷ [])) ∙ ap (λ (h : List Attempt). h ++ e ∷ []) b.1) in
    numbers_more (before ++ e ∷ []) ns (length before ∷ [])
    ∙ (ap (λ (x : List ℕ). x ++ (number (before ++ e ∷ []) (length before) ++ [])) (numbers_begin seen (before ++ e ∷ []) ns far l)
    ∙ ap (λ (x : List ℕ). numbers seen ns ++ x) (append-nil (number (before ++ e ∷ []) (length before)) ∙ number_last before e))

-- of two beginnings of one history, the longer tells the longer
begins_length : {E : Type 0} (xs ys : List E) → Begins xs ys → length xs ≤ length ys
begins_length xs ys b = omega (arith, ap length b.1, length-append xs b.0)

pub longer_second : {E : Type 0} (xs ys : List E) → length xs < length ys → longer xs ys ≡ ys
longer_second xs ys l = let t : nat_lt (length xs) (length ys) ≡ true = grind (arith, nat_tests) in rw t refl

longer_first : {E : Type 0} (xs ys : List E) → length ys ≤ length xs → longer xs ys ≡ xs
longer_first xs ys l = let t : nat_lt (length xs) (length ys) ≡ false = grind (arith, nat_tests) in rw t refl

begins_all : {E : Type 0} (xs rest : List E) → length rest ≡ 0 → xs ++ rest ≡ xs
begins_all xs [] l = append-nil xs
begins_all xs (x ∷ rest) l = absurd (omega (arith, l))

begins_equal : {E : Type 0} (xs ys : List E) → Begins xs ys → length ys ≤ length xs → xs ≡ ys
begins_equal xs ys b l = sym (begins_all xs b.0 (omega (arith, ap length b.1, length-append xs b.0))) ∙ b.1

-- of two of which one begins the other, the longer is the other
pub longer_of : {E : Type 0} (xs ys : List E) → Begins xs ys → longer xs ys ≡ ys
longer_of xs ys b = elim (cases_lt (length xs) (length ys)) [
  | inl l ↦ longer_second xs ys l
  | inr l ↦ longer_first xs ys l ∙ begins_equal xs ys b l
]

told_short : (a b : List Attempt) → Begins a b → told b ≡ longer (told a) (told b)
told_short a b t = sym (longer_of (told a) (told b) (begins_told a b t))

pub told_longer : (a b : List Attempt) → Begins a (longer a b) → Begins b (longer a b) → told (longer a b) ≡ longer (told a) (told b)
told_longer a b x y = elim (cases_lt (length a) (length b)) [
  | inl l ↦ let e = longer_second a b l in ap told e ∙ told_short a b (subst (λ (h : List Attempt). Begins a h) e x)
  | inr l ↦
      let e = longer_first a b l in
      ap told e ∙ sym (longer_first (told a) (told b) (begins_length (told b) (told a) (begins_told b a (subst (λ (h : List Attempt). Begins b h) e y))))
]
