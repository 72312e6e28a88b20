-- One reading of a head, also where more bytes follow
use Rattle.std.proofs.Common.{◌≡◌, inl, inr, ℕ, ◌+◌, ◌-◌, ◌≤◌, List, [], ◌++◌, length, length-append, take, refl, sym, ap, ◌∙◌, subst, arith, append_assoc, append-nil, Ok}
use Rattle.std.proofs.Math.Seq.{take-append-add}
use Rattle.std.proofs.lemmas.Bool.{cases_lt}
use Rattle.std.proofs.lemmas.List.{take-append-le, take_all}
use Rattle.httparse.specs.declared.Error.{Error}
use Rattle.httparse.specs.declared.Status.{Status}
use Rattle.httparse.specs.declared.Status.TheVariants.{Partial}
use Rattle.httparse.specs.declared.spans.RequestSpans.{RequestSpans}
use Rattle.httparse.specs.Outcome.{OnPartial}
use Rattle.httparse.specs.Grammar.{HasNoRequest, NeverHasRequest, ReadsRequest, RequestHead}
use Rattle.httparse.specs.Spans.{RequestExceeds, RequestOverflows}
use Rattle.httparse.proofs.GrammarLemmas.{ReadsRequest-append, request_unique}
use Rattle.http_request.specs.Heads.{Agree, Asks, HasTooMany, IsHead, IsOpen, IsRead, IsRefused, IsTooLong, IsUnfinished, Refused, Unfinished, Verdict, front, most_bytes, most_headers}

-- ---- more bytes

-- what is looked at grows at its end
pub front_more : (x more : List ℕ) → (m : List ℕ) × (front (x ++ more) ≡ front x ++ m)
front_more x more = elim (cases_lt (length x) most_bytes) [
  | inl short ↦ (
    take (most_bytes - length x) more,
    ap (λ (n : ℕ). take n (x ++ more)) (let e : most_bytes ≡ length x + (most_bytes - length x) = omega (arith, short) in e)
        ∙ take-append-add x more (most_bytes - length x)
        ∙ ap (λ (l : List ℕ). l ++ take (most_bytes - length x) more) (sym (take_all most_bytes x (omega (arith, short)))),
  )
  | inr long ↦ ([], take-append-le most_bytes x more long ∙ sym (append-nil (front x)))
]

head_on : (x more method target f m : List ℕ) → f ≡ front x ++ m → f ≡ front (x ++ more) → IsHead x method target → IsHead (x ++ more) method target
head_on x more method target f m e g h = record {
  head = h.head;
  rest = h.rest ++ m;
  reads = subst (λ (l : List ℕ). ReadsRequest l h.head (h.rest ++ m)) (sym e ∙ g) (ReadsRequest-append (front x) h.head h.rest m h.reads);
  few = h.few;
  method_is = h.method_is;
  target_is = h.target_is;
}

pub head_stays : (x more method target : List ℕ) → IsHead x method target → IsHead (x ++ more) method target
head_stays x more method target h = let f = front_more x more in head_on x more method target (front (x ++ more)) f.0 f.1 refl h

never_on : (b m : List ℕ) → NeverHasRequest b → NeverHasRequest (b ++ m)
never_on b m n = λ k. subst (λ (l : List ℕ). HasNoRequest l) (sym (append_assoc b m k)) (n (m ++ k))

exceeds_on : (n : ℕ) (b m : List ℕ) → RequestExceeds n b → RequestExceeds n (b ++ m)
exceeds_on n b m e = (e.0, e.1 ++ m, ap (λ (l : List ℕ). l ++ m) e.2 ∙ append_assoc e.0 e.1 m, e.3, e.4, e.5)

overflows_on : (n : ℕ) (b m : List ℕ) → RequestOverflows n b → RequestOverflows n (b ++ m)
overflows_on n b m o = λ k h rest r. o (m ++ k) h rest (subst (λ (l : List ℕ). ReadsRequest l h rest) (append_assoc b m k) r)

-- where nothing more is looked at
same_front : (x more : List ℕ) → most_bytes ≤ length x → front (x ++ more) ≡ front x
same_front x more long = take-append-le most_bytes x more long

long_on : (x more : List ℕ) → IsTooLong x → IsTooLong (x ++ more)
long_on x more l = record {
  long = omega (arith, length-append x more, l.long);
  none = subst (λ (b : List ℕ). HasNoRequest b) (sym (same_front x more l.long)) l.none;
}

many_on : (x more m : List ℕ) → front (x ++ more) ≡ front x ++ m → HasTooMany x → HasTooMany (x ++ more)
many_on x more m e t = record {
  many = subst (λ (b : List ℕ). RequestExceeds most_headers b) (sym e) (exceeds_on most_headers (front x) m t.many);
  none = subst (λ (b : List ℕ). RequestOverflows most_headers b) (sym e) (overflows_on most_headers (front x) m t.none);
}

refused_on : (x more m : List ℕ) → front (x ++ more) ≡ front x ++ m → IsRefused x → IsRefused (x ++ more)
refused_on x more m e (inl n) = inl (subst (λ (b : List ℕ). NeverHasRequest b) (sym e) (never_on (front x) m n))
refused_on x more m e (inr (inl t)) = inr (inl (many_on x more m e t))
refused_on x more m e (inr (inr l)) = inr (inr (long_on x more l))

pub refused_stays : (x more : List ℕ) → IsRefused x → IsRefused (x ++ more)
refused_stays x more r = let f = front_more x more in refused_on x more f.0 f.1 r

-- ---- one verdict

-- no other is a whole head
head_refused : (x method target : List ℕ) → IsHead x method target → IsRefused x → ⊥
head_refused x method target h (inl n) = n [] h.head (h.rest ++ []) (ReadsRequest-append (front x) h.head h.rest [] h.reads)
head_refused x method target h (inr (inl t)) =
    let more = t.none [] h.head (h.rest ++ []) (ReadsRequest-append (front x) h.head h.rest [] h.reads) in
    omega (arith, more, h.few)
head_refused x method target h (inr (inr l)) = l.none h.head h.rest h.reads

unfinished_refused : (x : List ℕ) → IsUnfinished x → IsRefused x → IsOpen x
unfinished_refused x u (inl n) = elim u.may [ inl m ↦ absurd (n m.0 m.1 [] m.2) | inr t ↦ inl t ]
unfinished_refused x u (inr (inl t)) = inr t
unfinished_refused x u (inr (inr l)) = let none : ⊥ = omega (arith, u.short, l.long) in absurd none

heads_agree : (x a b c d : List ℕ) → IsHead x a b → IsHead x c d → Asks a b ≡ Asks c d
heads_agree x a b c d h k =
    let u = request_unique (front x) h.head k.head h.rest k.rest h.reads k.reads in
    let e : a ≡ c = sym h.method_is ∙ ap (λ (r : RequestHead). r.method) u.0 ∙ k.method_is in
    let f : b ≡ d = sym h.target_is ∙ ap (λ (r : RequestHead). r.target) u.0 ∙ k.target_is in
    ap (λ (l : List ℕ). Asks l b) e ∙ ap (λ (l : List ℕ). Asks c l) f

pub agree : (x : List ℕ) (v w : Verdict) → IsRead x v → IsRead x w → Agree x v w
agree x Unfinished Unfinished i j = refl
agree x Unfinished Refused i j = unfinished_refused x i j
agree x Unfinished (Asks a b) i j = absurd (i.none j.head j.rest j.reads)
agree x Refused Unfinished i j = unfinished_refused x j i
agree x Refused Refused i j = refl
agree x Refused (Asks a b) i j = absurd (head_refused x a b j i)
agree x (Asks a b) Unfinished i j = absurd (j.none i.head i.rest i.reads)
agree x (Asks a b) Refused i j = absurd (head_refused x a b i j)
agree x (Asks a b) (Asks c d) i j = heads_agree x a b c d i j

-- ---- the code's answer where as many bytes came as a head may have

pub refused_long : (x y : List ℕ) (s : Status RequestSpans) → y ≡ front x → s ≡ Partial → OnPartial {E = Error} (Ok s) (HasNoRequest y) → most_bytes ≤ length x → IsRefused x
refused_long x y s e f g l = inr (inr (record {
  long = l;
  none = subst HasNoRequest e (subst (λ (t : Status RequestSpans). OnPartial {E = Error} (Ok t) (HasNoRequest y)) f g);
}))
