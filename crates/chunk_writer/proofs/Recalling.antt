-- The last message on a chunk stream
use Rattle.std.proofs.Common.{◌≡◌, ℕ, zero, suc, ◌<◌, ◌≤◌, nat_eq, cond, List, [], ◌∷◌, ◌++◌, length, Option, Some, None, refl, ap, ◌∙◌, arith, set}
use Rattle.std.proofs.lemmas.Bool.Decides.{nat_tests}
use Rattle.chunk_writer.specs.declared.begun.Begun.{Begun}
use Rattle.chunk_writer.specs.Rule.{last_on}
use Rattle.chunk_writer.specs.Sound.{AreApart, AreLasts, place}

-- in place of the first of its chunk stream
last_on-set : (id i : ℕ) (b : Begun) (xs : List Begun) → i ≡ place b.id xs → i < length xs → last_on id (set xs i b) ≡ last_on id (b ∷ xs)
last_on-set id i b [] e less = absurd (omega (arith, less))
last_on-set id zero b (x ∷ xs) e less = grind (arith, nat_tests, e)
last_on-set id (suc i) b (x ∷ xs) e less =
    let h = last_on-set id i b xs in
    grind (arith, nat_tests, e, less, h)

-- at the end, where none is of its chunk stream
last_on-push : (id : ℕ) (b : Begun) (xs : List Begun) → length xs ≤ place b.id xs → last_on id (xs ++ b ∷ []) ≡ last_on id (b ∷ xs)
last_on-push id b [] none = refl
last_on-push id b (x ∷ xs) none =
    let h = last_on-push id b xs in
    grind (arith, nat_tests, h)

apart_set : (i : ℕ) (b : Begun) (xs : List Begun) → i ≡ place b.id xs → i < length xs → AreApart xs → AreApart (set xs i b)
apart_set i b [] e less a = absurd (omega (arith, less))
apart_set zero b (x ∷ xs) e less a =
    let none : last_on b.id xs ≡ None = grind (arith, nat_tests, e, a.0) in
    (none, a.1)
apart_set (suc i) b (x ∷ xs) e less a =
    let h = last_on-set x.id i b xs in
    let none : last_on x.id (set xs i b) ≡ None = grind (arith, nat_tests, e, less, h, a.0) in
    let next : i ≡ place b.id xs = grind (arith, nat_tests, e) in
    (none, apart_set i b xs next (omega (arith, less)) a.1)

apart_push : (b : Begun) (xs : List Begun) → length xs ≤ place b.id xs → AreApart xs → AreApart (xs ++ b ∷ [])
apart_push b [] none a = (refl, tt)
apart_push b (x ∷ xs) none a =
    let h = last_on-push x.id b xs in
    let alone : last_on x.id (xs ++ b ∷ []) ≡ None = grind (arith, nat_tests, none, h, a.0) in
    let later : length xs ≤ place b.id xs = grind (arith, nat_tests, none) in
    (alone, apart_push b xs later a.1)

-- the last of each chunk stream stays known
again : (id : ℕ) (b : Begun) (xs said : List Begun) → last_on id xs ≡ last_on id said → last_on id (b ∷ xs) ≡ last_on id (b ∷ said)
again id b xs said e = ap (λ (o : Option Begun). cond (nat_eq b.id id) (Some b) o) e

pub lasts_set : (i : ℕ) (b : Begun) (xs said : List Begun) → i ≡ place b.id xs → i < length xs → AreLasts xs said → AreLasts (set xs i b) (b ∷ said)
lasts_set i b xs said e less l = record {
  apart = apart_set i b xs e less l.apart;
  recalls = λ id. last_on-set id i b xs e less ∙ again id b xs said (l.recalls id);
}

pub lasts_push : (b : Begun) (xs said : List Begun) → length xs ≤ place b.id xs → AreLasts xs said → AreLasts (xs ++ b ∷ []) (b ∷ said)
lasts_push b xs said none l = record {
  apart = apart_push b xs none l.apart;
  recalls = λ id. last_on-push id b xs none ∙ again id b xs said (l.recalls id);
}
