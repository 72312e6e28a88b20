-- What is counted stands at the end of a history
use Rattle.std.proofs.Common.{◌≡◌, ◌≢◌, ◌⊎◌, ◌<◌, ℕ, zero, suc, List, [], ◌∷◌, ◌++◌, length, length-append, append_assoc, Option, None, Some, slice_get, inl, inr, refl, sym, ap, subst, ◌∙◌, arith}
use Rattle.std.proofs.lemmas.List.{append-nil}
use Rattle.std.proofs.lemmas.Option.{slice_get_within}
use Rattle.turn_gate.specs.Histories.{Begins, longer}
use Rattle.stream_model.specs.declared.calls.Shape.{Shape}
use Rattle.stream_registry.specs.declared.place_table.Site.{Site}
use Rattle.stream_registry.specs.Gates.{told, told_at}
use Rattle.stream_registry.specs.Pasts.{Attempt}
use Rattle.stream_registry.specs.Placed.{Placed}
use Rattle.stream_registry.specs.Refusals.{IsFull}
use Rattle.stream_registry.specs.Told.{Step, Histories, Keeps}
use Rattle.stream_registry.specs.Roots.{Later, Root, seen_at}
use Rattle.stream_registry.proofs.Tells.{longer_of, longer_second}
use Rattle.relay_serve.specs.declared.counting.Counts.{Counts}
use Rattle.relay_serve.specs.Lasts.{AllEnd, EndsIf, EndsWith, IsWorn, counting, told_by}

-- what a pass has seen last is the longer, where the root knows nothing more
pub counted : (limits : Shape) (root seen : List Step) (mine : List ℕ) (c : Counts) (seen' : List Step) (mine' : List ℕ) (root' : List Step)
    → Placed limits root seen mine (counting, told_by c) seen' mine' → Keeps limits seen' → root' ≡ longer root seen' → EndsWith limits c root'
counted limits root seen mine c seen' mine' root' p k e =
    let r = p.root_first in
    let less : length root < length seen' = omega (arith, ap length p.seen_is, length-append p.before ((counting, told_by c) ∷ []), ap length r.1, length-append root r.0) in
    let same : root' ≡ seen' = e ∙ longer_second root seen' less in
    record { before = p.before; last = same ∙ p.seen_is; keeps = subst (Keeps limits) (sym same) k }

-- a pass that has seen a full history leaves it with the root that it began with
pub full_there : (limits : Shape) (root seen root' : List Attempt) → Begins root seen → IsFull limits seen → root' ≡ longer root seen
    → IsFull limits root'
full_there limits root seen root' b f e = subst (IsFull limits) (sym (e ∙ longer_of root seen b)) f

pub begins_same : {E : Type 0} (xs : List E) → Begins xs xs
begins_same xs = ([], append-nil xs)

pub begins_all : {E : Type 0} (xs ys zs : List E) → Begins xs ys → Begins ys zs → Begins xs zs
begins_all {E} xs ys zs b c = (b.0 ++ c.0, sym (append_assoc xs b.0 c.0) ∙ ap (λ (l : List E). l ++ c.0) b.1 ∙ c.1)

shifted : {m n : ℕ} → (m ≡ n) ⊎ (m ≢ n) → (suc m ≡ suc n) ⊎ (suc m ≢ suc n)
shifted (inl e) = inl (ap suc e)
shifted (inr n) = inr (λ e. n (omega (arith, e)))

same_or : (m n : ℕ) → (m ≡ n) ⊎ (m ≢ n)
same_or zero zero = inl refl
same_or zero (suc n) = inr (λ e. omega (arith, e))
same_or (suc m) zero = inr (λ e. omega (arith, e))
same_or (suc m) (suc n) = shifted (same_or m n)

later_by : (hs ks : Histories) (place q : ℕ) → Begins (hs place) (ks place) → ((q : ℕ) → q ≢ place → ks q ≡ hs q) → (q ≡ place) ⊎ (q ≢ place) → Begins (hs q) (ks q)
later_by hs ks place q b o (inl e) = subst (λ (n : ℕ). Begins (hs n) (ks n)) (sym e) b
later_by hs ks place q b o (inr n) = subst (Begins (hs q)) (sym (o q n)) (begins_same (hs q))

-- histories that grew at one place alone
pub later_at : (hs ks : Histories) (place : ℕ) → Begins (hs place) (ks place) → ((q : ℕ) → q ≢ place → ks q ≡ hs q) → Later hs ks
later_at hs ks place b o = record { at = λ q. later_by hs ks place q b o (same_or q place) }

pub later_then : (hs ks ls : Histories) → Later hs ks → Later ks ls → Later hs ls
later_then hs ks ls a b = record { at = λ q. begins_all (hs q) (ks q) (ls q) (a.at q) (b.at q) }

-- what roots tell that saw more at one place alone
pub told_then : (first roots roots' : List (Root Site Attempt)) (place : ℕ) → Later (told_at first) (told_at roots)
    → Begins (told_at roots place) (told_at roots' place) → ((q : ℕ) → q ≢ place → seen_at roots' q ≡ seen_at roots q)
    → Later (told_at first) (told_at roots')
told_then first roots roots' place l b o = later_then (told_at first) (told_at roots) (told_at roots') l
    (later_at (told_at roots) (told_at roots') place b (λ q n. ap told (o q n)))

shift : {X : Type 0} (xs : List X) (z x y : X) (n : ℕ) → (slice_get xs n ≡ Some y) ⊎ ((n ≡ length xs) × (x ≡ y))
    → (slice_get (z ∷ xs) (suc n) ≡ Some y) ⊎ ((suc n ≡ length (z ∷ xs)) × (x ≡ y))
shift xs z x y n (inl e) = inl e
shift xs z x y n (inr e) = inr (ap suc e.0, e.1)

pushed_get : {X : Type 0} (xs : List X) (x y : X) (n : ℕ) → slice_get (xs ++ x ∷ []) n ≡ Some y → (slice_get xs n ≡ Some y) ⊎ ((n ≡ length xs) × (x ≡ y))
pushed_get [] x y zero e = inr (refl, cc)
pushed_get [] x y (suc n) e = absurd (cc)
pushed_get (z ∷ xs) x y zero e = inl e
pushed_get (z ∷ xs) x y (suc n) e = shift xs z x y n (pushed_get xs x y n e)

module _ (limits : ℕ → Shape) (xs : List (Option Counts)) (x : Option Counts) (hs ks : ℕ → List Attempt) where
  all_by : (place : ℕ) (y : Option Counts) → AllEnd limits xs hs → EndsIf (limits (length xs)) x (ks (length xs)) → ((q : ℕ) → q ≢ length xs → ks q ≡ hs q)
      → (slice_get xs place ≡ Some y) ⊎ ((place ≡ length xs) × (x ≡ y)) → EndsIf (limits place) y (ks place)
  all_by place y old new o (inl e) =
      let l : place < length xs = slice_get_within xs place y e in
      subst (EndsIf (limits place) y) (sym (o place (λ f. omega (arith, f, l)))) (old place y e)
  all_by place y old new o (inr e) =
      subst (λ (n : ℕ). EndsIf (limits n) y (ks n)) (sym e.0) (subst (λ (z : Option Counts). EndsIf (limits (length xs)) z (ks (length xs))) e.1 new)

  -- one stream more is counted last, or its history is full
  pub all_more : AllEnd limits xs hs → EndsIf (limits (length xs)) x (ks (length xs)) → ((q : ℕ) → q ≢ length xs → ks q ≡ hs q) → AllEnd limits (xs ++ x ∷ []) ks
  all_more old new o = λ place y at. all_by place y old new o (pushed_get xs x y place at)

pub later_same : (hs : Histories) → Later hs hs
later_same hs = record { at = λ q. begins_same (hs q) }

got_before : {X : Type 0} (xs : List X) (x y : X) (n : ℕ) → slice_get xs n ≡ Some y → slice_get (xs ++ x ∷ []) n ≡ Some y
got_before [] x y n e = absurd (let f : None ≡ Some y = e in cc)
got_before (z ∷ xs) x y zero e = e
got_before (z ∷ xs) x y (suc n) e = got_before xs x y n e

got_last : {X : Type 0} (xs : List X) (x : X) → slice_get (xs ++ x ∷ []) (length xs) ≡ Some x
got_last [] x = refl
got_last (z ∷ xs) x = got_last xs x

-- one stream more is counted, or its history is full
module _ (full : ℕ → Type 0) (xs : List (Option Counts)) (x : Option Counts) where
  worn_by : ((q : ℕ) → q < length xs → full q → IsWorn xs q) → (full (length xs) → x ≡ None) → (q : ℕ) → q < length (xs ++ x ∷ []) → full q
      → (q ≡ length xs) ⊎ (q ≢ length xs) → IsWorn (xs ++ x ∷ []) q
  worn_by old new q l f (inl e) =
      subst (IsWorn (xs ++ x ∷ [])) (sym e) (got_last xs x ∙ ap Some (new (subst full e f)))
  worn_by old new q l f (inr n) =
      got_before xs x None q (old q (grind (arith, length-append xs (x ∷ []), l, n)) f)

  pub worn_more : ((q : ℕ) → q < length xs → full q → IsWorn xs q) → (full (length xs) → x ≡ None) → (q : ℕ) → q < length (xs ++ x ∷ []) → full q
      → IsWorn (xs ++ x ∷ []) q
  worn_more old new q l f = worn_by old new q l f (same_or q (length xs))
