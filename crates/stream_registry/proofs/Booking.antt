-- Journals of many places, and calls noted there
use Rattle.std.proofs.Common.{◌≡◌, ◌≢◌, ℕ, zero, suc, ◌<◌, ◌≤◌, List, [], ◌∷◌, length, slice_get, slice_set, get_or, Some, refl, sym, ap, ◌∙◌, subst, append-nil, arith, map}
use Rattle.std.specs.Prelude.{reverse}
use Rattle.std.proofs.lemmas.Option.{slice_get_read}
use Rattle.stream_model.specs.declared.calls.Shape.{Shape}
use Rattle.stream_model.specs.History.{History}
use Rattle.stream_model.specs.Shape.{IsShapeLawful, IsLegalAt, shape_held, most_held}
use Rattle.turn_gate.specs.Histories.{Begins}
use Rattle.stream_registry.specs.Told.{Step, Keeps}
use Rattle.stream_registry.proofs.Rooting.{begins_same, begins_trans}
use Rattle.stream_registry.specs.Names.{shape_at}
use Rattle.stream_registry.specs.Books.{BookState, SoleRules, SoleState, SeenState, journal_of, journal_at, new_book, shapes_in, FitsSole}

pub keeps_law : (limits : Shape) (past : History) (journal : List Step) → past ≡ reverse journal → IsShapeLawful limits past → ((slot player : ℕ) → IsLegalAt limits past slot player) → Keeps limits journal
keeps_law limits past journal is l v = record { rules = subst (λ (h : History). IsShapeLawful limits h) is l; viewers = λ slot player. subst (λ (h : History). IsLegalAt limits h slot player) is (v slot player) }

pub book_at : (books : List BookState) (place : ℕ) (v : BookState) → place < length books → v ≡ get_or books place v → slice_get books place ≡ Some v
book_at books place v there read = slice_get_read books (length books) place v refl there read

pub journal_is : (books : List BookState) (place : ℕ) (v : BookState) → place < length books → v ≡ get_or books place v → journal_at books place ≡ v.journal
journal_is books place v there read = ap journal_of (book_at books place v there read)

shape_there : (books : List BookState) (place : ℕ) (v : BookState) → slice_get books place ≡ Some v → shape_at (map (λ b. b.limits) books) place ≡ v.limits
shape_there [] place v e = absurd (cc)
shape_there (b ∷ books) zero v e = let same : b ≡ v = cc in ap (λ (k : BookState). k.limits) same
shape_there (b ∷ books) (suc place) v e = shape_there books place v e

pub limits_at : (books : List BookState) (shapes : List Shape) (place : ℕ) (v : BookState) → map (λ b. b.limits) books ≡ shapes → place < length books → v ≡ get_or books place v → v.limits ≡ shape_at shapes place
limits_at books shapes place v all there read =
    sym (shape_there books place v (book_at books place v there read)) ∙ ap (λ (l : List Shape). shape_at l place) all

-- no call changes what the places have
pub limits_set : (books : List BookState) (place : ℕ) (v w : BookState) → place < length books → v ≡ get_or books place v → w.limits ≡ v.limits → map (λ b. b.limits) (slice_set books place w) ≡ map (λ b. b.limits) books
limits_set [] place v w there read same = refl
limits_set (b ∷ books) zero v w there read same = ap (λ (s : Shape). s ∷ map (λ (k : BookState). k.limits) books) (same ∙ ap (λ (k : BookState). k.limits) read)
limits_set (b ∷ books) (suc place) v w there read same = ap (λ (l : List Shape). b.limits ∷ l) (limits_set books place v w (omega (arith, there)) read same)

pub journal_set_here : (books : List BookState) (place : ℕ) (w : BookState) → place < length books → journal_at (slice_set books place w) place ≡ w.journal
journal_set_here [] place w l = absurd (omega (arith, l))
journal_set_here (b ∷ bs) zero w l = refl
journal_set_here (b ∷ bs) (suc place) w l = journal_set_here bs place w (omega (arith, l))

pub journal_set_else : (books : List BookState) (place : ℕ) (w : BookState) (q : ℕ) → q ≢ place → journal_at (slice_set books place w) q ≡ journal_at books q
journal_set_else [] place w q d = refl
journal_set_else (b ∷ bs) zero w zero d = absurd (d refl)
journal_set_else (b ∷ bs) zero w (suc q) d = refl
journal_set_else (b ∷ bs) (suc place) w zero d = refl
journal_set_else (b ∷ bs) (suc place) w (suc q) d = journal_set_else bs place w q (λ e. d (ap suc e))

pub journal_set : (books : List BookState) (place : ℕ) (v w : BookState) → place < length books → v ≡ get_or books place v → Begins v.journal w.journal → (q : ℕ) → Begins (journal_at books q) (journal_at (slice_set books place w) q)
journal_set [] place v w l read b q = absurd (omega (arith, l))
journal_set (k ∷ ks) zero v w l read b zero = subst (λ (x : BookState). Begins x.journal w.journal) read b
journal_set (k ∷ ks) zero v w l read b (suc q) = begins_same (journal_at ks q)
journal_set (k ∷ ks) (suc place) v w l read b zero = begins_same k.journal
journal_set (k ∷ ks) (suc place) v w l read b (suc q) = journal_set ks place v w (omega (arith, l)) read b q

pub length_set : (books : List BookState) (place : ℕ) (w : BookState) → length (slice_set books place w) ≡ length books
length_set [] place w = refl
length_set (b ∷ bs) zero w = refl
length_set (b ∷ bs) (suc place) w = ap suc (length_set bs place w)

-- a pass fits where journals have grown
pub fits_later : (s s' : SoleState) (q : ℕ) (p : SeenState) → length s'.books ≡ length s.books → s'.rules ≡ s.rules → ((q : ℕ) → Begins (journal_at s.books q) (journal_at s'.books q)) → FitsSole s q p → FitsSole s' q p
fits_later s s' q p count rules later f =
    record { there = omega (arith, f.there, count); limits = f.limits ∙ sym (ap (λ (r : SoleRules). shape_at (shapes_in r) q) rules); seen = begins_trans p.seen (journal_at s.books q) (journal_at s'.books q) f.seen (later q) }

pub empty_journals : (shapes : List Shape) (books : List BookState) → books ≡ map new_book shapes → (q : ℕ) → journal_at books q ≡ []
empty_journals shapes books e q = ap (λ (l : List BookState). journal_at l q) e ∙ empty_new shapes q
  where
    empty_new : (shapes : List Shape) (q : ℕ) → journal_at (map new_book shapes) q ≡ []
    empty_new [] q = refl
    empty_new (s ∷ shapes) zero = refl
    empty_new (s ∷ shapes) (suc q) = empty_new shapes q

new_limits : (shapes : List Shape) → map (λ (b : BookState). b.limits) (map new_book shapes) ≡ shapes
new_limits [] = refl
new_limits (s ∷ shapes) = ap (λ (l : List Shape). s ∷ l) (new_limits shapes)

pub limits_new : (shapes : List Shape) (books : List BookState) → books ≡ map new_book shapes → map (λ b. b.limits) books ≡ shapes
limits_new shapes books e = ap (λ (l : List BookState). map (λ (b : BookState). b.limits) l) e ∙ new_limits shapes

-- what a call leaves of a port of one thread
pub record Left (s s' : SoleState) (place : ℕ) (v w : SeenState) : Type 0 where
  pub fits : FitsSole s' place w
  pub seen : Begins v.seen w.seen
  pub later : (q : ℕ) → Begins (journal_at s.books q) (journal_at s'.books q)
  pub others : (q : ℕ) → q ≢ place → journal_at s'.books q ≡ journal_at s.books q
  pub still : (q : ℕ) (p : SeenState) → FitsSole s q p → FitsSole s' q p

pub sole_call : (s : SoleState) (rules : SoleRules) (books : List BookState) (place : ℕ) (b b' : BookState) (v w : SeenState) → rules ≡ s.rules → books ≡ s.books → FitsSole s place v → b ≡ get_or books place b → Begins b.journal b'.journal → w.limits ≡ v.limits → w.seen ≡ b'.journal
    → Left s (record { rules = rules; books = slice_set books place b' }) place v w
sole_call s rules books place b b' v w same_rules view f read begins same seen =
    let s' : SoleState = record { rules = rules; books = slice_set books place b' } in
    let there : place < length books = omega (arith, f.there, ap length view) in
    let later : (q : ℕ) → Begins (journal_at s.books q) (journal_at (slice_set books place b') q) = λ q. subst (λ (l : List BookState). Begins (journal_at l q) (journal_at (slice_set books place b') q)) view (journal_set books place b b' there read begins q) in
    let here : journal_at (slice_set books place b') place ≡ w.seen = journal_set_here books place b' there ∙ sym seen in
    let count : length (slice_set books place b') ≡ length s.books = length_set books place b' ∙ ap length view in
    record {
      fits = record { there = omega (arith, f.there, count); limits = same ∙ (f.limits ∙ sym (ap (λ (r : SoleRules). shape_at (shapes_in r) place) same_rules)); seen = ([], append-nil w.seen ∙ sym here) };
      seen = begins_trans v.seen (journal_at s.books place) w.seen f.seen (subst (λ (h : List Step). Begins (journal_at s.books place) h) here (later place));
      later = later;
      others = λ q d. journal_set_else books place b' q d ∙ ap (λ (l : List BookState). journal_at l q) view;
      still = λ q p g. fits_later s s' q p count same_rules later g;
    }

-- what a book holds is what its place holds
pub held_same : (r : ℕ) (s s' : Shape) (j j' : List Step) → s ≡ s' → j ≡ j' → r ≡ shape_held s (reverse j) → r ≡ shape_held s' (reverse j')
held_same r s s' j j' e f h = rw (← e, ← f) h

pub most_same : (r : ℕ) (s s' : Shape) → s ≡ s' → r ≤ most_held s → r ≤ most_held s'
most_same r s s' e h = rw (← e) h
