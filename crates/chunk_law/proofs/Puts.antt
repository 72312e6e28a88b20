-- The records of the ids, one of them put
use Rattle.std.proofs.Common.{◌≡◌, ℕ, ◌+◌, Bool, true, false, not, eqb, nat_lt, cond, ◌||◌, List, ◌∷◌, [], length, Option, Some, None, is_some, option_map, suc, refl, sym, ap, ◌∙◌, arith}
use Rattle.std.proofs.lemmas.Bool.{eq-eqb, eqb-true}
use Rattle.std.proofs.lemmas.Bool.Decides.{nat_tests}
use Rattle.std.proofs.lemmas.List.Sums.{sum_by-cons}
use Rattle.chunk_wire.specs.declared.kept.ChunkStream.{ChunkStream}
use Rattle.chunk_wire.specs.State.{kept_of, part_bytes, index_of, put}
use Rattle.chunk_wire.proofs.Records.{kept_more, parts_more, place_more, place_none, put_more, put_none}

known_step : (t : Bool) (o : Option ℕ) → is_some (cond t (Some 0) (option_map suc o)) ≡ (t || is_some o)
known_step true o = refl
known_step false None = refl
known_step false (Some i) = refl

-- the id has a record
abbrev pub has : ℕ → List ChunkStream → Bool
has id kept = is_some (index_of id kept)

pub has_none : (id : ℕ) → has id [] ≡ false
has_none id = rw (place_none id) refl

has_more : (id : ℕ) (k : ChunkStream) (ks : List ChunkStream) → has id (k ∷ ks) ≡ (eqb k.id id || has id ks)
has_more id k ks = rw (place_more id k ks) (known_step (eqb k.id id) (index_of id ks))

-- one case of the lemmas below: the first record is that of the id, or another one
kept_put_case : (t : Bool) (id : ℕ) (k y : ChunkStream) (ys : List ChunkStream) → eqb k.id id ≡ true → eqb y.id id ≡ t → kept_of id (put k ys) ≡ k → kept_of id (cond t (k ∷ ys) (y ∷ put k ys)) ≡ k
kept_put_case true id k y ys e f ih = kept_more id k ys ∙ (rw e)
kept_put_case false id k y ys e f ih = kept_more id y (put k ys) ∙ (rw f ih)

-- the record that was put is that of its id
pub kept_put : (k : ChunkStream) (ks : List ChunkStream) → kept_of k.id (put k ks) ≡ k
kept_put k [] = rw (put_none k) (kept_more k.id k [] ∙ (rw (eq-eqb k.id k.id refl)))
kept_put k (y ∷ ys) = rw (put_more k y ys) (kept_put_case (eqb y.id k.id) k.id k y ys (eq-eqb k.id k.id refl) refl (kept_put k ys))

other_put_case : (t : Bool) (id : ℕ) (k y : ChunkStream) (ys : List ChunkStream) → eqb k.id id ≡ false → eqb y.id k.id ≡ t → kept_of id (put k ys) ≡ kept_of id ys → kept_of id (cond t (k ∷ ys) (y ∷ put k ys)) ≡ kept_of id (y ∷ ys)
other_put_case true id k y ys e f ih =
    let same : eqb y.id id ≡ false = rw (eqb-true y.id k.id f) e in
    let was : kept_of id (y ∷ ys) ≡ kept_of id ys = kept_more id y ys ∙ (rw same) in
    kept_more id k ys ∙ (rw e (sym was))
other_put_case false id k y ys e f ih = kept_more id y (put k ys) ∙ ap (cond (eqb y.id id) y) ih ∙ sym (kept_more id y ys)

-- the records of the other ids stay
pub kept_put_other : (id : ℕ) (k : ChunkStream) (ks : List ChunkStream) → eqb k.id id ≡ false → kept_of id (put k ks) ≡ kept_of id ks
kept_put_other id k [] e = rw (put_none k) (kept_more id k [] ∙ (rw e))
kept_put_other id k (y ∷ ys) e = rw (put_more k y ys) (other_put_case (eqb y.id k.id) id k y ys e refl (kept_put_other id k ys e))

or_turn : (a b c : Bool) → (a || (b || c)) ≡ (b || (a || c))
or_turn true true c = refl
or_turn true false c = refl
or_turn false b c = refl

or_twice : (a c : Bool) → (a || (a || c)) ≡ (a || c)
or_twice true c = refl
or_twice false c = refl

has_put_case : (t : Bool) (id : ℕ) (k y : ChunkStream) (ys : List ChunkStream) → eqb y.id k.id ≡ t → has id (put k ys) ≡ (eqb k.id id || has id ys) → has id (cond t (k ∷ ys) (y ∷ put k ys)) ≡ (eqb k.id id || has id (y ∷ ys))
has_put_case true id k y ys f ih =
    let same : eqb y.id id ≡ eqb k.id id = rw (eqb-true y.id k.id f) refl in
    has_more id k ys ∙ sym (ap (λ (x : Bool). eqb k.id id || x) (has_more id y ys) ∙ (rw same (or_twice (eqb k.id id) (has id ys))))
has_put_case false id k y ys f ih =
    has_more id y (put k ys) ∙ ap (λ (x : Bool). eqb y.id id || x) ih ∙ or_turn (eqb y.id id) (eqb k.id id) (has id ys)
    ∙ sym (ap (λ (x : Bool). eqb k.id id || x) (has_more id y ys))

-- one more id has a record, or none
pub has_put : (id : ℕ) (k : ChunkStream) (ks : List ChunkStream) → has id (put k ks) ≡ (eqb k.id id || has id ks)
has_put id k [] = rw (put_none k) (has_more id k [])
has_put id k (y ∷ ys) = rw (put_more k y ys) (has_put_case (eqb y.id k.id) id k y ys refl (has_put id k ys))

put_put_case : (t : Bool) (k j y : ChunkStream) (ys : List ChunkStream) → k.id ≡ j.id → eqb y.id j.id ≡ t → put j (put k ys) ≡ put j ys → put j (cond t (k ∷ ys) (y ∷ put k ys)) ≡ put j (y ∷ ys)
put_put_case true k j y ys e f ih =
    let was : put j (y ∷ ys) ≡ j ∷ ys = put_more j y ys ∙ (rw f) in
    put_more j k ys ∙ (rw (eq-eqb k.id j.id e) (sym was))
put_put_case false k j y ys e f ih =
    let was : put j (y ∷ ys) ≡ y ∷ put j ys = put_more j y ys ∙ (rw f) in
    put_more j y (put k ys) ∙ (rw (f, ih) (sym was))

-- the record put last stays
pub put_put : (k j : ChunkStream) (ks : List ChunkStream) → k.id ≡ j.id → put j (put k ks) ≡ put j ks
put_put k j [] e = ap (put j) (put_none k) ∙ put_more j k [] ∙ (rw (eq-eqb k.id j.id e)) ∙ sym (put_none j)
put_put k j (y ∷ ys) e =
    let front : put k (y ∷ ys) ≡ cond (eqb y.id j.id) (k ∷ ys) (y ∷ put k ys) = rw (← e) (put_more k y ys) in
    ap (put j) front ∙ put_put_case (eqb y.id j.id) k j y ys e refl (put_put k j ys e)

length_put_case : (t h : Bool) (k y : ChunkStream) (ys : List ChunkStream) → length (put k ys) ≡ cond h (length ys) (length ys + 1) → length (cond t (k ∷ ys) (y ∷ put k ys)) ≡ cond (t || h) (suc (length ys)) (suc (length ys) + 1)
length_put_case true h k y ys ih = refl
length_put_case false true k y ys ih = omega arith
length_put_case false false k y ys ih = omega arith

-- one more record where the id had none
pub length_put : (k : ChunkStream) (ks : List ChunkStream) → length (put k ks) ≡ cond (has k.id ks) (length ks) (length ks + 1)
length_put k [] = rw (put_none k, place_none k.id)
length_put k (y ∷ ys) = rw (put_more k y ys, has_more k.id y ys) (length_put_case (eqb y.id k.id) (has k.id ys) k y ys (length_put k ys))

parts_put_case : (t : Bool) (k y : ChunkStream) (ys : List ChunkStream) → part_bytes (y ∷ ys) ≡ 0 → part_bytes (put k ys) ≡ length k.part → part_bytes (cond t (k ∷ ys) (y ∷ put k ys)) ≡ length k.part
parts_put_case true k y ys e ih = parts_more k ys ∙ (omega (arith, parts_more y ys))
parts_put_case false k y ys e ih = parts_more y (put k ys) ∙ (omega (arith, parts_more y ys))

-- where no part was held, the part that is put is all that is held
pub parts_put : (k : ChunkStream) (ks : List ChunkStream) → part_bytes ks ≡ 0 → part_bytes (put k ks) ≡ length k.part
parts_put k [] e = rw (put_none k) (parts_more k [] ∙ (omega arith))
parts_put k (y ∷ ys) e = rw (put_more k y ys) (parts_put_case (eqb y.id k.id) k y ys e (parts_put k ys (omega (arith, parts_more y ys))))
