-- The records of the ids, the first of them apart
use Rattle.std.proofs.Common.{◌≡◌, ℕ, ◌+◌, Bool, true, false, not, eqb, nat_lt, cond, List, ◌∷◌, [], length, Option, Some, None, option_map, suc, refl, arith}
use Rattle.std.proofs.lemmas.Bool.Decides.{nat_tests}
use Rattle.std.proofs.lemmas.List.Sums.{sum_by-cons}
use Rattle.chunk_wire.specs.declared.kept.ChunkStream.{ChunkStream}
use Rattle.chunk_wire.specs.State.{at_place, fresh_kept, kept_of, part_bytes, index_of, put, put_at}

-- the place of the first that passes a test, where the first of all passes it or not
place_step : (t : Bool) (n l : ℕ) → cond (nat_lt (cond (not t) (1 + n) 0) (suc l)) (Some (cond (not t) (1 + n) 0)) None ≡ cond t (Some 0) (option_map suc (cond (nat_lt n l) (Some n) None))
place_step true n l = grind (arith, nat_tests)
place_step false n l = grind (arith, nat_tests)

pub place_none : (id : ℕ) → index_of id [] ≡ None
unfolding index_of
place_none id = refl

pub place_more : (id : ℕ) (k : ChunkStream) (ks : List ChunkStream) → index_of id (k ∷ ks) ≡ cond (eqb k.id id) (Some 0) (option_map suc (index_of id ks))
unfolding index_of
place_more id k ks = place_step (eqb k.id id) _ (length ks)

kept_step : (t : Bool) (id : ℕ) (k : ChunkStream) (ks : List ChunkStream) (o : Option ℕ) → at_place id (cond t (Some 0) (option_map suc o)) (k ∷ ks) ≡ cond t k (at_place id o ks)
kept_step true id k ks o = refl
kept_step false id k ks None = refl
kept_step false id k ks (Some i) = refl

put_step : (t : Bool) (k y : ChunkStream) (ys : List ChunkStream) (o : Option ℕ) → put_at (cond t (Some 0) (option_map suc o)) k (y ∷ ys) ≡ cond t (k ∷ ys) (y ∷ put_at o k ys)
put_step true k y ys o = refl
put_step false k y ys None = refl
put_step false k y ys (Some i) = refl

pub kept_more : (id : ℕ) (k : ChunkStream) (ks : List ChunkStream) → kept_of id (k ∷ ks) ≡ cond (eqb k.id id) k (kept_of id ks)
kept_more id k ks = rw (place_more id k ks) (kept_step (eqb k.id id) id k ks (index_of id ks))

pub kept_none : (id : ℕ) → kept_of id [] ≡ fresh_kept id
kept_none id = rw (place_none id) refl

pub put_more : (k y : ChunkStream) (ys : List ChunkStream) → put k (y ∷ ys) ≡ cond (eqb y.id k.id) (k ∷ ys) (y ∷ put k ys)
put_more k y ys = rw (place_more k.id y ys) (put_step (eqb y.id k.id) k y ys (index_of k.id ys))

pub put_none : (k : ChunkStream) → put k [] ≡ k ∷ []
put_none k = rw (place_none k.id) refl

pub parts_more : (k : ChunkStream) (ks : List ChunkStream) → part_bytes (k ∷ ks) ≡ length k.part + part_bytes ks
parts_more k ks = sum_by-cons (λ (x : ChunkStream). length x.part) k ks
