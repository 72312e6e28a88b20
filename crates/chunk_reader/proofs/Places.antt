-- The slot of a chunk in progress
use Rattle.std.proofs.Common.{◌≡◌, ℕ, Bool, cond, List, ◌++◌, ◌∷◌, [], length, set, Option, Some, None, refl, ap, ◌∙◌, arith, length-append, get_or-set_same}
use Rattle.std.proofs.Math.Seq.{get_or-append_seam}
use Rattle.std.proofs.lemmas.Grind.{common_steps}
use Rattle.std.proofs.Common.{nat_lt, zero, suc}
use Rattle.chunk_wire.specs.declared.kept.ChunkStream.{ChunkStream}
use Rattle.chunk_wire.specs.declared.kept.Terms.{Terms}
use Rattle.chunk_wire.specs.Layout.{id_in, format_in}
use Rattle.chunk_wire.specs.State.{State, at_place, index_of, put_at}
use Rattle.chunk_wire.specs.Chunk.{opened, with_part}
use Rattle.chunk_reader.specs.Core.{IsPlaceOf}
use Rattle.chunk_reader.specs.Steps.{IsPutAt}

-- what is put is the record after the header
pub opened_is : (s : State) (r : List ℕ) (id : ℕ) (t : Terms) (d : Bool) (place : Option ℕ) → id ≡ id_in r → t ≡ (opened s r).terms → d ≡ nat_lt (format_in r) 3 → place ≡ index_of (id_in r) s.kept
    → record { id = id; terms = t; part = cond d [] (at_place id place s.kept).part } ≡ opened s r
unfolding opened
opened_is s r id t d place a b e f = rw (a, b, e, f) refl

pub opened-id : (s : State) (r : List ℕ) → (opened s r).id ≡ id_in r
unfolding opened
opened-id s r = refl

set_last : (kept : List ChunkStream) (k k' : ChunkStream) → set (kept ++ k ∷ []) (length kept) k' ≡ kept ++ k' ∷ []
set_last [] k k' = refl
set_last (x ∷ xs) k k' = ap (λ (t : List ChunkStream). x ∷ t) (set_last xs k k')

set_again : (kept : List ChunkStream) (i : ℕ) (k k' : ChunkStream) → set (set kept i k) i k' ≡ set kept i k'
set_again [] i k k' = refl
set_again (x ∷ xs) zero k k' = refl
set_again (x ∷ xs) (suc i) k k' = ap (λ (t : List ChunkStream). x ∷ t) (set_again xs i k k')

length_set : (kept : List ChunkStream) (i : ℕ) (k : ChunkStream) → length (set kept i k) ≡ length kept
length_set kept i k = grind (arith, common_steps)

-- a slot that was put stands at its place
put_there : (kept : List ChunkStream) (k : ChunkStream) (place : Option ℕ) (i : ℕ) → place ≡ index_of k.id kept → IsPutAt place (length kept) i → IsPlaceOf kept k (put_at place k kept) i
put_there kept k None i e p = record {
  within = omega (arith, length-append kept (k ∷ []));
  slots_are = ap (λ (o : Option ℕ). put_at o k kept) e;
  is = λ d. rw p (get_or-append_seam kept k [] d);
  puts = λ part. rw p (set_last kept k (with_part k part)) ∙ ap (λ (o : Option ℕ). put_at o (with_part k part) kept) e;
}
put_there kept k (Some j) i e p = record {
  within = omega (arith, length_set kept j k, p.0, p.1);
  slots_are = ap (λ (o : Option ℕ). put_at o k kept) e;
  is = λ d. rw p.0 (get_or-set_same kept j k d p.1);
  puts = λ part. rw p.0 (set_again kept j k (with_part k part)) ∙ ap (λ (o : Option ℕ). put_at o (with_part k part) kept) e;
}

pub put_place : (s : State) (r : List ℕ) (k : ChunkStream) (place : Option ℕ) (slots : List ChunkStream) (i : ℕ) → place ≡ index_of (id_in r) s.kept → k ≡ opened s r → slots ≡ put_at place k s.kept → IsPutAt place (length s.kept) i
    → IsPlaceOf s.kept (opened s r) slots i
put_place s r k place slots i e f g p =
    let h = put_there s.kept (opened s r) place i (rw (opened-id s r) e) p in
    rw (g, f) h
