-- The bytes of all parts, one record being put or a part dropped
use Rattle.std.proofs.Common.{◌≡◌, ℕ, ◌+◌, ◌-◌, ◌<◌, ◌≤◌, zero, suc, Bool, true, false, eqb, nat_lt, nat_eq, cond, List, ◌∷◌, [], ◌++◌, length, drop, get_or, set, Option, Some, None, refl, sym, ap, ◌∙◌, arith, length-append, length-drop}
use Rattle.std.proofs.lemmas.Bool.Decides.{nat_tests}
use Rattle.chunk_wire.specs.declared.kept.ChunkStream.{ChunkStream}
use Rattle.chunk_wire.specs.declared.message.Message.{Message}
use Rattle.relay_base.specs.Numbers.{be32_of}
use Rattle.chunk_wire.specs.Layout.{format_in}
use Rattle.chunk_wire.specs.State.{State, fresh_kept, kept_of, part_bytes, index_of, put}
use Rattle.chunk_wire.specs.Chunk.{after_chunk, filled, header_size, is_done, kept_before, message_of, opened, with_part}
use Rattle.chunk_wire.proofs.Records.{kept_more, kept_none, parts_more, put_more, put_none}
use Rattle.chunk_reader.specs.Control.{by_message, controlled, dropped, dropped_at, next}
use Rattle.chunk_reader.specs.Reads.{held_bytes}
use Rattle.chunk_reader.proofs.Places.{opened-id}
use Rattle.chunk_reader.proofs.Reading.{held_whole}

put_case : (t : Bool) (k y z : ChunkStream) (ys : List ChunkStream) → part_bytes (put k ys) + length z.part ≡ part_bytes ys + length k.part
    → part_bytes (cond t (k ∷ ys) (y ∷ put k ys)) + length (cond t y z).part ≡ part_bytes (y ∷ ys) + length k.part
put_case true k y z ys ih = omega (arith, parts_more k ys, parts_more y ys)
put_case false k y z ys ih = omega (arith, parts_more y (put k ys), parts_more y ys, ih)

-- the part that is put stands in place of that of its id
pub parts_put : (k : ChunkStream) (ks : List ChunkStream) → part_bytes (put k ks) + length (kept_of k.id ks).part ≡ part_bytes ks + length k.part
parts_put k [] = rw (put_none k, kept_none k.id) (omega (arith, parts_more k []))
parts_put k (y ∷ ys) = rw (put_more k y ys, kept_more k.id y ys) (put_case (eqb y.id k.id) k y (kept_of k.id ys) ys (parts_put k ys))

set_less : (ks : List ChunkStream) (i : ℕ) (d : ChunkStream) → part_bytes (set ks i (with_part (get_or ks i d) [])) ≤ part_bytes ks
set_less [] i d = omega arith
set_less (k ∷ ks) zero d = omega (arith, parts_more k ks, parts_more (with_part k []) ks)
set_less (k ∷ ks) (suc i) d = omega (arith, parts_more k ks, parts_more k (set ks i (with_part (get_or ks i d) [])), set_less ks i d)

dropped_less : (id : ℕ) (place : Option ℕ) (ks : List ChunkStream) → part_bytes (dropped_at id place ks) ≤ part_bytes ks
dropped_less id None ks = omega arith
dropped_less id (Some i) ks = set_less ks i (fresh_kept id)

part_case : (t : Bool) (p : List ℕ) → length (cond t [] p) ≤ length p
part_case true p = omega arith
part_case false p = omega arith

opened_less : (s : State) (r : List ℕ) → length (opened s r).part ≤ length (kept_before s r).part
unfolding opened
opened_less s r = part_case (nat_lt (format_in r) 3) (kept_before s r).part

-- a header drops a part, or none
pub parts_opened : (s : State) (r : List ℕ) → part_bytes (put (opened s r) s.kept) ≤ part_bytes s.kept
parts_opened s r =
    let e : length (kept_of (opened s r).id s.kept).part ≡ length (kept_before s r).part = ap (λ (id : ℕ). length (kept_of id s.kept).part) (opened-id s r) in
    omega (arith, parts_put (opened s r) s.kept, opened_less s r, e)

after_case : (t : Bool) (s : State) (r : List ℕ) → header_size s r ≤ length r → part_bytes (put (with_part (opened s r) (cond t [] (filled s r))) s.kept) ≤ held_bytes s r
after_case t s r whole =
    let k = with_part (opened s r) (cond t [] (filled s r)) in
    let a = parts_put (opened s r) s.kept in
    let b = parts_put k s.kept in
    let n = length-append (opened s r).part (drop (header_size s r) r) in
    omega (arith, a, b, held_whole s r whole, part_case t (filled s r), n, length-drop (header_size s r) r)

parts_after : (s : State) (r : List ℕ) → header_size s r ≤ length r → part_bytes (after_chunk s r).kept ≤ held_bytes s r
unfolding after_chunk
parts_after s r whole = after_case (is_done s r) s r whole

told_case : (a b c : Bool) (n id : ℕ) (s : State) → part_bytes (cond a s (cond b (record { size = n; kept = s.kept }) (cond c (record { size = s.size; kept = dropped id s.kept }) s))).kept ≤ part_bytes s.kept
told_case true b c n id s = omega arith
told_case false true c n id s = omega arith
told_case false false true n id s = dropped_less id (index_of id s.kept) s.kept
told_case false false false n id s = omega arith

parts_told : (m : Option Message) (s : State) → part_bytes (controlled m s).kept ≤ part_bytes s.kept
unfolding by_message
parts_told None s = omega arith
parts_told (Some m) s = told_case (nat_lt (length m.body) 4) (nat_eq m.kind 1) (nat_eq m.kind 2) (be32_of m.body) (be32_of m.body) s

-- what is held where the next chunk begins
pub parts_next : (s : State) (r : List ℕ) → header_size s r ≤ length r → part_bytes (next s r).kept ≤ held_bytes s r
unfolding next
parts_next s r whole = omega (arith, parts_after s r whole, parts_told (message_of s r) (after_chunk s r))
