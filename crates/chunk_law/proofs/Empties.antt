-- Records of which none holds a part
use Rattle.std.proofs.Common.{◌≡◌, ℕ, List, ◌∷◌, [], get_or, set, Option, Some, None, zero, suc, refl, sym, ap, ◌∙◌, arith}
use Rattle.std.proofs.lemmas.List.{nil_from_length, set-get_or}
use Rattle.chunk_wire.specs.declared.kept.ChunkStream.{ChunkStream}
use Rattle.chunk_wire.specs.State.{at_place, fresh_kept, kept_of, part_bytes, index_of}
use Rattle.chunk_wire.specs.Chunk.{with_part}
use Rattle.chunk_reader.specs.Control.{dropped, dropped_at}
use Rattle.chunk_wire.proofs.Records.{parts_more}

part_at : (ks : List ChunkStream) (i : ℕ) (d : ChunkStream) → part_bytes ks ≡ 0 → d.part ≡ [] → (get_or ks i d).part ≡ []
part_at [] i d e f = f
part_at (k ∷ ks) zero d e f = nil_from_length k.part (omega (arith, parts_more k ks))
part_at (k ∷ ks) (suc i) d e f = part_at ks i d (omega (arith, parts_more k ks)) f

part_place : (id : ℕ) (place : Option ℕ) (ks : List ChunkStream) → part_bytes ks ≡ 0 → (at_place id place ks).part ≡ []
part_place id None ks e = refl
part_place id (Some i) ks e = part_at ks i (fresh_kept id) e refl

-- the record of an id holds none
pub part_none : (id : ℕ) (ks : List ChunkStream) → part_bytes ks ≡ 0 → (kept_of id ks).part ≡ []
part_none id ks e = part_place id (index_of id ks) ks e

-- a record with the part that it has
with_same : (k : ChunkStream) → k.part ≡ [] → with_part k [] ≡ k
with_same k e = ap (with_part k) (sym e)

drop_at_place : (id : ℕ) (place : Option ℕ) (ks : List ChunkStream) → part_bytes ks ≡ 0 → dropped_at id place ks ≡ ks
drop_at_place id None ks e = refl
drop_at_place id (Some i) ks e =
    let d = fresh_kept id in
    ap (set ks i) (with_same (get_or ks i d) (part_at ks i d e refl)) ∙ set-get_or ks i d

-- to drop the part of an id changes nothing
pub drop_none : (id : ℕ) (ks : List ChunkStream) → part_bytes ks ≡ 0 → dropped id ks ≡ ks
drop_none id ks e = drop_at_place id (index_of id ks) ks e
