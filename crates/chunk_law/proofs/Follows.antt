-- A reader's state follows what a writer wrote
use Rattle.std.proofs.Common.{◌≡◌, ℕ, ◌+◌, ◌^◌, ◌<◌, ◌≤◌, ◌⊎◌, inl, inr, Bool, true, false, not, eqb, nat_eq, nat_le, nat_lt, cond, ◌&&◌, ◌||◌, List, [], length, Some, None, refl, sym, ap, ◌∙◌, subst, arith}
use Rattle.std.proofs.lemmas.Bool.{eqb-true}
use Rattle.std.proofs.lemmas.Bool.Decides.{nat_tests}
use Rattle.relay_base.specs.Numbers.{be32_of}
use Rattle.chunk_wire.specs.declared.kept.ChunkStream.{ChunkStream}
use Rattle.chunk_wire.specs.declared.message.Message.{Message}
use Rattle.chunk_wire.specs.State.{State, fresh_state, kept_of, part_bytes, put}
use Rattle.chunk_reader.specs.Control.{by_message, dropped, refused_size}
use Rattle.chunk_writer.specs.declared.begun.Begun.{Begun}
use Rattle.chunk_writer.specs.WriterKnown.{WriterKnown, fresh, sized}
use Rattle.chunk_writer.specs.Rule.{begun_in, id_for, last_on}
use Rattle.chunk_writer.specs.Written.{after, resized_by}
use Rattle.chunk_law.proofs.Begins.{Agrees}
use Rattle.chunk_law.proofs.Cuts.{during}
use Rattle.chunk_law.proofs.Empties.{drop_none}
use Rattle.chunk_law.proofs.Opened.{IsSaid, holding}
use Rattle.chunk_law.proofs.Puts.{has, has_none, has_put, kept_put, kept_put_other, length_put, parts_put}

-- one where the id has a record
abbrev one : ℕ → List ChunkStream → ℕ
one id kept = cond (has id kept) 1 0

-- how many of the ids that are written have a record
abbrev pub known_ids : List ChunkStream → ℕ
known_ids kept = one 2 kept + one 3 kept + one 5 kept + one 6 kept + one 7 kept

pub few : (kept : List ChunkStream) → length kept ≡ known_ids kept → length kept < 64
few kept e = grind (arith, e)

add_one : (h : Bool) (n m : ℕ) → n + 1 ≡ m + cond h 1 0 → cond h n (n + 1) ≡ m
add_one true n m e = omega arith
add_one false n m e = omega arith

counted_2 : (k : ChunkStream) (kept : List ChunkStream) → k.id ≡ 2 → length kept ≡ known_ids kept → length (put k kept) ≡ known_ids (put k kept)
counted_2 k kept e c =
    rw (has_put 2 k kept, has_put 3 k kept, has_put 5 k kept, has_put 6 k kept, has_put 7 k kept, length_put k kept, e) (add_one (has 2 kept) (length kept) (1 + one 3 kept + one 5 kept + one 6 kept + one 7 kept) (omega arith))

counted_3 : (k : ChunkStream) (kept : List ChunkStream) → k.id ≡ 3 → length kept ≡ known_ids kept → length (put k kept) ≡ known_ids (put k kept)
counted_3 k kept e c =
    rw (has_put 2 k kept, has_put 3 k kept, has_put 5 k kept, has_put 6 k kept, has_put 7 k kept, length_put k kept, e) (add_one (has 3 kept) (length kept) (one 2 kept + 1 + one 5 kept + one 6 kept + one 7 kept) (omega arith))

counted_5 : (k : ChunkStream) (kept : List ChunkStream) → k.id ≡ 5 → length kept ≡ known_ids kept → length (put k kept) ≡ known_ids (put k kept)
counted_5 k kept e c =
    rw (has_put 2 k kept, has_put 3 k kept, has_put 5 k kept, has_put 6 k kept, has_put 7 k kept, length_put k kept, e) (add_one (has 5 kept) (length kept) (one 2 kept + one 3 kept + 1 + one 6 kept + one 7 kept) (omega arith))

counted_6 : (k : ChunkStream) (kept : List ChunkStream) → k.id ≡ 6 → length kept ≡ known_ids kept → length (put k kept) ≡ known_ids (put k kept)
counted_6 k kept e c =
    rw (has_put 2 k kept, has_put 3 k kept, has_put 5 k kept, has_put 6 k kept, has_put 7 k kept, length_put k kept, e) (add_one (has 6 kept) (length kept) (one 2 kept + one 3 kept + one 5 kept + 1 + one 7 kept) (omega arith))

counted_7 : (k : ChunkStream) (kept : List ChunkStream) → k.id ≡ 7 → length kept ≡ known_ids kept → length (put k kept) ≡ known_ids (put k kept)
counted_7 k kept e c =
    rw (has_put 2 k kept, has_put 3 k kept, has_put 5 k kept, has_put 6 k kept, has_put 7 k kept, length_put k kept, e) (add_one (has 7 kept) (length kept) (one 2 kept + one 3 kept + one 5 kept + one 6 kept + 1) (omega arith))

abbrev Five : ℕ → Type 0
Five id = (id ≡ 2) ⊎ ((id ≡ 3) ⊎ ((id ≡ 5) ⊎ ((id ≡ 6) ⊎ (id ≡ 7))))

-- each type of message has one of five ids
five : (kind : ℕ) → Five (id_for kind)
unfolding id_for
five kind = grind (arith, nat_tests)

counted_put : (k : ChunkStream) (kept : List ChunkStream) → Five k.id → length kept ≡ known_ids kept → length (put k kept) ≡ known_ids (put k kept)
counted_put k kept (inl e) c = counted_2 k kept e c
counted_put k kept (inr (inl e)) c = counted_3 k kept e c
counted_put k kept (inr (inr (inl e))) c = counted_5 k kept e c
counted_put k kept (inr (inr (inr (inl e)))) c = counted_6 k kept e c
counted_put k kept (inr (inr (inr (inr e)))) c = counted_7 k kept e c

-- the state s is that of a reader of what was written up to w
pub record Follows (w : WriterKnown) (s : State) : Type 0 where
  pub size_is : s.size ≡ w.size
  pub some : 1 ≤ w.size
  pub empty : part_bytes s.kept ≡ 0
  pub agrees : (id : ℕ) → Agrees (last_on id w.said) (has id s.kept) (kept_of id s.kept)
  pub counted : length s.kept ≡ known_ids s.kept

pub follows_fresh : Follows fresh fresh_state
follows_fresh = record {
  size_is = refl;
  some = omega arith;
  empty = refl;
  agrees = λ id. has_none id;
  counted = rw (has_none 2, has_none 3, has_none 5, has_none 6, has_none 7) refl;
}

agrees_case : (t : Bool) (id : ℕ) (x : Begun) (said : List Begun) (kept : List ChunkStream) → eqb x.id id ≡ t → x.terms.extended ≡ nat_le 16777215 x.terms.delta → Agrees (last_on id said) (has id kept) (kept_of id kept)
    → Agrees (cond t (Some x) (last_on id said)) (has id (put (holding x []) kept)) (kept_of id (put (holding x []) kept))
agrees_case true id x said kept e extended a =
    let same : x.id ≡ id = eqb-true x.id id e in
    let there : has id (put (holding x []) kept) ≡ true = has_put id (holding x []) kept ∙ (rw e) in
    let k = holding x [] in
    let K : ℕ → Type 0 = λ i. kept_of i (put k kept) ≡ k in
    let is : kept_of id (put k kept) ≡ k = subst K same (kept_put k kept) in
    let terms : (kept_of id (put k kept)).terms ≡ k.terms = ap (λ (j : ChunkStream). j.terms) is in
    record { known_is = there; terms_are = terms; extended = extended }
agrees_case false id x said kept e extended a =
    let there : has id (put (holding x []) kept) ≡ has id kept = has_put id (holding x []) kept ∙ (rw e) in
    rw (there, kept_put_other id (holding x []) kept e) a

-- the message is whole
pub follows_after : (w : WriterKnown) (s : State) (m : Message) → Follows w s → IsSaid (begun_in w.said m) → Follows (after w m) (during s.size (begun_in w.said m) s.kept [])
follows_after w s m f said =
    let x = begun_in w.said m in
    record {
      size_is = f.size_is;
      some = f.some;
      empty = parts_put (holding x []) s.kept f.empty;
      agrees = λ id. agrees_case (eqb x.id id) id x w.said s.kept refl said.extended (f.agrees id);
      counted = counted_put (holding x []) s.kept (five m.kind) f.counted;
    }

follows_sized : (n : ℕ) (w : WriterKnown) (s : State) → Follows w s → 1 ≤ n → Follows (sized n w) (record { size = n; kept = s.kept })
follows_sized n w s f some = record { size_is = refl; some = some; empty = f.empty; agrees = f.agrees; counted = f.counted }

follows_dropped : (n : ℕ) (w : WriterKnown) (s : State) → Follows w s → Follows w (record { size = s.size; kept = dropped n s.kept })
follows_dropped n w s f =
    let F : List ChunkStream → Type 0 = λ kept. Follows w (record { size = s.size; kept = kept }) in
    subst F (sym (drop_none n s.kept f.empty)) f

told_case : (first full second : Bool) (n : ℕ) (w : WriterKnown) (s : State) → Follows w s → ((first && full) ≡ true → 1 ≤ n)
    → Follows (cond (first && full) (sized n w) w) (cond (not full) s (cond first (record { size = n; kept = s.kept }) (cond second (record { size = s.size; kept = dropped n s.kept }) s)))
told_case true true second n w s f some = follows_sized n w s f (some refl)
told_case true false second n w s f some = f
told_case false true true n w s f some = follows_dropped n w s f
told_case false true false n w s f some = f
told_case false false second n w s f some = f

-- a size that is taken isn't 0
size_some : (a b : Bool) (v : ℕ) → cond (a && (b && (nat_eq v 0 || nat_le (2 ^ 31) v))) (Some v) None ≡ None → (a && b) ≡ true → 1 ≤ v
size_some true true v e t = grind (arith, nat_tests)
size_some true false v e t = absurd (cc)
size_some false b v e t = absurd (cc)

sized_some : (m : Message) → refused_size m ≡ None → (nat_eq m.kind 1 && nat_le 4 (length m.body)) ≡ true → 1 ≤ be32_of m.body
unfolding refused_size
sized_some m e t = size_some (nat_eq m.kind 1) (nat_le 4 (length m.body)) (be32_of m.body) e t

not_short : (n : ℕ) → nat_lt n 4 ≡ not (nat_le 4 n)
not_short n = grind (arith, nat_tests)

-- a message that says something of the chunks after it is taken by both alike
pub follows_resized : (w : WriterKnown) (s : State) (m : Message) → Follows w s → refused_size m ≡ None → Follows (resized_by m w) (by_message m s)
unfolding by_message resized_by
follows_resized w s m f sized =
    rw (not_short (length m.body)) (told_case (nat_eq m.kind 1) (nat_le 4 (length m.body)) (nat_eq m.kind 2) (be32_of m.body) w s f (sized_some m sized))
