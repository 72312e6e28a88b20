-- The first bytes of what is read are read
use Rattle.std.proofs.Common.{◌≡◌, ℕ, ◌+◌, ◌-◌, ◌<◌, ◌≤◌, inl, inr, List, ◌++◌, ◌∷◌, [], length, take, drop, refl, sym, ap, ◌∙◌, subst, arith, append_assoc, length-append}
use Rattle.std.proofs.lemmas.List.{length-take, take-append-drop, take-append-le}
use Rattle.std.proofs.lemmas.Bool.{cases_lt}
use Rattle.std.specs.List.{concat}
use Rattle.chunk_wire.specs.declared.message.Message.{Message}
use Rattle.chunk_wire.specs.Layout.{basic_size, format_in, id_in}
use Rattle.chunk_wire.specs.State.{State, fresh_state}
use Rattle.chunk_wire.specs.Chunk.{chunk_size, header_size, message_of}
use Rattle.chunk_wire.proofs.Sizes.{basic_size_some}
use Rattle.chunk_wire.proofs.Same.{basic_size_same, format_same, id_same, same_append, same_back, same_less}
use Rattle.chunk_reader.specs.Control.{next}
use Rattle.chunk_reader.specs.Laws.{ReadsPart}
use Rattle.chunk_reader.specs.Reads.{Admits, AreChunks, IsChunkWithin, IsOpen, Reads, ended, messages, state_after}
use Rattle.chunk_reader.proofs.Reading.{held_short}
use Rattle.chunk_reader.proofs.Running.{grown}
use Rattle.chunk_reader.proofs.Stopping.{held_more, size_more, take_past}

basic_fore : (p x : List ℕ) → basic_size p ≤ length p → (basic_size p ≡ basic_size (p ++ x)) × (format_in p ≡ format_in (p ++ x)) × (id_in p ≡ id_in (p ++ x))
basic_fore p x le =
    let some = basic_size_some p in
    let same = same_back (length p) (p ++ x) p (same_append p x) in
    let one = same_less 1 (length p) p (p ++ x) (omega arith) same in
    (basic_size_same p (p ++ x) one, format_same p (p ++ x) one, id_same p (p ++ x) (same_less (basic_size p) (length p) p (p ++ x) le same))

-- nothing is refused in the first bytes where nothing is refused in all
admits_part : (max : ℕ) (s : State) (p x : List ℕ) → Admits max s (p ++ x) → Admits max s p
admits_part max s p x a = record {
  room = λ le. (let b = basic_fore p x le in let n = length-append p x in rw (b.1, b.2) (a.room (omega (arith, b.0, n))));
  length = λ le. (let g = grown s p x le in let n = length-append p x in rw g.opened_same (a.length (omega (arith, g.size, n))));
  held = elim (cases_lt (length p) (header_size s p)) [
    | inl short ↦ rw (held_short s p short) a.before
    | inr whole ↦ (let h = held_more s p x whole in omega (arith, h, a.held))
  ];
  before = a.before;
}

open_part : (max : ℕ) (s : State) (p x : List ℕ) → Admits max s (p ++ x) → length p < chunk_size s (p ++ x) → IsOpen max s p
open_part max s p x a short = record {
  admitted = admits_part max s p x a;
  short = elim (cases_lt (length p) (header_size s p)) [
    | inl less ↦ omega (arith, less)
    | inr whole ↦ (let e = size_more s p x whole in omega (arith, e, short))
  ];
}

-- the chunks that stand whole in the first n bytes, and what is left of these
record Part (max n m : ℕ) (s : State) (cs : List (List ℕ)) (r : List ℕ) : Type 0 where
  pub ds : List (List ℕ)
  pub q : List ℕ
  pub are : AreChunks max s ds
  pub opens : IsOpen max (state_after s ds) q
  pub is : take n (concat cs ++ r) ≡ concat ds ++ q
  pub later : List (ℕ × Message)
  pub begins : messages m s cs ≡ messages m s ds ++ later

part_rest : (max n m : ℕ) (s : State) (r : List ℕ) → IsOpen max s r → Part max n m s [] r
part_rest max n m s r o =
    let e : take n r ++ drop n r ≡ r = take-append-drop n r in
    let P : List ℕ → Type 0 = λ t. Admits max s t in
    let Q : List ℕ → Type 0 = λ t. length (take n r) < chunk_size s t in
    let short : length (take n r) < chunk_size s r = omega (arith, length-take n r, o.short) in
    record {
      ds = [];
      q = take n r;
      are = tt;
      opens = open_part max s (take n r) (drop n r) (subst P (sym e) o.admitted) (subst Q (sym e) short);
      is = refl;
      later = [];
      begins = refl;
    }

part_first : (max n m : ℕ) (s : State) (c : List ℕ) (cs : List (List ℕ)) (r : List ℕ) → IsChunkWithin max s c → n < length c → Part max n m s (c ∷ cs) r
part_first max n m s c cs r i less =
    let e : take n c ++ drop n c ≡ c = take-append-drop n c in
    let P : List ℕ → Type 0 = λ t. Admits max s t in
    let Q : List ℕ → Type 0 = λ t. length (take n c) < chunk_size s t in
    let w = i.chunk.whole in
    let short : length (take n c) < chunk_size s c = omega (arith, length-take n c, w, less) in
    record {
      ds = [];
      q = take n c;
      are = tt;
      opens = open_part max s (take n c) (drop n c) (subst P (sym e) i.admitted) (subst Q (sym e) short);
      is = ap (take n) (append_assoc c (concat cs) r) ∙ take-append-le n c (concat cs ++ r) (omega arith);
      later = messages m s (c ∷ cs);
      begins = refl;
    }

part_more : (max k m : ℕ) (s : State) (c : List ℕ) (cs : List (List ℕ)) (r : List ℕ) → IsChunkWithin max s c → Part max k (m + length c) (next s c) cs r → Part max (length c + k) m s (c ∷ cs) r
part_more max k m s c cs r i p = record {
  ds = c ∷ p.ds;
  q = p.q;
  are = (i, p.are);
  opens = p.opens;
  is = ap (take (length c + k)) (append_assoc c (concat cs) r) ∙ take_past c (concat cs ++ r) k ∙ ap (λ (t : List ℕ). c ++ t) p.is ∙ sym (append_assoc c (concat p.ds) p.q);
  later = p.later;
  begins = ap (λ t. ended (m + length c) (message_of s c) ++ t) p.begins ∙ sym (append_assoc (ended (m + length c) (message_of s c)) (messages (m + length c) (next s c) p.ds) p.later);
}

parts : (max n m : ℕ) (s : State) (cs : List (List ℕ)) (r : List ℕ) → AreChunks max s cs → IsOpen max (state_after s cs) r → Part max n m s cs r
parts max n m s [] r a o = part_rest max n m s r o
parts max n m s (c ∷ cs) r a o =
    let rest = parts max (n - length c) (m + length c) (next s c) cs r a.1 o in
    elim (cases_lt n (length c)) [
      | inl less ↦ part_first max n m s c cs r a.0 less
      | inr le ↦ (
          let e : length c + (n - length c) ≡ n = omega arith in
          let P : ℕ → Type 0 = λ k. Part max k m s (c ∷ cs) r in
          subst P e (part_more max (n - length c) m s c cs r a.0 rest))
    ]

pub reads_part : (max : ℕ) (b : List ℕ) (n : ℕ) (ms : List (ℕ × Message)) (s : State) (r : List ℕ) → Reads max b ms s r → ReadsPart max b n ms
reads_part max b n ms s r q =
    let p = parts max n 0 fresh_state q.chunks r q.are_chunks (let O : State → Type 0 = λ u. IsOpen max u r in subst O q.state q.rest) in
    record {
      first = messages 0 fresh_state p.ds;
      later = p.later;
      s = state_after fresh_state p.ds;
      r = p.q;
      reads = record {
        chunks = p.ds;
        are_chunks = p.are;
        whole = ap (take n) q.whole ∙ p.is;
        given = refl;
        state = refl;
        rest = p.opens;
        near = omega (arith, length-take n b, q.near);
      };
      begins = q.given ∙ p.begins;
    }
