-- The first of the messages that are written, whose chunks have the first bytes
use Rattle.std.proofs.Common.{◌≡◌, ◌⊎◌, inl, inr, ℕ, zero, suc, ◌+◌, ◌-◌, ◌*◌, ◌<◌, ◌≤◌, ◌^◌, List, [], ◌∷◌, ◌++◌, length, take, drop, refl, sym, ap, ◌∙◌}
use Rattle.std.proofs.Common.{arith}
use Rattle.std.proofs.Common.{append-nil, append_assoc, length-append}
use Rattle.std.proofs.lemmas.Bool.{cases_lt}
use Rattle.std.proofs.lemmas.List.{drop-append-le, length-drop, take-append-drop, take-append-le}
use Rattle.std.proofs.Math.Seq.{drop-append_seam, take-append_seam}
use Rattle.chunk_law.specs.ReadBack.{AreReadable}
use Rattle.chunk_wire.specs.declared.message.Message.{Message}
use Rattle.chunk_writer.specs.Rule.{begun_in}
use Rattle.chunk_writer.specs.WriterKnown.{WriterKnown}
use Rattle.chunk_writer.specs.Written.{bytes_of, header_with, next, spread, written}
use Rattle.rtmp_client.proofs.Lengths.{header_most}

-- ---- how many bytes a message has as chunks

spread_most : (h : List ℕ) (size room : ℕ) (body : List ℕ) → length h ≤ 18 → length (spread h size room body) ≤ 19 * length body
unfolding spread
spread_most h size room [] l = omega arith
spread_most h size zero (b ∷ body) l = omega (arith, l, spread_most h size (size - 1) body l, length-append h (b ∷ spread h size (size - 1) body))
spread_most h size (suc room) (b ∷ body) l = omega (arith, spread_most h size room body l)

bytes_most : (w : WriterKnown) (m : Message) → length m.body < 2 ^ 24 → length (bytes_of w m) ≤ 2 ^ 30
unfolding bytes_of
bytes_most w m s =
    let b = begun_in w.said m in
    let h = header_with 3 b in
    omega (
      arith,
      s,
      header_most b.format b,
      spread_most h w.size w.size m.body (header_most 3 b),
      length-append (header_with b.format b) (spread h w.size w.size m.body),
    )

-- ---- two ends of the same bytes

front_is : (a b r s : List ℕ) → a ++ r ≡ b ++ s → length a ≤ length b → a ++ drop (length a) b ≡ b
front_is a b r s e l =
    let f : a ≡ take (length a) b = sym (take-append_seam a r) ∙ ap (take (length a)) e ∙ take-append-le (length a) b s l in
    ap (λ (x : List ℕ). x ++ drop (length a) b) f ∙ take-append-drop (length a) b

back_is : (a b r s : List ℕ) → a ++ r ≡ b ++ s → length a ≤ length b → r ≡ drop (length a) b ++ s
back_is a b r s e l = sym (drop-append_seam a r) ∙ ap (drop (length a)) e ∙ drop-append-le (length a) b s l

-- the chunks of these have all the bytes b, and not many more
pub record IsEnough (max : ℕ) (w : WriterKnown) (b : List ℕ) (M : List Message) : Type 0 where
  pub first : List Message
  pub later : List Message
  pub parts : first ++ later ≡ M
  pub rest : List ℕ
  pub bytes : b ++ rest ≡ written w first
  pub few : length (written w first) ≤ length b + 2 ^ 30
  pub readable : AreReadable max first

pub enough : (max : ℕ) (w : WriterKnown) (M : List Message) (b rest : List ℕ) → b ++ rest ≡ written w M → AreReadable max M → IsEnough max w b M
unfolding written
enough max w [] b rest e a = record { first = []; later = []; parts = refl; rest = rest; bytes = e; few = omega arith; readable = tt }
enough max w (m ∷ M) b rest e a = by_length (λ c f. enough max (next w m) M c rest f a.1) (cases_lt (length (bytes_of w m)) (length b))
  where
    B : List ℕ
    B = bytes_of w m

    by_length : ((c : List ℕ) → c ++ rest ≡ written (next w m) M → IsEnough max (next w m) c M) → (length B < length b) ⊎ (length b ≤ length B)
        → IsEnough max w b (m ∷ M)
    by_length more (inr l) = record {
      first = m ∷ [];
      later = M;
      parts = refl;
      rest = drop (length b) B;
      bytes = front_is b B rest (written (next w m) M) e l ∙ sym (append-nil B);
      few = omega (arith, bytes_most w m a.0.short, length-append B []);
      readable = (a.0, tt);
    }
    by_length more (inl l) =
        let c = drop (length B) b in
        let r = more c (sym (back_is B b (written (next w m) M) rest (sym e) (omega (arith, l)))) in
        record {
          first = m ∷ r.first;
          later = r.later;
          parts = ap (λ (x : List Message). m ∷ x) r.parts;
          rest = r.rest;
          bytes = ap (λ (x : List ℕ). x ++ r.rest) (sym (front_is B b (written (next w m) M) rest (sym e) (omega (arith, l)))) ∙ append_assoc B c r.rest
              ∙ ap (λ (x : List ℕ). B ++ x) r.bytes;
          few = omega (arith, r.few, l, length-drop (length B) b, length-append B (written (next w m) r.first));
          readable = (a.0, r.readable);
        }
