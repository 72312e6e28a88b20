-- Byte streams of units, one after another
use Rattle.std.proofs.Common.{◌≡◌, ℕ, ◌+◌, ◌-◌, ◌<◌, ◌≤◌, Bool, true, false, List, [], ◌∷◌, ◌++◌, length, Ok, Err, refl, sym, ap, ◌∙◌, arith, append_assoc, length-append}
use Rattle.std.specs.Prelude.{◌==◌, if◌then◌else◌}
use Rattle.std.proofs.lemmas.List.{append-nil}
use Rattle.avc_annexb.specs.declared.fail.AvcFail.{AvcFail}
use Rattle.avc_annexb.specs.declared.fail.AvcFail.TheVariants.{PastEnd}
use Rattle.avc_annexb.specs.Nal.{nal_type}
use Rattle.avc_annexb.specs.Prefixed.{IsSize, front_of}
use Rattle.avc_annexb.specs.AnnexB.{started, annexb, but_delimiters, kept_of, behind}
use Rattle.avc_annexb.proofs.Units.{Walks, starts, moves, refused, ended, rest_shorter}

pub annexb_append : (xs ys : List (List ℕ)) → annexb (xs ++ ys) ≡ annexb xs ++ annexb ys
annexb_append [] ys = refl
annexb_append (x ∷ xs) ys = ap (λ (t : List ℕ). started x ++ t) (annexb_append xs ys) ∙ sym (append_assoc (started x) (annexb xs) (annexb ys))

kept_one : (t : Bool) (x : List ℕ) (xs ys : List (List ℕ)) → (if t then xs ++ ys else x ∷ (xs ++ ys)) ≡ (if t then xs else x ∷ xs) ++ ys
kept_one true x xs ys = refl
kept_one false x xs ys = refl

pub kept_append : (xs ys : List (List ℕ)) → but_delimiters (xs ++ ys) ≡ but_delimiters xs ++ but_delimiters ys
kept_append [] ys = refl
kept_append (x ∷ xs) ys = rw (kept_append xs ys) (kept_one (nal_type x == 9) x (but_delimiters xs) (but_delimiters ys))

-- where a walk stands whose units were appended
pub record Puts (size : ℕ) (bytes left : List ℕ) (nal : ℕ) (old new : List ℕ) : Type 0 where
  pub units : List (List ℕ)
  pub walks : Walks size bytes left units
  pub count : nal ≡ length units
  pub room : nal + length left ≤ length bytes
  pub text : new ≡ old ++ annexb (but_delimiters units)

pub puts_start : (size : ℕ) (bytes old : List ℕ) → Puts size bytes bytes 0 old old
puts_start size bytes old = record { units = []; walks = starts size bytes; count = refl; room = omega arith; text = sym (append-nil old) }

pub puts_more : (size n : ℕ) (bytes left u rest old new out : List ℕ) → IsSize size → 0 < length left → front_of (PastEnd (length bytes - length left)) n size left ≡ Ok (u, rest)
    → out ≡ new ++ annexb (but_delimiters (u ∷ [])) → Puts size bytes left n old new → Puts size bytes rest (n + 1) old out
puts_more size n bytes left u rest old new out fits some e is p =
    let less = rest_shorter (PastEnd (length bytes - length left)) size n left u rest fits e in
    let both : annexb (but_delimiters (p.units ++ u ∷ [])) ≡ annexb (but_delimiters p.units) ++ annexb (but_delimiters (u ∷ [])) =
    ap annexb (kept_append p.units (u ∷ [])) ∙ annexb_append (but_delimiters p.units) (but_delimiters (u ∷ [])) in
    record {
      units = p.units ++ u ∷ [];
      walks = moves size n bytes left u rest p.units (p.units ++ u ∷ []) fits p.count some e refl p.walks;
      count = sym (length-append p.units (u ∷ []) ∙ omega (arith, p.count));
      room = omega (arith, p.room);
      text = is ∙ ap (λ (t : List ℕ). t ++ annexb (but_delimiters (u ∷ []))) p.text ∙ append_assoc old (annexb (but_delimiters p.units)) (annexb (but_delimiters (u ∷ [])))
          ∙ ap (λ (t : List ℕ). old ++ t) (sym both);
    }

pub puts_refused : (size n : ℕ) (bytes left old new : List ℕ) (f : AvcFail) → 0 < length left
    → front_of (PastEnd (length bytes - length left)) n size left ≡ Err f → Puts size bytes left n old new → kept_of size bytes ≡ Err f
puts_refused size n bytes left old new f some e p = rw (refused size n bytes left p.units f p.count some e p.walks) refl

pub puts_ended : (size n : ℕ) (bytes left old new : List ℕ) → length left ≡ 0 → Puts size bytes left n old new → behind old (kept_of size bytes) ≡ Ok new
puts_ended size n bytes left old new e p = rw (ended size bytes left p.units e p.walks) (ap Ok (sym p.text))

-- what stands behind a text is behind what stood before it
pub more_of : (old text new more out : List ℕ) → new ≡ old ++ text → out ≡ new ++ more → (rest : List ℕ) × (out ≡ old ++ rest)
more_of old text new more out e f = (text ++ more, f ∙ ap (λ (t : List ℕ). t ++ more) e ∙ append_assoc old text more)
