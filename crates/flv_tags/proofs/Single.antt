-- One list of bytes is refused once
use Rattle.std.proofs.Common.{◌≡◌, ℕ, ◌+◌, ◌<◌, ◌⊎◌, inl, inr, List, ◌++◌, ◌∷◌, [], length, take, drop, slice_index}
use Rattle.std.proofs.Common.{refl, sym, ap, ◌∙◌, subst, arith}
use Rattle.std.proofs.lemmas.List.{length-take, take-append-drop, take-append-le}
use Rattle.std.proofs.lemmas.Bool.{cases_lt}
use Rattle.flv_tags.specs.declared.tag.Tag.{Tag}
use Rattle.flv_tags.specs.declared.fail.FlvFail.{FlvFail}
use Rattle.flv_tags.specs.declared.fail.FlvFail.TheVariants.{BadHeader, BadTag, BadBack, OutOfMemory}
use Rattle.flv_tags.specs.Reads.{Reads}
use Rattle.flv_tags.specs.Stops.{BadCount, BadKind, Refuses, RefusesHeader, RefusesTag, Stops, TooLong}
use Rattle.flv_tags.specs.Laws.{SameStop}
use Rattle.flv_tags.proofs.Reading.{in_tags_long}
use Rattle.flv_tags.proofs.Once.{one_reading}
use Rattle.flv_tags.proofs.Apart.{refused_not_read}

-- a byte of a tag is refused for one cause
few_not_last : (r : List ℕ) → BadKind r ⊎ TooLong r → BadCount r → ⊥
few_not_last r (inl k) c = omega (arith, k.first, c.last)
few_not_last r (inr l) c = omega (arith, l.fourth, c.last)

same_tag : (start : ℕ) (r : List ℕ) (c d : FlvFail) → RefusesTag start r c → RefusesTag start r d → c ≡ d
same_tag start r (BadHeader at) d f g = absurd f
same_tag start r (BadTag at) (BadHeader at2) f g = absurd g
same_tag start r (BadTag at) (BadTag at2) f g = ap BadTag (f.0 ∙ sym g.0)
same_tag start r (BadTag at) (BadBack at2 stored real) f g = absurd (few_not_last r f.1 g.3)
same_tag start r (BadTag at) OutOfMemory f g = absurd g
same_tag start r (BadBack at stored real) (BadHeader at2) f g = absurd g
same_tag start r (BadBack at stored real) (BadTag at2) f g = absurd (few_not_last r g.1 f.3)
same_tag start r (BadBack at stored real) (BadBack at2 stored2 real2) f g =
    let p : at ≡ at2 = f.0 ∙ sym g.0 in
    let s : stored ≡ stored2 = f.1 ∙ sym g.1 in
    let q : real ≡ real2 = f.2 ∙ sym g.2 in
    cc
same_tag start r (BadBack at stored real) OutOfMemory f g = absurd g
same_tag start r OutOfMemory d f g = absurd f

same_header : (n byte : ℕ) (c d : FlvFail) → RefusesHeader n byte c → RefusesHeader n byte d → c ≡ d
same_header n byte (BadHeader at) (BadHeader at2) f g = ap BadHeader (f.0 ∙ sym g.0)
same_header n byte (BadHeader at) (BadTag at2) f g = absurd g
same_header n byte (BadHeader at) (BadBack at2 stored real) f g = absurd g
same_header n byte (BadHeader at) OutOfMemory f g = absurd g
same_header n byte (BadTag at) d f g = absurd f
same_header n byte (BadBack at stored real) d f g = absurd f
same_header n byte OutOfMemory d f g = absurd f

-- what a refusal reads before its byte
read_before : (b : List ℕ) (ts : List Tag) (byte : ℕ) (e : FlvFail) → Refuses b ts byte e → (r : List ℕ) × Reads b ts r
read_before b ts byte e (inl h) = (h.0, inl h.1)
read_before b ts byte e (inr t) = (t.1.0, inr t.1.1)

same_fail : (b : List ℕ) (ts us : List Tag) (byte : ℕ) (c d : FlvFail) → Refuses b ts byte c → Refuses b us byte d → c ≡ d
same_fail b ts us byte c d (inl f) (inl g) = same_header (length b) byte c d f.2 g.2
same_fail b ts us byte c d (inl f) (inr g) = absurd (omega (arith, f.1.short, in_tags_long b us g.1.0 g.1.1))
same_fail b ts us byte c d (inr f) (inl g) = absurd (omega (arith, g.1.short, in_tags_long b ts f.1.0 f.1.1))
same_fail b ts us byte c d (inr f) (inr g) =
    let s = one_reading b ts us f.1.0 g.1.0 (inr f.1.1) (inr g.1.1) in
    let n : length f.1.0 ≡ length g.1.0 = ap length s.rest_same in
    let e : g.0 ≡ f.0 = omega (arith, f.1.2, g.1.2, n) in
    let P : List ℕ → Type 0 = λ r. RefusesTag g.0 (r ++ byte ∷ []) d in
    let Q : ℕ → Type 0 = λ k. RefusesTag k (f.1.0 ++ byte ∷ []) d in
    same_tag f.0 (f.1.0 ++ byte ∷ []) c d f.1.3 (subst Q e (subst P (sym s.rest_same) g.1.3))

-- bytes refused at one place are not read up to a later one
not_earlier : (b : List ℕ) (c d : FlvFail) (m n : ℕ) (ts us : List Tag) → Stops b m ts c → Stops b n us d → m < n → ⊥
not_earlier b c d m n ts us x y lt =
    let front : take (m + 1) (take n b) ≡ take (m + 1) b = sym (take-append-le (m + 1) (take n b) (drop n b) (omega (
      arith,
      length-take n b,
      y.there,
      lt,
    ))) ∙ ap (take (m + 1)) (take-append-drop n b) in
    let e : take n b ≡ take (m + 1) b ++ drop (m + 1) (take n b) = sym (take-append-drop (m + 1) (take n b))
    ∙ ap (λ (u : List ℕ). u ++ drop (m + 1) (take n b)) front in
    let before = read_before (take n b) us (slice_index b n) d y.refused in
    let P : List ℕ → Type 0 = λ u. Reads u us before.0 in
    refused_not_read b (drop (m + 1) (take n b)) c m ts us before.0 x (subst P e before.1)

at_one_place : (b : List ℕ) (c d : FlvFail) (n : ℕ) (ts us : List Tag) → Stops b n ts c → Stops b n us d → SameStop c d n n ts us
at_one_place b c d n ts us x y =
    let p = read_before (take n b) ts (slice_index b n) c x.refused in
    let q = read_before (take n b) us (slice_index b n) d y.refused in
    let s = one_reading (take n b) ts us p.0 q.0 p.1 q.1 in
    record { fail_same = same_fail (take n b) ts us (slice_index b n) c d x.refused y.refused; place_same = refl; tags_same = s.tags_same }

pub one_stop : (b : List ℕ) (c d : FlvFail) (m n : ℕ) (ts us : List Tag) → Stops b m ts c → Stops b n us d → SameStop c d m n ts us
one_stop b c d m n ts us x y = elim (cases_lt m n) [
  | inl lt ↦ absurd (not_earlier b c d m n ts us x y lt)
  | inr le ↦ elim (cases_lt n m) [
    | inl lt ↦ absurd (not_earlier b d c n m us ts y x lt)
    | inr ge ↦ (
        let e : n ≡ m = omega (arith, le, ge) in
        let S : ℕ → Type 0 = λ k. Stops b k us d in
        let T : ℕ → Type 0 = λ k. SameStop c d m k ts us in
        subst T (sym e) (at_one_place b c d m ts us x (subst S e y)))
  ]
]
