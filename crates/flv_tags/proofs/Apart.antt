-- Bytes that are refused are not read
use Rattle.std.proofs.Common.{◌≡◌, ℕ, ◌+◌, ◌-◌, inl, inr, true, false, List, ◌++◌, ◌∷◌, [], length, take, slice_index, refl}
use Rattle.std.proofs.Common.{sym, ap, ◌∙◌, subst, arith, append_assoc, append-nil, length-append}
use Rattle.std.proofs.lemmas.List.{get_or-append_right, length-take, take-append-le, take_all, take_at, take_more}
use Rattle.std.proofs.lemmas.Bool.{cases_lt}
use Rattle.std.specs.List.{AllByRecursion, concat}
use Rattle.flv_tags.specs.declared.tag.Tag.{Tag}
use Rattle.flv_tags.specs.declared.fail.FlvFail.{FlvFail}
use Rattle.flv_tags.specs.declared.fail.FlvFail.TheVariants.{BadHeader, BadTag, BadBack, OutOfMemory}
use Rattle.flv_tags.specs.Reads.{Admits, InTags, IsOpen, IsTag, Reads}
use Rattle.flv_tags.specs.Stops.{Refuses, RefusesHeader, RefusesTag, Stops}
use Rattle.flv_tags.proofs.Reading.{empty_is, in_tags_long}
use Rattle.flv_tags.proofs.Once.{after_head, no_tag, same_cut, same_front}
use Rattle.flv_tags.proofs.Beginnings.{read_as_header, reads_part, take_past}

-- one byte after less than a tag: still less, or a tag
one_byte : (r d z : List ℕ) (y : ℕ) → IsOpen r → IsTag d → r ++ y ∷ [] ≡ d ++ z → Admits (r ++ y ∷ [])
one_byte r d z y o i e =
    let n : length r + 1 ≡ length d + length z = omega (arith, ap length e, length-append r (y ∷ []), length-append d z) in
    elim (cases_lt (length r) (length d)) [
      | inl less ↦ (
          let none : z ≡ [] = empty_is z (omega arith) in
          let same : d ≡ r ++ y ∷ [] = sym (append-nil d) ∙ ap (λ (t : List ℕ). d ++ t) (sym none) ∙ sym e in
          subst Admits same i.admitted)
      | inr le ↦ (
          let k : length r ≡ length d + (length r - length d) = omega arith in
          let cut : r ≡ d ++ take (length r - length d) z = sym (take_at r (y ∷ []) (length r) refl) ∙ ap (take (length r)) e
          ∙ ap (λ (m : ℕ). take m (d ++ z)) k ∙ take_past d z (length r - length d) in
          absurd (no_tag d (take (length r - length d) z) r i cut o))
    ]

back : (cs ds : List (List ℕ)) (r q : List ℕ) (y : ℕ) → AllByRecursion IsTag cs → IsOpen r → AllByRecursion IsTag ds → IsOpen q
    → concat cs ++ (r ++ y ∷ []) ≡ concat ds ++ q → Admits (r ++ y ∷ [])
back [] [] r q y a o b p e = subst Admits (sym e) p.admitted
back [] (d ∷ ds) r q y a o b p e = one_byte r d (concat ds ++ q) y o b.0 (e ∙ append_assoc d (concat ds) q)
back (c ∷ cs) [] r q y a o b p e = absurd (no_tag c (concat cs ++ (r ++ y ∷ [])) q a.0 (sym e ∙ append_assoc c (concat cs) (r ++ y ∷ [])) p)
back (c ∷ cs) (d ∷ ds) r q y a o b p e =
    let f = same_front c d (concat cs ++ (r ++ y ∷ [])) (concat ds ++ q) a.0 b.0 (sym (append_assoc c (concat cs) (r ++ y ∷ [])) ∙ e
    ∙ append_assoc d (concat ds) q) in
    back cs ds r q y a.1 o b.1 p f.1

-- where one byte more is read, nothing is refused in the tag with that byte
admits_more : (b : List ℕ) (ts us : List Tag) (r q : List ℕ) (y : ℕ) → InTags b ts r → InTags (b ++ y ∷ []) us q → Admits (r ++ y ∷ [])
admits_more b ts us r q y x z =
    let f = x.is_file in
    let g = z.is_file in
    let e : f.head ++ (concat f.parts ++ (r ++ y ∷ [])) ≡ g.head ++ (concat g.parts ++ q) =
    ap (λ (t : List ℕ). f.head ++ t) (sym (append_assoc (concat f.parts) r (y ∷ []))) ∙ sym (append_assoc f.head (concat f.parts ++ r) (y ∷ []))
    ∙ ap (λ (t : List ℕ). t ++ y ∷ []) (sym (after_head b ts r x)) ∙ after_head (b ++ y ∷ []) us q z in
    let cut = same_cut f.head g.head (concat f.parts ++ (r ++ y ∷ [])) (concat g.parts ++ q) (f.head_whole ∙ sym g.head_whole) e in
    back f.parts g.parts r q y f.each x.rest g.each z.rest cut.1

not_tag : (start : ℕ) (r : List ℕ) (e : FlvFail) → Admits r → RefusesTag start r e → ⊥
not_tag start r (BadHeader at) a f = f
not_tag start r (BadTag at) a f = elim f.1 [
  | inl k ↦ (let t = a.kind (omega (arith, k.first)) in let e : true ≡ false = sym t ∙ k.kind in absurd (cc))
  | inr l ↦ (let t = a.fits (omega (arith, l.fourth)) in omega (arith, t, l.long))
]
not_tag start r (BadBack at stored real) a f = f.3.wrong (a.back (omega (arith, f.3.last)))
not_tag start r OutOfMemory a f = f

not_header : (b : List ℕ) (y : ℕ) (us : List Tag) (q : List ℕ) (e : FlvFail) → Reads (b ++ y ∷ []) us q → RefusesHeader (length b) y e → ⊥
not_header b y us q (BadHeader at) x f =
    let n : length (b ++ y ∷ []) ≡ length b + 1 = length-append b (y ∷ []) in
    let z : length b - length b ≡ 0 = omega arith in
    let last : slice_index (b ++ y ∷ []) (length b) ≡ y = get_or-append_right b (y ∷ []) (length b) (length b) 0 refl (omega arith)
    ∙ ap (slice_index (y ∷ [])) z in
    f.3 (sym last ∙ read_as_header (b ++ y ∷ []) us q x (length b) (omega arith) f.1 f.2)
not_header b y us q (BadTag at) x f = f
not_header b y us q (BadBack at stored real) x f = f
not_header b y us q OutOfMemory x f = f

-- with one byte more the bytes up to a refusal read no more
not_more : (b : List ℕ) (ts us : List Tag) (q : List ℕ) (y : ℕ) (e : FlvFail) → Reads (b ++ y ∷ []) us q → Refuses b ts y e → ⊥
not_more b ts us q y e x (inl h) = not_header b y us q e x h.2
not_more b ts us q y e (inl x) (inr t) = omega (arith, x.short, in_tags_long b ts t.1.0 t.1.1, length-append b (y ∷ []))
not_more b ts us q y e (inr x) (inr t) = not_tag t.0 (t.1.0 ++ y ∷ []) e (admits_more b ts us t.1.0 q y t.1.1 x) t.1.3

pub refused_not_read : (b more : List ℕ) (e : FlvFail) (n : ℕ) (ts us : List Tag) (q : List ℕ) → Stops b n ts e → Reads (take (n + 1) b ++ more) us q → ⊥
refused_not_read b more e n ts us q st x =
    let p = reads_part (take (n + 1) b ++ more) (n + 1) us q x in
    let len : length (take (n + 1) b) ≡ n + 1 = omega (arith, length-take (n + 1) b, st.there) in
    let front : take (n + 1) (take (n + 1) b ++ more) ≡ take n b ++ slice_index b n ∷ [] =
    take-append-le (n + 1) (take (n + 1) b) more (omega (arith, len)) ∙ take_all (n + 1) (take (n + 1) b) (omega (arith, len))
    ∙ take_more b n 0 st.there in
    let P : List ℕ → Type 0 = λ u. Reads u p.first p.r in
    let z : Reads (take n b ++ slice_index b n ∷ []) p.first p.r = subst P front p.reads in
    not_more (take n b) ts p.first p.r (slice_index b n) e z st.refused
