-- The first bytes of what is read are read
use Rattle.std.proofs.Common.{◌≡◌, ℕ, ◌+◌, ◌-◌, ◌<◌, ◌≤◌, inl, inr, List, ◌++◌, ◌∷◌, [], length, take, drop, map, refl, sym, ap}
use Rattle.std.proofs.Common.{suc, ◌∙◌, subst, arith, append_assoc, length-append}
use Rattle.std.proofs.lemmas.List.{get_or-take, get_or_append_left, length-take, take-append-drop, take-append-le, map-append}
use Rattle.std.proofs.lemmas.Bool.{cases_lt}
use Rattle.std.specs.List.{AllByRecursion, concat}
use Rattle.flv_tags.specs.declared.tag.Tag.{Tag}
use Rattle.flv_tags.specs.Layout.{tag_in, tag_size}
use Rattle.flv_tags.specs.Reads.{Admits, InTags, IsAsHeader, IsOpen, IsTag, Reads}
use Rattle.flv_tags.specs.Laws.{ReadsPart}
use Rattle.flv_tags.proofs.More.{back_more, kind_more, size_more}
use Rattle.flv_tags.proofs.Once.{after_head}

pub take_past : (c x : List ℕ) (k : ℕ) → take (length c + k) (c ++ x) ≡ c ++ take k x
take_past [] x k = let e : length {A = ℕ} [] + k ≡ k = omega arith in ap (λ (n : ℕ). take n x) e
take_past (y ∷ c) x k = let e : length (y ∷ c) + k ≡ suc (length c + k) = omega arith in ap (λ (n : ℕ). take n (y ∷ (c ++ x))) e
    ∙ ap (λ (t : List ℕ). y ∷ t) (take_past c x k)

-- nothing is refused in the first bytes where nothing is refused in all
admits_part : (p x : List ℕ) → Admits (p ++ x) → Admits p
admits_part p x a =
    let n = length-append p x in
    record {
      kind = λ h. rw (sym (kind_more p x h)) (a.kind (omega arith));
      fits = λ h. (let s = size_more p x h in let f = a.fits (omega arith) in omega arith);
      back = λ h. (let s = size_more p x (omega arith) in let b = back_more p x h in let f = a.back (omega arith) in omega arith);
    }

open_part : (p x : List ℕ) → Admits (p ++ x) → length p < tag_size (p ++ x) → IsOpen p
open_part p x a short = record {
  admitted = admits_part p x a;
  short = elim (cases_lt (length p) 4) [
    | inl less ↦ omega arith
    | inr whole ↦ (let s = size_more p x whole in omega arith)
  ];
}

-- the tags that stand whole in the first n bytes, and what is left of these
record Part (n : ℕ) (cs : List (List ℕ)) (r : List ℕ) : Type 0 where
  pub ds : List (List ℕ)
  pub later : List (List ℕ)
  pub q : List ℕ
  pub are : AllByRecursion IsTag ds
  pub opens : IsOpen q
  pub is : take n (concat cs ++ r) ≡ concat ds ++ q
  pub begins : cs ≡ ds ++ later

open_take : (n : ℕ) (r : List ℕ) → Admits r → length (take n r) < tag_size r → IsOpen (take n r)
open_take n r a short =
    let e : take n r ++ drop n r ≡ r = take-append-drop n r in
    let P : List ℕ → Type 0 = λ t. length (take n r) < tag_size t in
    open_part (take n r) (drop n r) (subst Admits (sym e) a) (subst P (sym e) short)

part_rest : (n : ℕ) (r : List ℕ) → IsOpen r → Part n [] r
part_rest n r o =
    let short : length (take n r) < tag_size r = omega (arith, length-take n r, o.short) in
    record { ds = []; later = []; q = take n r; are = tt; opens = open_take n r o.admitted short; is = refl; begins = refl }

part_first : (n : ℕ) (c : List ℕ) (cs : List (List ℕ)) (r : List ℕ) → IsTag c → n < length c → Part n (c ∷ cs) r
part_first n c cs r i less =
    let w = i.whole in
    let short : length (take n c) < tag_size c = omega (arith, length-take n c, w, less) in
    record {
      ds = [];
      later = c ∷ cs;
      q = take n c;
      are = tt;
      opens = open_take n c i.admitted short;
      is = ap (take n) (append_assoc c (concat cs) r) ∙ take-append-le n c (concat cs ++ r) (omega arith);
      begins = refl;
    }

part_more : (k : ℕ) (c : List ℕ) (cs : List (List ℕ)) (r : List ℕ) → IsTag c → Part k cs r → Part (length c + k) (c ∷ cs) r
part_more k c cs r i p = record {
  ds = c ∷ p.ds;
  later = p.later;
  q = p.q;
  are = (i, p.are);
  opens = p.opens;
  is = ap (take (length c + k)) (append_assoc c (concat cs) r) ∙ take_past c (concat cs ++ r) k ∙ ap (λ (t : List ℕ). c ++ t) p.is
      ∙ sym (append_assoc c (concat p.ds) p.q);
  begins = ap (λ v. c ∷ v) p.begins;
}

parts : (n : ℕ) (cs : List (List ℕ)) (r : List ℕ) → AllByRecursion IsTag cs → IsOpen r → Part n cs r
parts n [] r a o = part_rest n r o
parts n (c ∷ cs) r a o =
    let rest = parts (n - length c) cs r a.1 o in
    elim (cases_lt n (length c)) [
      | inl less ↦ part_first n c cs r a.0 less
      | inr le ↦ (
          let e : length c + (n - length c) ≡ n = omega arith in
          let P : ℕ → Type 0 = λ k. Part k (c ∷ cs) r in
          subst P e (part_more (n - length c) c cs r a.0 rest))
    ]

-- what is read is as the header
as_header_front : (h x : List ℕ) → 9 ≤ length h → IsAsHeader h → IsAsHeader (h ++ x)
as_header_front h x nine a i l small four = get_or_append_left h x 0 i (omega arith) ∙ a i (omega arith) small four

pub read_as_header : (b : List ℕ) (tags : List Tag) (r : List ℕ) → Reads b tags r → IsAsHeader b
read_as_header b tags r (inl x) = x.as_header
read_as_header b tags r (inr x) =
    let whole = x.is_file.head_whole in
    subst IsAsHeader (sym (after_head b tags r x)) (as_header_front x.is_file.head (concat x.is_file.parts ++ r) (omega arith) x.is_file.head_is)

as_header_take : (n : ℕ) (b : List ℕ) → IsAsHeader b → IsAsHeader (take n b)
as_header_take n b a i l nine four =
    let m = length-take n b in
    get_or-take n b i 0 (omega arith) ∙ a i (omega arith) nine four

few_read : (b : List ℕ) (n : ℕ) (tags : List Tag) → IsAsHeader b → length (take n b) < 13 → ReadsPart b n tags
few_read b n tags a less = record {
  first = [];
  later = tags;
  r = take n b;
  reads = inl (record { short = less; as_header = as_header_take n b a; none = refl; all = refl });
  begins = refl;
}

many_read : (b : List ℕ) (k : ℕ) (tags : List Tag) (r : List ℕ) (x : InTags b tags r) → ReadsPart b (length x.is_file.head + k) tags
many_read b k tags r x =
    let f = x.is_file in
    let p = parts k f.parts r f.each x.rest in
    let front : take (length f.head + k) b ≡ f.head ++ (concat p.ds ++ p.q) =
    ap (take (length f.head + k)) (after_head b tags r x) ∙ take_past f.head (concat f.parts ++ r) k ∙ ap (λ (t : List ℕ). f.head ++ t) p.is in
    record {
      first = map tag_in p.ds;
      later = map tag_in p.later;
      r = p.q;
      reads = inr (record {
        file = f.head ++ concat p.ds;
        is_file = record { head = f.head; parts = p.ds; head_whole = f.head_whole; head_is = f.head_is; each = p.are; bytes = refl; tags_are = refl };
        bytes = front ∙ sym (append_assoc f.head (concat p.ds) p.q);
        rest = p.opens;
      });
      begins = f.tags_are ∙ ap (map tag_in) p.begins ∙ map-append tag_in p.ds p.later;
    }

pub reads_part : (b : List ℕ) (n : ℕ) (tags : List Tag) (r : List ℕ) → Reads b tags r → ReadsPart b n tags
reads_part b n tags r (inl x) = few_read b n tags x.as_header (omega (arith, length-take n b, x.short))
reads_part b n tags r (inr x) = elim (cases_lt n 13) [
  | inl less ↦ few_read b n tags (read_as_header b tags r (inr x)) (omega (arith, length-take n b))
  | inr le ↦ (
      let whole = x.is_file.head_whole in
      let e : length x.is_file.head + (n - 13) ≡ n = omega arith in
      let P : ℕ → Type 0 = λ k. ReadsPart b k tags in
      subst P e (many_read b (n - 13) tags r x))
]
