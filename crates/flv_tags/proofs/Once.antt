-- Bytes read in one way
use Rattle.std.proofs.Common.{◌≡◌, ℕ, ◌+◌, inl, inr, List, ◌++◌, ◌∷◌, [], length, take, map, refl, sym, ap, ◌∙◌, arith}
use Rattle.std.proofs.Common.{append_assoc, length-append}
use Rattle.std.proofs.lemmas.List.{append_cancel_left, take_at}
use Rattle.std.specs.List.{AllByRecursion, concat}
use Rattle.flv_tags.specs.declared.tag.Tag.{Tag}
use Rattle.flv_tags.specs.Layout.{size_in, tag_in}
use Rattle.flv_tags.specs.Reads.{InTags, IsOpen, IsTag, Reads}
use Rattle.flv_tags.specs.Laws.{SameReading}
use Rattle.flv_tags.proofs.More.{size_more}
use Rattle.flv_tags.proofs.Reading.{in_tags_long}

-- the bytes of a tag tell where it ends, whatever follows
ends : (c x : List ℕ) → IsTag c → size_in (c ++ x) + 15 ≡ length c
ends c x i = let w = i.whole in ap (λ (n : ℕ). n + 15) (size_more c x (omega arith)) ∙ sym w

-- less than a tag doesn't begin with a tag
pub no_tag : (c x q : List ℕ) → IsTag c → q ≡ c ++ x → IsOpen q → ⊥
no_tag c x q i e o =
    let z = ends c x i in
    let n : size_in q ≡ size_in (c ++ x) = ap size_in e in
    let l : length q ≡ length c + length x = ap length e ∙ length-append c x in
    let s = o.short in
    omega arith

pub same_cut : (c d x y : List ℕ) → length c ≡ length d → c ++ x ≡ d ++ y → (c ≡ d) × (x ≡ y)
same_cut c d x y l e =
    let q : c ≡ d = sym (take_at c x (length c) refl) ∙ ap (take (length c)) e ∙ take_at d y (length c) (sym l) in
    (q, append_cancel_left c x y (e ∙ ap (λ (v : List ℕ). v ++ y) (sym q)))

pub same_front : (c d x y : List ℕ) → IsTag c → IsTag d → c ++ x ≡ d ++ y → (c ≡ d) × (x ≡ y)
same_front c d x y i j e =
    let l : length c ≡ length d = sym (ends c x i) ∙ ap (λ (b : List ℕ). size_in b + 15) e ∙ ends d y j in
    same_cut c d x y l e

same_parts : (cs ds : List (List ℕ)) (q r : List ℕ) → AllByRecursion IsTag cs → AllByRecursion IsTag ds → IsOpen q → IsOpen r
    → concat cs ++ q ≡ concat ds ++ r → (cs ≡ ds) × (q ≡ r)
same_parts [] [] q r a b o p e = (refl, e)
same_parts [] (d ∷ ds) q r a b o p e = absurd (no_tag d (concat ds ++ r) q b.0 (e ∙ append_assoc d (concat ds) r) o)
same_parts (c ∷ cs) [] q r a b o p e = absurd (no_tag c (concat cs ++ q) r a.0 (sym e ∙ append_assoc c (concat cs) q) p)
same_parts (c ∷ cs) (d ∷ ds) q r a b o p e =
    let f = same_front c d (concat cs ++ q) (concat ds ++ r) a.0 b.0 (sym (append_assoc c (concat cs) q) ∙ e ∙ append_assoc d (concat ds) r) in
    let g = same_parts cs ds q r a.1 b.1 o p f.1 in
    (ap (λ v. v ∷ cs) f.0 ∙ ap (λ v. d ∷ v) g.0, g.1)

-- the bytes after the header
pub after_head : (b : List ℕ) (tags : List Tag) (r : List ℕ) (i : InTags b tags r) → b ≡ i.is_file.head ++ (concat i.is_file.parts ++ r)
after_head b tags r i = i.bytes ∙ ap (λ (t : List ℕ). t ++ r) i.is_file.bytes ∙ append_assoc i.is_file.head (concat i.is_file.parts) r

tags_once : (b : List ℕ) (ts us : List Tag) (q r : List ℕ) → InTags b ts q → InTags b us r → SameReading ts us q r
tags_once b ts us q r x y =
    let f = x.is_file in
    let g = y.is_file in
    let heads = same_cut f.head g.head (concat f.parts ++ q) (concat g.parts ++ r) (f.head_whole ∙ sym g.head_whole) (sym (after_head b ts q x)
    ∙ after_head b us r y) in
    let p = same_parts f.parts g.parts q r f.each g.each x.rest y.rest heads.1 in
    record { tags_same = f.tags_are ∙ ap (map tag_in) p.0 ∙ sym g.tags_are; rest_same = p.1 }

pub one_reading : (b : List ℕ) (ts us : List Tag) (q r : List ℕ) → Reads b ts q → Reads b us r → SameReading ts us q r
one_reading b ts us q r (inl x) (inl y) = record { tags_same = x.none ∙ sym y.none; rest_same = x.all ∙ sym y.all }
one_reading b ts us q r (inl x) (inr y) = absurd (omega (arith, x.short, in_tags_long b us r y))
one_reading b ts us q r (inr x) (inl y) = absurd (omega (arith, y.short, in_tags_long b ts q x))
one_reading b ts us q r (inr x) (inr y) = tags_once b ts us q r x y
