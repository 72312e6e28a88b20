-- What bytes read as, with more bytes
use Rattle.std.proofs.Common.{◌≡◌, ◌≢◌, ℕ, ◌+◌, ◌-◌, ◌<◌, ◌≤◌, inl, inr, true, List, [], ◌∷◌, ◌++◌, length, slice_index, refl, sym, ap}
use Rattle.std.proofs.Common.{◌∙◌, arith, append_assoc, append-nil, length-append}
use Rattle.std.proofs.lemmas.List.{get_or_append_left, get_or-append_right, map-append}
use Rattle.std.proofs.lemmas.List.Folds.{concat-append}
use Rattle.std.proofs.lemmas.Bool.{cases_lt}
use Rattle.std.specs.List.{AllByRecursion, concat}
use Rattle.flv_tags.specs.declared.tag.Tag.{Tag}
use Rattle.flv_tags.specs.Layout.{is_kind, kind_in, most_bytes, size_in, back_in, tag_size, tag_in}
use Rattle.flv_tags.specs.Written.{header}
use Rattle.flv_tags.specs.Reads.{InTags, IsAsHeader, IsFile, IsOpen, IsTag}
use Rattle.flv_tags.proofs.More.{kind_more, size_more}

pub empty_is : (xs : List ℕ) → length xs ≡ 0 → xs ≡ []
empty_is [] e = refl
empty_is (y ∷ ys) e = absurd (omega arith)

pub open_nil : IsOpen []
open_nil = record {
  admitted = record { kind = λ h. absurd (omega arith); fits = λ h. absurd (omega arith); back = λ h. absurd (omega arith) };
  short = omega arith;
}

-- with more bytes there is still less than a tag
pub open_more : (r x : List ℕ) → IsOpen r → 4 ≤ length r → length (r ++ x) < tag_size r → IsOpen (r ++ x)
open_more r x o four short =
    let s = size_more r x four in
    record {
      admitted = record {
        kind = λ _. rw (kind_more r x (omega arith)) (o.admitted.kind (omega arith));
        fits = λ _. rw s (o.admitted.fits four);
        back = λ h. absurd (omega arith);
      };
      short = omega arith;
    }

-- the bytes of a header of a tag, one more
pub open_head : (r : List ℕ) (byte : ℕ) → IsOpen r → length r < 11
    → (length (r ++ byte ∷ []) ≡ 1 → is_kind (kind_in (r ++ byte ∷ [])) ≡ true)
    → (length (r ++ byte ∷ []) ≡ 4 → size_in (r ++ byte ∷ []) ≤ most_bytes)
    → IsOpen (r ++ byte ∷ [])
open_head r byte o early one four =
    let n : length (r ++ byte ∷ []) ≡ length r + 1 = length-append r (byte ∷ []) in
    record {
      admitted = record {
        kind = λ _. elim (cases_lt 0 (length r)) [
          | inl some ↦ rw (kind_more r (byte ∷ []) some) (o.admitted.kind some)
          | inr none ↦ one (omega arith)
        ];
        fits = λ h. elim (cases_lt (length r) 4) [
          | inl less ↦ four (omega arith)
          | inr le ↦ rw (size_more r (byte ∷ []) le) (o.admitted.fits le)
        ];
        back = λ h. absurd (omega arith);
      };
      short = omega arith;
    }

-- the last bytes of a tag
pub tag_last : (r x : List ℕ) → IsOpen r → 4 ≤ length r → length (r ++ x) ≡ tag_size r → back_in (r ++ x) ≡ size_in r + 11 → IsTag (r ++ x)
tag_last r x o four whole back =
    let s = size_more r x four in
    record {
      admitted = record {
        kind = λ _. rw (kind_more r x (omega arith)) (o.admitted.kind (omega arith));
        fits = λ _. rw s (o.admitted.fits four);
        back = λ _. back ∙ ap (λ (n : ℕ). n + 11) (sym s);
      };
      whole = whole ∙ ap (λ (n : ℕ). n + 15) (sym s);
    }

-- a file, and nothing of a tag after it
pub file_stands : (b : List ℕ) (tags : List Tag) → IsFile b tags → InTags b tags []
file_stands b tags f = record { file = b; is_file = f; bytes = sym (append-nil b); rest = open_nil }

-- more bytes of a tag
pub in_tags_more : (b x : List ℕ) (tags : List Tag) (r : List ℕ) → InTags b tags r → IsOpen (r ++ x) → InTags (b ++ x) tags (r ++ x)
in_tags_more b x tags r i o = record {
  file = i.file;
  is_file = i.is_file;
  bytes = ap (λ (t : List ℕ). t ++ x) i.bytes ∙ append_assoc i.file r x;
  rest = o;
}

each_more : (ps : List (List ℕ)) (p : List ℕ) → AllByRecursion IsTag ps → IsTag p → AllByRecursion IsTag (ps ++ p ∷ [])
each_more [] p a i = (i, tt)
each_more (q ∷ ps) p a i = (a.0, each_more ps p a.1 i)

-- a tag more
pub file_more : (b c : List ℕ) (tags : List Tag) → IsFile b tags → IsTag c → IsFile (b ++ c) (tags ++ tag_in c ∷ [])
file_more b c tags f i =
    let e : concat (f.parts ++ c ∷ []) ≡ concat f.parts ++ c = concat-append f.parts (c ∷ []) ∙ ap (λ (t : List ℕ). concat f.parts ++ t) (append-nil c) in
    record {
      head = f.head;
      parts = f.parts ++ c ∷ [];
      head_whole = f.head_whole;
      head_is = f.head_is;
      each = each_more f.parts c f.each i;
      bytes = ap (λ (t : List ℕ). t ++ c) f.bytes ∙ append_assoc f.head (concat f.parts) c ∙ ap (λ (t : List ℕ). f.head ++ t) (sym e);
      tags_are = ap (λ (ts : List Tag). ts ++ tag_in c ∷ []) f.tags_are ∙ sym (map-append tag_in f.parts (c ∷ []));
    }

-- the bytes of a tag that complete it
pub in_tags_tag : (b x : List ℕ) (tags : List Tag) (r : List ℕ) → InTags b tags r → IsTag (r ++ x) → IsFile (b ++ x) (tags ++ tag_in (r ++ x) ∷ [])
in_tags_tag b x tags r i t =
    let e : b ++ x ≡ i.file ++ (r ++ x) = ap (λ (u : List ℕ). u ++ x) i.bytes ∙ append_assoc i.file r x in
    rw e (file_more i.file (r ++ x) tags i.is_file t)

-- a byte more of the header
pub as_header_more : (b : List ℕ) (byte : ℕ) → IsAsHeader b → (length b < 9 → length b ≢ 4 → byte ≡ slice_index header (length b)) → IsAsHeader (b ++ byte ∷ [])
as_header_more b byte a fits i h nine four =
    elim (cases_lt i (length b)) [
      | inl less ↦ get_or_append_left b (byte ∷ []) 0 i less ∙ a i less nine four
      | inr le ↦ (
          let n : length (b ++ byte ∷ []) ≡ length b + 1 = length-append b (byte ∷ []) in
          let e : i ≡ length b = omega arith in
          let z : i - length b ≡ 0 = omega arith in
          let last : slice_index (b ++ byte ∷ []) i ≡ byte = get_or-append_right b (byte ∷ []) (length b) i 0 refl le ∙ ap (slice_index (byte ∷ [])) z in
          last ∙ fits (omega arith) (λ q. four (e ∙ q)) ∙ ap (slice_index header) (sym e))
    ]

pub header_file : (b : List ℕ) → length b ≡ 13 → IsAsHeader b → IsFile b []
header_file b n a = record { head = b; parts = []; head_whole = n; head_is = a; each = tt; bytes = sym (append-nil b); tags_are = refl }

-- a file has a header
file_long : (b : List ℕ) (tags : List Tag) → IsFile b tags → 13 ≤ length b
file_long b tags f = omega (arith, ap length f.bytes, length-append f.head (concat f.parts), f.head_whole)

pub in_tags_long : (b : List ℕ) (tags : List Tag) (r : List ℕ) → InTags b tags r → 13 + length r ≤ length b
in_tags_long b tags r i = omega (arith, ap length i.bytes, length-append i.file r, file_long i.file tags i.is_file)
