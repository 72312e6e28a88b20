-- What is written is read back
use Rattle.std.proofs.Common.{◌≡◌, ℕ, ◌+◌, ◌<◌, ◌≤◌, ◌^◌, inr, true, List, ◌++◌, ◌∷◌, [], length, take, drop, map, refl, sym}
use Rattle.std.proofs.Common.{ap, ◌∙◌, subst, arith, append_assoc, append-nil, length-append}
use Rattle.std.proofs.lemmas.List.{take-append-drop, take_at}
use Rattle.std.specs.List.{AllByRecursion, concat, flat_map}
use Rattle.std.specs.Int.{byte_at, bytes_high_first}
use Rattle.av_unit.specs.declared.item.Item.{Item}
use Rattle.av_unit.specs.declared.item.Item.TheVariants.{Begin, Unit as AUnit, End}
use Rattle.av_unit.specs.declared.unit.Kind.{Kind}
use Rattle.av_unit.specs.declared.unit.Kind.TheVariants.{Meta, VConfig, AConfig, Key, Inter, Spare, Audio, Data}
use Rattle.av_unit.specs.Classes.{message_type}
use Rattle.av_unit.specs.Fits as fits
use Rattle.av_unit.specs.Media.{Media}
use Rattle.relay_base.specs.Numbers.{be24_of, be32_of}
use Rattle.relay_base.proofs.ReadBack.{be24_of-bytes, be32_of-bytes}
use Rattle.flv_tags.specs.declared.tag.Tag.{Tag}
use Rattle.flv_tags.specs.Layout.{is_kind, kind_in, size_in, time_in, back_in, tag_in}
use Rattle.flv_tags.specs.declared.fail.FlvFail.{FlvFail}
use Rattle.flv_tags.specs.Written.{IsWritten, back_bytes, head_bytes, header, tag_bytes, tags_text}
use Rattle.flv_tags.specs.Text.{IsUnit, IsHeld, flv_text, item_bytes, tag_of, tags_of}
use Rattle.flv_tags.specs.Reads.{IsFile, IsTag, Reads}
use Rattle.flv_tags.specs.Stops.{Stops}
use Rattle.flv_tags.proofs.More.{kind_more, parts_back, parts_tag, size_more}
use Rattle.flv_tags.proofs.Reading.{file_stands}
use Rattle.flv_tags.proofs.Once.{one_reading}
use Rattle.flv_tags.proofs.Beginnings.{reads_part}
use Rattle.flv_tags.proofs.Apart.{refused_not_read}

head_length : (kind time size : ℕ) → length (head_bytes kind time size) ≡ 11
unfolding head_bytes
head_length kind time size = refl

head_kind : (kind time size : ℕ) → kind_in (head_bytes kind time size) ≡ kind
unfolding head_bytes
head_kind kind time size = refl

head_size : (kind time size : ℕ) → size < 2 ^ 24 → size_in (head_bytes kind time size) ≡ size
unfolding head_bytes size_in
head_size kind time size h = be24_of-bytes size (bytes_high_first 3 time ++ (byte_at 3 time ∷ 0 ∷ 0 ∷ 0 ∷ [])) h

head_time : (kind time size : ℕ) → time < 2 ^ 32 → time_in (head_bytes kind time size) ≡ time
unfolding head_bytes time_in be24_of be32_of
head_time kind time size h = let e = be32_of-bytes time [] h in omega (arith, e)

back_length : (size : ℕ) → length (back_bytes size) ≡ 4
unfolding back_bytes
back_length size = refl

back_number : (size : ℕ) → size < 2 ^ 24 → be32_of (back_bytes size) ≡ size + 11
unfolding back_bytes
back_number size h = ap be32_of (sym (append-nil (bytes_high_first 4 (size + 11)))) ∙ be32_of-bytes (size + 11) [] (omega arith)

-- a tag that was written is a tag, and says itself
pub tag_back : (t : Tag) → IsWritten t → IsTag (tag_bytes t) × (tag_in (tag_bytes t) ≡ t)
tag_back t w =
    let h = head_bytes t.kind t.time (length t.body) in
    let k = back_bytes (length t.body) in
    let eleven = head_length t.kind t.time (length t.body) in
    let small : length t.body < 2 ^ 24 = omega (arith, w.writable.fits) in
    let size_h = head_size t.kind t.time (length t.body) small in
    let four = back_length (length t.body) in
    let size : size_in (tag_bytes t) ≡ length t.body = size_more h (t.body ++ k) (omega arith) ∙ size_h in
    let kind : kind_in (tag_bytes t) ≡ t.kind = kind_more h (t.body ++ k) (omega arith) ∙ head_kind t.kind t.time (length t.body) in
    let back : back_in (tag_bytes t) ≡ length t.body + 11 = parts_back h t.body k eleven (sym size_h) ∙ back_number (length t.body) small in
    let n : length (tag_bytes t) ≡ 11 + (length t.body + 4) = omega (arith, length-append h (t.body ++ k), length-append t.body k, eleven, four) in
    let tag : tag_in (tag_bytes t) ≡ record { kind = kind_in h; time = time_in h; body = t.body } = parts_tag h t.body k eleven (sym size_h) in
    let kind_h = head_kind t.kind t.time (length t.body) in
    let time_h = head_time t.kind t.time (length t.body) w.time in
    let is_tag : IsTag (tag_bytes t) = record {
      admitted = record {
        kind = λ _. ap is_kind kind ∙ w.writable.kind;
        fits = λ _. omega (arith, size, w.writable.fits);
        back = λ _. back ∙ ap (λ (m : ℕ). m + 11) (sym size);
      };
      whole = omega (arith, n, size);
    } in (
      is_tag,
      tag ∙ ap (λ (m : ℕ). record { kind = m; time = time_in h; body = t.body }) kind_h
          ∙ ap (λ (m : ℕ). record { kind = t.kind; time = m; body = t.body }) time_h,
    )

tags_back : (tags : List Tag) → AllByRecursion IsWritten tags → AllByRecursion IsTag (map tag_bytes tags) × (map tag_in (map tag_bytes tags) ≡ tags)
tags_back [] w = (tt, refl)
tags_back (t ∷ tags) w =
    let b = tag_back t w.0 in
    let r = tags_back tags w.1 in
    ((b.0, r.0), ap (λ (u : Tag). u ∷ map tag_in (map tag_bytes tags)) b.1 ∙ ap (λ (us : List Tag). t ∷ us) r.1)

concat_map : (tags : List Tag) → flat_map tag_bytes tags ≡ concat (map tag_bytes tags)
concat_map [] = refl
concat_map (t ∷ tags) = ap (λ (b : List ℕ). tag_bytes t ++ b) (concat_map tags)

pub text_back : (tags : List Tag) → AllByRecursion IsWritten tags → IsFile (tags_text tags) tags
text_back tags w =
    let r = tags_back tags w in
    record {
      head = header;
      parts = map tag_bytes tags;
      head_whole = refl;
      head_is = λ i l nine four. refl;
      each = r.0;
      bytes = ap (λ (b : List ℕ). header ++ b) (concat_map tags);
      tags_are = sym r.1;
    }

-- a text of items is that of their tags
items_tags : (items : List Item) → flat_map item_bytes items ≡ flat_map tag_bytes (flat_map tags_of items)
items_tags [] = refl
items_tags (Begin ∷ items) = items_tags items
items_tags (End ∷ items) = items_tags items
items_tags (AUnit u ∷ items) = ap (λ (b : List ℕ). tag_bytes (tag_of u) ++ b) (items_tags items)

kind_is : (k : Kind) → is_kind (message_type k) ≡ true
kind_is Meta = refl
kind_is VConfig = refl
kind_is AConfig = refl
kind_is Key = refl
kind_is Inter = refl
kind_is Spare = refl
kind_is Audio = refl
kind_is Data = refl

most_is : (k : Kind) → fits.most_bytes k ≤ 4194304
most_is Meta = omega arith
most_is VConfig = omega arith
most_is AConfig = omega arith
most_is Key = omega arith
most_is Inter = omega arith
most_is Spare = omega arith
most_is Audio = omega arith
most_is Data = omega arith

unit_written : (u : Media) → IsUnit u → IsWritten (tag_of u)
unit_written u w = record { writable = record { kind = kind_is u.kind; fits = omega (arith, w.fits, most_is u.kind) }; time = w.time }

items_written : (items : List Item) → AllByRecursion IsHeld items → AllByRecursion IsWritten (flat_map tags_of items)
items_written [] w = tt
items_written (Begin ∷ items) w = items_written items w.1
items_written (End ∷ items) w = items_written items w.1
items_written (AUnit u ∷ items) w = (unit_written u w.0, items_written items w.1)

pub recording_back : (items : List Item) → AllByRecursion IsHeld items → IsFile (flv_text items) (flat_map tags_of items)
recording_back items w =
    let P : List ℕ → Type 0 = λ b. IsFile (header ++ b) (flat_map tags_of items) in
    subst P (sym (items_tags items)) (text_back (flat_map tags_of items) (items_written items w))

-- what a reader makes of the first bytes of a file
pub file_part : (b more : List ℕ) (ts us : List Tag) (r : List ℕ) → IsFile (b ++ more) ts → Reads b us r → (later : List Tag) × (ts ≡ us ++ later)
file_part b more ts us r f x =
    let p = reads_part (b ++ more) (length b) ts [] (inr (file_stands (b ++ more) ts f)) in
    let P : List ℕ → Type 0 = λ c. Reads c p.first p.r in
    let q : Reads b p.first p.r = subst P (take_at b more (length b) refl) p.reads in
    let s = one_reading b us p.first r p.r x q in
    (p.later, p.begins ∙ ap (λ (vs : List Tag). vs ++ p.later) (sym s.tags_same))

pub file_whole : (b : List ℕ) (ts us : List Tag) (r : List ℕ) → IsFile b ts → Reads b us r → (us ≡ ts) × (r ≡ [])
file_whole b ts us r f x =
    let s = one_reading b us ts r [] x (inr (file_stands b ts f)) in
    (s.tags_same, s.rest_same)

pub file_unrefused : (b more : List ℕ) (n : ℕ) (ts us : List Tag) (e : FlvFail) → IsFile (b ++ more) ts → Stops b n us e → ⊥
file_unrefused b more n ts us e f st =
    let whole : b ++ more ≡ take (n + 1) b ++ (drop (n + 1) b ++ more) = ap (λ (c : List ℕ). c ++ more) (sym (take-append-drop (n + 1) b))
    ∙ append_assoc (take (n + 1) b) (drop (n + 1) b) more in
    let P : List ℕ → Type 0 = λ c. Reads c ts [] in
    refused_not_read b (drop (n + 1) b ++ more) e n us ts [] st (subst P whole (inr (file_stands (b ++ more) ts f)))
