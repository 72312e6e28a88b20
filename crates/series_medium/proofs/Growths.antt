-- FLV and transport streams grow with each item
use Rattle.std.proofs.Common.{◌≡◌, ℕ, List, [], ◌∷◌, ◌++◌, length, drop, reverse, Some, None, refl, sym, ap, ◌∙◌, subst, append_assoc, append-nil}
use Rattle.std.proofs.lemmas.List.{drop_at, reverse-append}
use Rattle.std.proofs.lemmas.List.Concat.{flat_map-append}
use Rattle.std.specs.List.{flat_map}
use Rattle.av_unit.specs.declared.item.Item.{Item}
use Rattle.file_series.specs.Series.{Series, none_yet}
use Rattle.flv_tags.specs.Written.{header}
use Rattle.flv_tags.specs.Text.{item_bytes}
use Rattle.ts_writer.specs.Text.{item_text, ts_text}
use Rattle.media_recorder.specs.Transport.{recorded_text}
use Rattle.series_medium.specs.Reading.{Reading, files_read, read, start}
use Rattle.series_medium.specs.Broadcasts.{broadcasts, files_of, flv_file, if_any, ts_file}
use Rattle.series_medium.specs.Text.{grown, series_text}
use Rattle.series_medium.specs.Parts.{IsPartOf}
use Rattle.series_medium.proofs.Growing.{Grows, with_more}
use Rattle.series_medium.proofs.Filing.{files_are}
use Rattle.series_medium.proofs.Parting.{first_part}

-- a file of which nothing is written, and which has this head then
-- what stands behind is what it has more
behind_it : (old more : List ℕ) → drop (length old) (old ++ more) ≡ more
behind_it old more = drop_at old more (length old) refl

more_behind : (old more : List ℕ) → Some (old ++ more) ≡ with_more (Some old) (drop (length old) (old ++ more))
more_behind old [] = ap (λ (l : List ℕ). Some l) (append-nil old) ∙ ap (λ (l : List ℕ). with_more (Some old) l) (sym (behind_it old []))
more_behind old (b ∷ bs) = ap (λ (l : List ℕ). with_more (Some old) l) (sym (behind_it old (b ∷ bs)))

first_more : (head : List ℕ) (b : ℕ) (bs : List ℕ) → Some (head ++ b ∷ bs) ≡ with_more None (head ++ b ∷ bs)
first_more [] b bs = refl
first_more (h ∷ hs) b bs = refl

any_more : (head written more : List ℕ)
    → if_any (written ++ more) (head ++ (written ++ more)) ≡ with_more (if_any written (head ++ written)) (grown (if_any written (head ++ written)) (if_any (written ++ more) (head ++ (written ++ more))))
any_more head [] [] = refl
any_more head [] (b ∷ bs) = first_more head b bs
any_more head (w ∷ ws) more =
    let all : (head ++ w ∷ ws) ++ more ≡ head ++ ((w ∷ ws) ++ more) = append_assoc head (w ∷ ws) more in
    subst (λ (l : List ℕ). Some l ≡ with_more (Some (head ++ w ∷ ws)) (drop (length (head ++ w ∷ ws)) l)) all (more_behind (head ++ w ∷ ws) more)

-- a file by what is written of items, behind its head
grows_by : (head : List ℕ) (written : List Item → List ℕ) (more : List Item → Item → List ℕ) → written [] ≡ []
    → ((items : List Item) (x : Item) → written (items ++ x ∷ []) ≡ written items ++ more items x) → Grows (λ items. if_any (written items) (head ++ written items))
grows_by head written more none on = record {
  none = ap (λ (l : List ℕ). if_any l (head ++ l)) none;
  more = λ items x. subst (λ (l : List ℕ). if_any l (head ++ l) ≡ with_more (if_any (written items) (head ++ written items)) (grown (if_any (written items) (head ++ written items)) (if_any l (head ++ l))))
      (sym (on items x)) (any_more head (written items) (more items x));
}

pub flv_grows : Grows flv_file
flv_grows = grows_by header (flat_map item_bytes) (λ items x. item_bytes x ++ []) refl (λ items x. flat_map-append item_bytes items (x ∷ []))

pub ts_grows : Grows ts_file
ts_grows = grows_by [] recorded_text (λ items x. item_text (reverse items) x) refl (λ items x. ap ts_text (reverse-append items (x ∷ [])))

-- ---- the laws

pub flv_files : (items : List Item) → read (start none_yet) (series_text flv_file items) ≡ start (files_of flv_file (broadcasts items))
flv_files items = files_are flv_file flv_grows items

pub ts_files : (items : List Item) → read (start none_yet) (series_text ts_file items) ≡ start (files_of ts_file (broadcasts items))
ts_files items = files_are ts_file ts_grows items

part_by : (text first more : List ℕ) (t : Series) → read (start none_yet) text ≡ start t → first ++ more ≡ text → IsPartOf (files_read first none_yet) t
part_by text first more t is whole =
    let all : files_read (first ++ more) none_yet ≡ t = ap (λ (l : List ℕ). files_read l none_yet) whole ∙ ap (λ (r : Reading). r.series) is in
    subst (λ (u : Series). IsPartOf (files_read first none_yet) u) all (first_part none_yet first more)

pub flv_parts : (items : List Item) (first more : List ℕ) → first ++ more ≡ series_text flv_file items → IsPartOf (files_read first none_yet) (files_of flv_file (broadcasts items))
flv_parts items first more whole = part_by (series_text flv_file items) first more (files_of flv_file (broadcasts items)) (flv_files items) whole

pub ts_parts : (items : List Item) (first more : List ℕ) → first ++ more ≡ series_text ts_file items → IsPartOf (files_read first none_yet) (files_of ts_file (broadcasts items))
ts_parts items first more whole = part_by (series_text ts_file items) first more (files_of ts_file (broadcasts items)) (ts_files items) whole
