-- The files of broadcasts are what is read of their text
use Rattle.std.proofs.Common.{◌≡◌, ℕ, ◌^◌, Bool, true, false, nat_lt, List, [], ◌∷◌, ◌++◌, length, fold, Option, Some, None, refl, sym, ap, ◌∙◌, arith, append_assoc, append-nil}
use Rattle.std.proofs.lemmas.List.Concat.{flat_map-append}
use Rattle.std.proofs.lemmas.Bool.Decides.{nat_tests}
use Rattle.std.specs.List.{flat_map}
use Rattle.av_unit.specs.declared.item.Item.{Item}
use Rattle.av_unit.specs.declared.item.Item.TheVariants.{Begin, Unit as AUnit, End}
use Rattle.file_series.specs.Series.{Ended, Series, after_next, ended_with, last_bytes, none_yet, took}
use Rattle.series_medium.specs.Frames.{Adds, frame_text}
use Rattle.series_medium.specs.Reading.{Reading, read, start}
use Rattle.series_medium.specs.Broadcasts.{Broadcasts, broadcasts, ended_files, files_of, none_on_air, with_item, with_over}
use Rattle.series_medium.specs.Text.{added, data_text, end_text, framed, grown, more_of, on_air, series_text, text_behind}
use Rattle.series_medium.proofs.Growing.{Grows, with_data}
use Rattle.series_medium.proofs.Framing.{read-append, read_frame}

-- ---- data

one_more : (s : Series) (b : ℕ) (bs : List ℕ) → with_data (took (b ∷ []) s) bs ≡ with_data s (b ∷ bs)
one_more s b [] = refl
one_more s b (c ∷ cs) = ap (λ (l : List ℕ). record { ended = s.ended; last = Some l }) (append_assoc (last_bytes s.last) (b ∷ []) (c ∷ cs))

one_by_one : (s : Series) (bytes : List ℕ) → read (start s) (flat_map (λ byte. frame_text (Adds (byte ∷ []))) bytes) ≡ start (with_data s bytes)
one_by_one s [] = refl
one_by_one s (b ∷ bs) =
    read-append (start s) (frame_text (Adds (b ∷ []))) (flat_map (λ byte. frame_text (Adds (byte ∷ []))) bs)
    ∙ ap (λ (r : Reading). read r (flat_map (λ byte. frame_text (Adds (byte ∷ []))) bs)) (read_frame s (Adds (b ∷ [])) (omega arith, omega arith))
    ∙ one_by_one (took (b ∷ []) s) bs
    ∙ ap start (one_more s b bs)

read_framed : (fits : Bool) (s : Series) (b : ℕ) (bs : List ℕ) → nat_lt (length (b ∷ bs)) (2 ^ 32) ≡ fits
    → read (start s) (framed fits (b ∷ bs)) ≡ start (with_data s (b ∷ bs))
read_framed true s b bs is = read_frame s (Adds (b ∷ bs)) (omega arith, grind (arith, nat_tests))
read_framed false s b bs is = one_by_one s (b ∷ bs)

pub read_data_text : (s : Series) (bytes : List ℕ) → read (start s) (data_text bytes) ≡ start (with_data s bytes)
read_data_text s [] = refl
read_data_text s (b ∷ bs) = read_framed (nat_lt (length (b ∷ bs)) (2 ^ 32)) s b bs refl

read_end : (ended : List Ended) (file : Option (List ℕ)) → read (start (record { ended = ended; last = file })) (end_text file) ≡ start (after_next None (record { ended = ended; last = file }))
read_end ended None = refl
read_end ended (Some bytes) = refl

-- ---- broadcasts

one_ended : (ended : List Ended) (file : Option (List ℕ)) → ended ++ (ended_files file ++ []) ≡ ended_with None ended file
one_ended ended None = append-nil ended
one_ended ended (Some bytes) = refl

module _ (file : List Item → Option (List ℕ)) (g : Grows file) where
  over_is : (over : List (List Item)) (items : List Item)
      → flat_map (λ is. ended_files (file is)) (with_over over items) ≡ ended_with None (flat_map (λ is. ended_files (file is)) over) (file items)
  over_is over [] = ap (λ (o : Option (List ℕ)). ended_with None (flat_map (λ is. ended_files (file is)) over) o) (sym g.none)
  over_is over (x ∷ xs) =
      flat_map-append (λ is. ended_files (file is)) over ((x ∷ xs) ∷ [])
      ∙ one_ended (flat_map (λ is. ended_files (file is)) over) (file (x ∷ xs))

  -- a broadcast is over
  over_files : (over : List (List Item)) (items : List Item)
      → after_next None (files_of file (record { over = over; now = items })) ≡ files_of file (record { over = with_over over items; now = [] })
  over_files over items =
      ap (λ (e : List Ended). record { ended = e; last = None }) (sym (over_is over items))
      ∙ ap (λ (o : Option (List ℕ)). record { ended = flat_map (λ is. ended_files (file is)) (with_over over items); last = o }) (sym g.none)

  read_over : (over : List (List Item)) (items : List Item)
      → read (start (files_of file (record { over = over; now = items }))) (end_text (file items)) ≡ start (files_of file (record { over = with_over over items; now = [] }))
  read_over over items = read_end (flat_map (λ is. ended_files (file is)) over) (file items) ∙ ap start (over_files over items)

  -- an item more
  read_more : (over : List (List Item)) (items : List Item) (item : Item)
      → read (start (files_of file (record { over = over; now = items }))) (more_of file items item) ≡ start (files_of file (record { over = over; now = items ++ item ∷ [] }))
  read_more over items item =
      read_data_text (files_of file (record { over = over; now = items })) (grown (file items) (file (items ++ item ∷ [])))
      ∙ ap (λ (o : Option (List ℕ)). start (record { ended = flat_map (λ is. ended_files (file is)) over; last = o })) (sym (g.more items item))

  read_item : (b : Broadcasts) (item : Item) → read (start (files_of file b)) (added file b.now item) ≡ start (files_of file (with_item b item))
  read_item b Begin =
      read-append (start (files_of file b)) (end_text (file b.now)) (more_of file [] Begin)
      ∙ ap (λ (r : Reading). read r (more_of file [] Begin)) (read_over b.over b.now)
      ∙ read_more (with_over b.over b.now) [] Begin
  read_item b (AUnit u) = read_more b.over b.now (AUnit u)
  read_item b End =
      read-append (start (files_of file b)) (more_of file b.now End) (end_text (file (b.now ++ End ∷ [])))
      ∙ ap (λ (r : Reading). read r (end_text (file (b.now ++ End ∷ [])))) (read_more b.over b.now End)
      ∙ read_over b.over (b.now ++ End ∷ [])

  now_is : (b : Broadcasts) (item : Item) → on_air b.now item ≡ (with_item b item).now
  now_is b Begin = refl
  now_is b (AUnit u) = refl
  now_is b End = refl

  read_items : (b : Broadcasts) (items : List Item) → read (start (files_of file b)) (text_behind file b.now items) ≡ start (files_of file (fold with_item b items))
  read_items b [] = refl
  read_items b (x ∷ xs) =
      ap (λ (now : List Item). read (start (files_of file b)) (added file b.now x ++ text_behind file now xs)) (now_is b x)
      ∙ read-append (start (files_of file b)) (added file b.now x) (text_behind file (with_item b x).now xs)
      ∙ ap (λ (r : Reading). read r (text_behind file (with_item b x).now xs)) (read_item b x)
      ∙ read_items (with_item b x) xs

  pub files_are : (items : List Item) → read (start none_yet) (series_text file items) ≡ start (files_of file (broadcasts items))
  files_are items =
      ap (λ (o : Option (List ℕ)). read (start (record { ended = []; last = o })) (series_text file items)) (sym g.none)
      ∙ read_items none_on_air items
