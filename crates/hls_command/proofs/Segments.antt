-- The files are the segments
use Rattle.std.proofs.Common.{◌≡◌, ◌+◌, ℕ, suc, Bool, true, false, List, [], ◌∷◌, ◌++◌, length, length-append, map, Option, Some, None, option_to_list, refl, sym, ap, ◌∙◌, subst, arith}
use Rattle.av_unit.specs.declared.item.Item.{Item}
use Rattle.file_series.specs.Series.{Ended, Series, after_next, all_files, ended_with, last_bytes, none_yet, took}
use Rattle.live_segments.specs.declared.cut.Cut.{Cut}
use Rattle.live_segments.specs.declared.cut.Cut.TheVariants.{First, Next, Marked, Same, Nothing}
use Rattle.live_segments.specs.Live.{Segment, cut_of, ended_rows, item_bytes, live, rows_before}
use Rattle.live_segments.proofs.Grown.{Grown, IsBehind, IsLonger, item_grows}
use Rattle.hls_command.specs.Words.{Asked}
use Rattle.hls_command.specs.Written.{listing, with_cut, written}
use Rattle.hls_command.specs.Laws.{AreSegments, texts}

abbrev bytes_of : List Ended → List (List ℕ)
bytes_of ended = map (λ e. e.bytes) ended

bytes_append : (xs ys : List Ended) → bytes_of (xs ++ ys) ≡ bytes_of xs ++ bytes_of ys
bytes_append [] ys = refl
bytes_append (x ∷ xs) ys = ap (λ (l : List (List ℕ)). x.bytes ∷ l) (bytes_append xs ys)

bytes_length : (xs : List Ended) → length xs ≡ length (bytes_of xs)
bytes_length [] = refl
bytes_length (x ∷ xs) = ap (λ (n : ℕ). suc n) (bytes_length xs)

texts_length : (xs : List Segment) (marked : Bool) (time : ℕ) → length (texts xs) ≡ length (rows_before marked time xs)
texts_length [] marked time = refl
texts_length (x ∷ xs) marked time = let h = texts_length xs x.marked x.opener.time in omega (arith, length-append (texts xs) (x.bytes ∷ []), h)

-- the segments that have ended, and the bytes of the open one
abbrev earlier_of : List Segment → List Segment
earlier_of [] = []
earlier_of (x ∷ earlier) = earlier

abbrev last_of : List Segment → Option (List ℕ)
last_of [] = None
last_of (x ∷ earlier) = Some x.bytes

record Agree (s : Series) (list : List Segment) : Type 0 where
  ended : bytes_of s.ended ≡ texts (earlier_of list)
  last : s.last ≡ last_of list

-- ---- one item more

all_ended : (s : Series) (x : Segment) (earlier : List Segment) (list : List ℕ) → Agree s (x ∷ earlier) → bytes_of (after_next (Some list) s).ended ≡ texts (x ∷ earlier)
all_ended s x earlier list h =
    ap (λ (o : Option (List ℕ)). bytes_of (ended_with (Some list) s.ended o)) h.last
    ∙ bytes_append s.ended (record { bytes = x.bytes; listing = Some list } ∷ [])
    ∙ ap (λ (l : List (List ℕ)). l ++ x.bytes ∷ []) h.ended

ended_now : (s : Series) (segs : List Segment) (list : List ℕ) → Agree s segs → bytes_of (after_next (Some list) s).ended ≡ texts segs
ended_now s [] list h = ap (λ (o : Option (List ℕ)). bytes_of (ended_with (Some list) s.ended o)) h.last ∙ h.ended
ended_now s (x ∷ earlier) list h = all_ended s x earlier list h

-- the first segment, a further one, and more of the last
same_first : (s : Series) (segs segs' : List Segment) (bytes : List ℕ) → segs ≡ [] → IsBehind bytes segs segs' → Agree s segs → Agree (took bytes s) segs'
same_first s segs segs' bytes none b h =
    let e : Agree s [] = subst (λ (l : List Segment). Agree s l) none h in
    let is : segs' ≡ b.new ∷ [] = b.after_is ∙ ap (λ (l : List Segment). b.new ∷ l) none in
    subst (λ (l : List Segment). Agree (took bytes s) l) (sym is) (record {
      ended = e.ended;
      last = ap (λ (o : Option (List ℕ)). Some (last_bytes o ++ bytes)) e.last ∙ ap (λ (t : List ℕ). Some t) (sym b.bytes_are);
    })

same_next : (s : Series) (segs segs' : List Segment) (bytes list : List ℕ) → IsBehind bytes segs segs' → Agree s segs → Agree (took bytes (after_next (Some list) s)) segs'
same_next s segs segs' bytes list b h =
    subst (λ (l : List Segment). Agree (took bytes (after_next (Some list) s)) l) (sym b.after_is) (record {
      ended = ended_now s segs list h;
      last = ap (λ (t : List ℕ). Some t) (sym b.bytes_are);
    })

same_more : (s : Series) (segs segs' : List Segment) (bytes : List ℕ) → IsLonger bytes segs segs' → Agree s segs → Agree (took bytes s) segs'
same_more s segs segs' bytes b h =
    let e : Agree s (b.last ∷ b.earlier) = subst (λ (l : List Segment). Agree s l) b.before_is h in
    subst (λ (l : List Segment). Agree (took bytes s) l) (sym b.after_is) (record {
      ended = e.ended;
      last = ap (λ (o : Option (List ℕ)). Some (last_bytes o ++ bytes)) e.last ∙ ap (λ (t : List ℕ). Some t) (sym b.bytes_are);
    })

cut_same : (c : Cut) (bytes list : List ℕ) (s : Series) (segs segs' : List Segment) → Grown c bytes segs segs' → Agree s segs → Agree (with_cut c bytes list s) segs'
cut_same First bytes list s segs segs' g h = same_first s segs segs' bytes g.0 g.1 h
cut_same Next bytes list s segs segs' g h = same_next s segs segs' bytes list g h
cut_same Marked bytes list s segs segs' g h = same_next s segs segs' bytes list g h
cut_same Same bytes list s segs segs' g h = same_more s segs segs' bytes g h
cut_same Nothing bytes list s segs segs' g h = subst (λ (l : List Segment). Agree s l) (sym g) h

all_same : (a : Asked) (past : List Item) → Agree (written a past none_yet) (live a.target past).segments
all_same a [] = record { ended = refl; last = refl }
all_same a (item ∷ past) =
    cut_same (cut_of a.target past item) (item_bytes a.target past item) (listing a (item ∷ past) false) (written a past none_yet) (live a.target past).segments
    (live a.target (item ∷ past)).segments (item_grows a.target past item) (all_same a past)

-- ---- all items

are_by : (list : List ℕ) (s : Series) (segs : List Segment) → Agree s segs
    → (all_files s ≡ texts segs) × (length s.ended ≡ length (ended_rows segs)) × (bytes_of (after_next (Some list) s).ended ≡ texts segs)
are_by list s [] h = (
  ap (λ (l : List (List ℕ)). l ++ option_to_list s.last) h.ended ∙ ap (λ (o : Option (List ℕ)). option_to_list o) h.last,
  bytes_length s.ended ∙ ap (λ (l : List (List ℕ)). length l) h.ended,
  ap (λ (o : Option (List ℕ)). bytes_of (ended_with (Some list) s.ended o)) h.last ∙ h.ended,
)
are_by list s (x ∷ earlier) h = (
  ap (λ (l : List (List ℕ)). l ++ option_to_list s.last) h.ended ∙ ap (λ (o : Option (List ℕ)). texts earlier ++ option_to_list o) h.last,
  bytes_length s.ended ∙ ap (λ (l : List (List ℕ)). length l) h.ended ∙ texts_length earlier x.marked x.opener.time,
  all_ended s x earlier list h,
)

pub are_segments : (a : Asked) (past : List Item) → AreSegments a past
are_segments a past =
    let r = are_by (listing a past true) (written a past none_yet) (live a.target past).segments (all_same a past) in
    record { files = r.0; ended = r.1; all_ended = r.2 }
