-- What an item does to the files of segments
use Rattle.std.proofs.Common.{◌≡◌, ◌≤◌, ◌<◌, ◌^◌, ℕ, suc, Bool, true, false, List, [], ◌∷◌, ◌++◌, length, take, drop, Option, Some, None, inl, inr, refl, sym, ap, ◌∙◌, subst, arith, append_assoc, append-nil}
use Rattle.std.specs.Prelude.{◌&&◌, not, nat_lt, if◌then◌else◌}
use Rattle.std.specs.Option.{option_map}
use Rattle.std.proofs.lemmas.Bool.Decides.{nat_tests}
use Rattle.std.proofs.lemmas.List.{take_at, drop_at}
use Rattle.relay_outside.specs.Houses.{HouseTold}
use Rattle.av_unit.specs.Media.{Media}
use Rattle.av_unit.specs.declared.item.Item.{Item}
use Rattle.av_unit.specs.declared.item.Item.TheVariants.{Begin, Unit as AUnit, End}
use Rattle.ts_writer.specs.declared.left.Wrote.{Wrote}
use Rattle.ts_writer.specs.declared.left.Wrote.TheVariants.{Unit as AWritten, Nothing as NothingWritten, LeftOut}
use Rattle.ts_writer.specs.Text.{item_text, wrote_of}
use Rattle.hls_segments.specs.declared.cut.Cut.{Cut}
use Rattle.hls_segments.specs.declared.cut.Cut.TheVariants.{First, Next, Same, Nothing}
use Rattle.hls_segments.specs.declared.cut.CutFail.{CutFail}
use Rattle.hls_segments.specs.declared.cut.CutFail.TheVariants.{TooMany as CutMany, OutOfMemory as CutMemory}
use Rattle.hls_segments.specs.Cuts.{Segment, cut_by, cut_of, cut_unit, is_further, is_next, is_too_many, longer, most_segments, opened, segments, with_unit, with_written}
use Rattle.hls_segments.specs.Known.{Known, given, refused}
use Rattle.hls_segments.proofs.Texts.{begin_text, end_text, is_written, unwritten_text}
use Rattle.segment_command.specs.declared.stop.Fault.{Fault}
use Rattle.segment_command.specs.declared.stop.Fault.TheVariants.{Memory}
use Rattle.segment_command.specs.declared.stop.End.{End as FilmEnd}
use Rattle.segment_command.specs.declared.stop.Stop.TheVariants.{Broken}
use Rattle.segment_command.specs.declared.shelf.Pending.{Pending}
use Rattle.segment_command.specs.Files.{texts}
use Rattle.segment_command.specs.Shelves.{AreKept, Breaks, FileSeen, Grown, Stands, StandsBy}
use Rattle.segment_command.specs.Parts.{GoesOn, ItemBreaks, ItemEnds, Stops, list_of, stop_of_cut}
use Rattle.segment_command.proofs.Shelving.{count_stands, stands_then}

-- more is pending of the last segment
pub more_pending : (name : List ℕ) (list list' : List (List ℕ)) (text more title : List ℕ) (count : ℕ) (o : Option FileSeen) (start old : HouseTold)
    → Stands name list text title count o start old → (last : List ℕ) (whole : List (List ℕ)) → list ≡ last ∷ whole → list' ≡ (last ++ more) ∷ whole
    → Stands name list' (text ++ more) title count o start old
more_pending name list list' text more title count None start old u last whole e e' = absurd (let f : [] ≡ last ∷ whole = sym u.list_is ∙ e in cc)
more_pending name list list' text more title count (Some f) start old b last whole e e' =
    let is : (b.wrote ++ text) ∷ b.whole ≡ last ∷ whole = sym b.list_is ∙ e in
    let first : b.wrote ++ text ≡ last = cc in
    let rest : b.whole ≡ whole = cc in
    let l : list' ≡ (b.wrote ++ (text ++ more)) ∷ b.whole =
    e' ∙ ap (λ (t : List ℕ). (t ++ more) ∷ whole) (sym first) ∙ ap (λ (w : List (List ℕ)). ((b.wrote ++ text) ++ more) ∷ w) (sym rest)
    ∙ ap (λ (t : List ℕ). t ∷ b.whole) (append_assoc b.wrote text more) in
    let n : length list' ≡ length list = omega (arith, ap (λ (x : List (List ℕ)). length x) e, ap (λ (x : List (List ℕ)). length x) e') in
    record {
      whole = b.whole;
      wrote = b.wrote;
      list_is = l;
      title_is = b.title_is;
      count_is = b.count_is ∙ sym n;
      sound = b.sound;
      holds_is = b.holds_is;
      kept = b.kept;
      same = b.same;
    }

-- ---- what an item does

grown_if : (b : Bool) (past : List Item) (u : Media) (s : Segment) (earlier : List Segment)
    → Grown (if b then Next else Same) (item_text past (AUnit u)) (texts (s ∷ earlier)) (texts (if b then opened past u ∷ s ∷ earlier else longer past u s ∷ earlier))
grown_if true past u s earlier = refl
grown_if false past u s earlier = (s.bytes, texts earlier, refl, refl)

grown_written : (least : ℕ) (past : List Item) (u : Media) (list : List Segment)
    → Grown (cut_by least past u list) (item_text past (AUnit u)) (texts list) (texts (with_written least past u list))
grown_written least past u [] = (refl, refl)
grown_written least past u (s ∷ earlier) = grown_if (is_next least past u s) past u s earlier

grown_unit : (w : Wrote) (least : ℕ) (past : List Item) (u : Media) (list : List Segment) → wrote_of past (AUnit u) ≡ w
    → Grown (cut_unit least past u w list) (item_text past (AUnit u)) (texts list) (texts (with_unit least past u w list))
grown_unit AWritten least past u list e = grown_written least past u list
grown_unit NothingWritten least past u list e = (refl, unwritten_text past u (ap is_written e))
grown_unit (LeftOut l) least past u list e = (refl, unwritten_text past u (ap is_written e))

pub grown : (least : ℕ) (past : List Item) (item : Item)
    → Grown (cut_of least past item) (item_text past item) (texts (segments least past)) (texts (segments least (item ∷ past)))
grown least past Begin = (refl, begin_text past)
grown least past (AUnit u) = grown_unit (wrote_of past (AUnit u)) least past u (segments least past) refl
grown least past End = (refl, end_text past)

-- ---- how many there are

pub texts_length : (list : List Segment) → length (texts list) ≡ length list
texts_length [] = refl
texts_length (s ∷ earlier) = ap (λ (n : ℕ). suc n) (texts_length earlier)

pub next_room : (least : ℕ) (past : List Item) (item : Item) → cut_of least past item ≡ Next → is_too_many least past item ≡ false → length (texts (segments least past)) < most_segments
next_room least past item e room =
    let n = length (segments least past) in
    let h : (is_further Next && not (nat_lt n most_segments)) ≡ false = ap (λ (c : Cut). is_further c && not (nat_lt n most_segments)) (sym e) ∙ room in
    by (nat_lt n most_segments) n refl h (texts_length (segments least past)) where
      by : (t : Bool) (n : ℕ) → nat_lt n most_segments ≡ t → not t ≡ false → length (texts (segments least past)) ≡ n → length (texts (segments least past)) < most_segments
      by true n is e l = let h : n < most_segments = grind (arith, nat_tests) in omega (arith, h, l)
      by false n is e l = absurd (cc)

-- it goes on
pub goes_on : (k : Known) (item : Item) → GoesOn k → is_too_many k.least k.past item ≡ false → GoesOn (given k item)
goes_on k item g room = record { lives = g.lives; few = by (cut_of k.least k.past item) refl (grown k.least k.past item) } where
  by : (c : Cut) → cut_of k.least k.past item ≡ c → Grown c (item_text k.past item) (list_of k) (list_of (given k item)) → length (list_of (given k item)) ≤ most_segments
  by First is h = omega (arith, ap (λ (x : List (List ℕ)). length x) h.1)
  by Next is h = omega (arith, ap (λ (x : List (List ℕ)). length x) h, next_room k.least k.past item is room)
  by Same is h = omega (arith, ap (λ (x : List (List ℕ)). length x) h.2, ap (λ (x : List (List ℕ)). length x) h.3, g.few)
  by Nothing is h = omega (arith, ap (λ (x : List (List ℕ)). length x) h.0, g.few)

-- ---- by what the item does

pub grown_as : (c : Cut) (k : Known) (item : Item) → c ≡ cut_of k.least k.past item → Grown c (item_text k.past item) (list_of k) (list_of (given k item))
grown_as c k item e = subst (λ (x : Cut). Grown x (item_text k.past item) (list_of k) (list_of (given k item))) (sym e) (grown k.least k.past item)

-- no file is in hand where there is no segment, and nothing is pending
pub none_first : {F : Type 0} (view : F → FileSeen) (o : Option F) (name : List ℕ) (list : List (List ℕ)) (text title : List ℕ) (count : ℕ) (start now : HouseTold)
    → list ≡ [] → Stands name list text title count (option_map view o) start now → (o ≡ None) × (text ≡ []) × (count ≡ 0) × AreKept name [] start now
none_first view None name list text title count start now e u = (refl, u.text_is, u.count_is, record { kept = u.kept; same = u.same })
none_first view (Some f) name list text title count start now e b = absurd (let h : (b.wrote ++ text) ∷ b.whole ≡ [] = sym b.list_is ∙ e in cc)

-- nothing more
pub stands_on : (name : List ℕ) (list list' : List (List ℕ)) (text text' more title : List ℕ) (count : ℕ) (o : Option FileSeen) (start now : HouseTold)
    → text' ≡ text ++ more → list' ≡ list → more ≡ [] → Stands name list text title count o start now → Stands name list' text' title count o start now
stands_on name list list' text text' more title count o start now e l n s =
    subst (λ (t : List ℕ). Stands name list' t title count o start now) (sym (e ∙ ap (λ (m : List ℕ). text ++ m) n ∙ append-nil text))
    (subst (λ (x : List (List ℕ)). Stands name x text title count o start now) (sym l) s)

-- it isn't cut
pub item_fails : (fail : CutFail) (name : List ℕ) (k k' : Known) (item : Item) (p : Pending) (o : Option FileSeen) (start now : HouseTold)
    → k' ≡ refused k fail → (fail ≡ CutMany → is_too_many k.least k.past item ≡ true) → StandsBy name (list_of k) p o start now
    → Stops (ItemEnds k k' item) (ItemBreaks k k' item) (stop_of_cut fail) name k' p o start now
item_fails CutMany name k k' item p o start now e many s =
    ((many refl, ap (λ (x : Known). x.past) e), subst (λ (x : Known). StandsBy name (list_of x) p o start now) (sym e) s)
item_fails CutMemory name k k' item p o start now e many s = (
  inr (ap (λ (x : Known). x.past) e),
  subst (λ (x : Known). Breaks Memory name (list_of x) p.title o start now) (sym e) (stands_then name (list_of k) p.text p.title p.count o start now s),
)

-- it was cut, and its bytes can't be written
pub item_breaks : (E : FilmEnd → Type 0) (fault : Fault) (name : List ℕ) (list : List (List ℕ)) (k k' : Known) (item : Item) (p : Pending) (o : Option FileSeen) (start now : HouseTold)
    → k' ≡ given k item → list_of (given k item) ≡ list → Breaks fault name list p.title o start now → Stops E (ItemBreaks k k' item) (Broken fault) name k' p o start now
item_breaks E fault name list k k' item p o start now e l b =
    (inl (ap (λ (x : Known). x.past) e), subst (λ (x : List (List ℕ)). Breaks fault name x p.title o start now) (sym (ap list_of e ∙ l)) b)

-- what stands before the item's bytes are put
pub first_of : {F : Type 0} (view : F → FileSeen) (o : Option F) (name : List ℕ) (k : Known) (item : Item) (text text' title : List ℕ) (count : ℕ) (start now : HouseTold)
    → First ≡ cut_of k.least k.past item → text' ≡ text ++ item_text k.past item → Stands name (list_of k) text title count (option_map view o) start now
    → (o ≡ None) × AreKept name [] start now × (count ≡ 0) × (list_of (given k item) ≡ text' ∷ [])
first_of view o name k item text text' title count start now c e s =
    let g = grown_as First k item c in
    let n = none_first view o name (list_of k) text title count start now g.0 s in
    (n.0, n.3, n.2, g.1 ∙ ap (λ (t : List ℕ). t ∷ []) (sym (e ∙ ap (λ (x : List ℕ). x ++ item_text k.past item) n.1)))

pub next_of : (name : List ℕ) (k : Known) (item : Item) (text text' title : List ℕ) (count : ℕ) (o : Option FileSeen) (start now : HouseTold)
    → Next ≡ cut_of k.least k.past item → is_too_many k.least k.past item ≡ false → text' ≡ text ++ item_text k.past item → Stands name (list_of k) text title count o start now
    → (count ≡ length (list_of k)) × (length (list_of k) < 2 ^ 63) × Stands name (list_of k) (take (length text) text') title count o start now
    × (list_of (given k item) ≡ drop (length text) text' ∷ list_of k)
next_of name k item text text' title count o start now c room e s =
    let more = item_text k.past item in
    let few = next_room k.least k.past item (sym c) room in
    let front : take (length text) text' ≡ text = ap (take (length text)) e ∙ take_at text more (length text) refl in
    let back : drop (length text) text' ≡ more = ap (drop (length text)) e ∙ drop_at text more (length text) refl in (
      count_stands name (list_of k) text title count o start now s,
      omega (arith, few),
      subst (λ (t : List ℕ). Stands name (list_of k) t title count o start now) (sym front) s,
      grown_as Next k item c ∙ ap (λ (t : List ℕ). t ∷ list_of k) (sym back),
    )

pub same_of : (name : List ℕ) (k : Known) (item : Item) (text text' title : List ℕ) (count : ℕ) (o : Option FileSeen) (start now : HouseTold)
    → Same ≡ cut_of k.least k.past item → text' ≡ text ++ item_text k.past item → Stands name (list_of k) text title count o start now
    → Stands name (list_of (given k item)) text' title count o start now
same_of name k item text text' title count o start now c e s =
    let g = grown_as Same k item c in
    subst (λ (t : List ℕ). Stands name (list_of (given k item)) t title count o start now) (sym e)
    (more_pending name (list_of k) (list_of (given k item)) text (item_text k.past item) title count o start now s g.0 g.1 g.2 g.3)

pub nothing_of : (name : List ℕ) (k : Known) (item : Item) (text text' title : List ℕ) (count : ℕ) (o : Option FileSeen) (start now : HouseTold)
    → Nothing ≡ cut_of k.least k.past item → text' ≡ text ++ item_text k.past item → Stands name (list_of k) text title count o start now
    → Stands name (list_of (given k item)) text' title count o start now
nothing_of name k item text text' title count o start now c e s =
    let g = grown_as Nothing k item c in
    stands_on name (list_of k) (list_of (given k item)) text text' (item_text k.past item) title count o start now e g.0 g.1 s

-- the same segments by another name
pub stands_as : (name : List ℕ) (list : List (List ℕ)) (k k' : Known) (item : Item) (p : Pending) (o : Option FileSeen) (start now : HouseTold) → k' ≡ given k item
    → list_of (given k item) ≡ list → StandsBy name list p o start now → StandsBy name (list_of k') p o start now
stands_as name list k k' item p o start now e l s = subst (λ (x : List (List ℕ)). StandsBy name x p o start now) (sym (ap list_of e ∙ l)) s
