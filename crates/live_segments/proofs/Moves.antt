-- One row more, and one item more
use Rattle.std.proofs.Common.{◌≡◌, ◌≤◌, ◌<◌, ℕ, zero, suc, ◌+◌, Bool, true, false, List, [], ◌∷◌, ◌++◌, length, take, drop, Option, None, is_some, refl, sym, ap, ◌∙◌, arith, append-nil}
use Rattle.std.specs.Prelude.{◌||◌, nat_lt, reverse, option_map, option_to_list}
use Rattle.std.proofs.lemmas.Bool.Decides.{nat_tests}
use Rattle.std.proofs.lemmas.List.{length-reverse, length-take, reverse-append}
use Rattle.std.proofs.lemmas.Grind.{reverse_onto}
use Rattle.av_unit.specs.Media.{Media}
use Rattle.av_unit.specs.declared.item.Item.{Item}
use Rattle.av_unit.specs.declared.item.Item.TheVariants.{Begin, Unit as AUnit, End}
use Rattle.ts_writer.specs.declared.left.Wrote.{Wrote}
use Rattle.ts_writer.specs.declared.left.Wrote.TheVariants.{Unit as AWritten, Nothing as NothingWritten, LeftOut}
use Rattle.ts_writer.specs.Known.{TsKnown, given as writer_given}
use Rattle.ts_writer.specs.Text.{in_force, item_text, wrote_of}
use Rattle.hls_segments.specs.Cuts.{may_begin}
use Rattle.hls_segments.specs.Opens.{opens, pictures_after}
use Rattle.hls_segments.proofs.Steps.{pictures_are, unit_opens}
use Rattle.live_segments.specs.declared.cut.Cut.{Cut}
use Rattle.live_segments.specs.declared.cut.CutFail.{CutFail}
use Rattle.live_segments.specs.declared.cutter.Way.{Way}
use Rattle.live_segments.specs.declared.cutter.Way.TheVariants.{Break, Hold, Split, Join}
use Rattle.live_segments.specs.declared.cutter.Row.{Row}
use Rattle.live_segments.specs.declared.cutter.Cutter.{Cutter}
use Rattle.live_segments.specs.Ways.{is_sound}
use Rattle.live_segments.specs.Live.{Live, Segment, cut_of, cut_unit, ended_rows, is_lost, item_bytes, kept_text, live, open_row, run, some, some_lost, turns, way, with_unit, with_way}
use Rattle.live_segments.specs.Listing.{longest, marks, playlist, shown, text_of}
use Rattle.live_segments.specs.Full.{is_too_many}
use Rattle.live_segments.specs.Steps.{IsSound, Kept, at_of, cutter_of, is_full, item_cut, item_moved, item_row, kept_listing, kept_of, kept_with, most_with, moved, pushed, renewed, row_by, row_own, trimmed, turns_of, unit_cut, unit_moved, unit_row, way_at}

-- ---- the last rows

-- where there are as many as are kept, one leaves
record Leaves (keep : ℕ) (r : Row) (rows : List Row) : Type 0 where
  one : Row
  stays : r ∷ take keep rows ≡ take keep (r ∷ rows) ++ one ∷ []
  left : drop keep (r ∷ rows) ≡ one ∷ drop keep rows

leaves : (keep : ℕ) (r : Row) (rows : List Row) → keep ≤ length rows → Leaves keep r rows
leaves zero r rows h = record { one = r; stays = refl; left = refl }
leaves (suc k) r [] h = absurd (omega (arith, h))
leaves (suc k) r (s ∷ rows) h =
    let i = leaves k s rows (omega (arith, h)) in
    record { one = i.one; stays = ap (λ (l : List Row). r ∷ l) i.stays; left = i.left }

-- and where there are fewer, none does
record Stays (keep : ℕ) (r : Row) (rows : List Row) : Type 0 where
  more : take keep (r ∷ rows) ≡ r ∷ take keep rows
  none : drop keep (r ∷ rows) ≡ []
  none_before : drop keep rows ≡ []

abbrev no_rows : List Row
no_rows = []

take_none : (k : ℕ) → take k no_rows ≡ no_rows
take_none zero = refl
take_none (suc k) = refl

drop_none : (k : ℕ) → drop k no_rows ≡ no_rows
drop_none zero = refl
drop_none (suc k) = refl

stays : (keep : ℕ) (r : Row) (rows : List Row) → length rows < keep → Stays keep r rows
stays zero r rows h = absurd (omega (arith, h))
stays (suc k) r [] h = record { more = ap (λ (l : List Row). r ∷ l) (take_none k); none = drop_none k; none_before = refl }
stays (suc k) r (s ∷ rows) h =
    let i = stays k s rows (omega (arith, h)) in
    record { more = ap (λ (l : List Row). r ∷ l) i.more; none = i.none; none_before = i.none_before }

turned : (r : Row) (list : List Row) → reverse list ++ r ∷ [] ≡ reverse (r ∷ list)
turned r list = sym (reverse_onto list r [])

with_room : (keep : ℕ) (r : Row) (rows : List Row) (most : ℕ) → length rows < keep
    → trimmed false (shown keep rows ++ r ∷ []) (length (drop keep rows)) (marks (drop keep rows)) most
    ≡ record { last = shown keep (r ∷ rows); first = length (drop keep (r ∷ rows)); gone = marks (drop keep (r ∷ rows)); most = most }
with_room keep r rows most h =
    let s = stays keep r rows h in
    rw (s.more, s.none, s.none_before, turned r (take keep rows)) refl

without : (keep : ℕ) (r : Row) (rows : List Row) (most : ℕ) → keep ≤ length rows
    → trimmed true (shown keep rows ++ r ∷ []) (length (drop keep rows)) (marks (drop keep rows)) most
    ≡ record { last = shown keep (r ∷ rows); first = length (drop keep (r ∷ rows)); gone = marks (drop keep (r ∷ rows)); most = most }
without keep r rows most h =
    let l = leaves keep r rows h in
    let all : shown keep rows ++ r ∷ [] ≡ l.one ∷ shown keep (r ∷ rows) =
    turned r (take keep rows) ∙ ap reverse l.stays ∙ reverse-append (take keep (r ∷ rows)) (l.one ∷ []) in
    let n : length (drop keep rows) + 1 ≡ length (l.one ∷ drop keep rows) = omega arith in
    rw (all, l.left, n) refl

push_by : (keep : ℕ) (r : Row) (rows : List Row) (most : ℕ) (b : Bool) → nat_lt keep (length (shown keep rows ++ r ∷ [])) ≡ b
    → trimmed b (shown keep rows ++ r ∷ []) (length (drop keep rows)) (marks (drop keep rows)) most
    ≡ record { last = shown keep (r ∷ rows); first = length (drop keep (r ∷ rows)); gone = marks (drop keep (r ∷ rows)); most = most }
push_by keep r rows most true e =
    let n : length (shown keep rows ++ r ∷ []) ≡ length (take keep rows) + 1 = ap length (turned r (take keep rows)) ∙ length-reverse (r ∷ take keep rows) ∙ omega arith in
    let t = length-take keep rows in
    let h : keep ≤ length rows = grind (arith, nat_tests) in
    without keep r rows most h
push_by keep r rows most false e =
    let n : length (shown keep rows ++ r ∷ []) ≡ length (take keep rows) + 1 = ap length (turned r (take keep rows)) ∙ length-reverse (r ∷ take keep rows) ∙ omega arith in
    let t = length-take keep rows in
    let h : length rows < keep = grind (arith, nat_tests) in
    with_room keep r rows most h

pub push_is : (target keep : ℕ) (r : Row) (rows : List Row) → pushed keep r (kept_of target keep rows) ≡ kept_of target keep (r ∷ rows)
push_is target keep r rows = push_by keep r rows (longest target (r ∷ rows)) (nat_lt keep (length (shown keep rows ++ r ∷ []))) refl

-- ---- the open segment

some_at : (list : List Segment) → is_some (at_of list) ≡ some list
some_at [] = refl
some_at (s ∷ earlier) = refl

turns_at : (list : List Segment) → turns_of (at_of list) ≡ turns list
turns_at [] = refl
turns_at (s ∷ earlier) = refl

way_is : (target : ℕ) (past : List Item) (u : Media) (l : Live) (may : Bool) → may ≡ may_begin past u → way_at target may (is_sound u.kind) u.time (cutter_of l) ≡ way target past u l
way_is target past u l may e = rw (e, turns_at l.segments) refl

join_is : (past : List Item) (u : Media) (list : List Segment) (p s : Option ℕ) (owed : Bool)
    → moved Join (may_begin past u) (is_sound u.kind) u.time (cutter_of (record { segments = list; owed = owed; picture = p; sound = s }))
    ≡ cutter_of (with_way Join past u (record { segments = list; owed = owed; picture = p; sound = s }))
join_is past u [] p s owed = refl
join_is past u (x ∷ earlier) p s owed = refl

moved_is : (w : Way) (past : List Item) (u : Media) (l : Live) → moved w (may_begin past u) (is_sound u.kind) u.time (cutter_of l) ≡ cutter_of (with_way w past u l)
moved_is Break past u l = rw (some_at l.segments) refl
moved_is Hold past u l = refl
moved_is Split past u l = refl
moved_is Join past u l = join_is past u l.segments l.picture l.sound l.owed

row_is : (w : Way) (target keep : ℕ) (past : List Item) (u : Media) (list : List Segment) (p s : Option ℕ) (owed : Bool)
    → kept_with keep (row_by w u.time (at_of list)) (kept_of target keep (ended_rows list))
    ≡ kept_of target keep (ended_rows (with_way w past u (record { segments = list; owed = owed; picture = p; sound = s })).segments)
row_is Break target keep past u [] p s owed = refl
row_is Break target keep past u (x ∷ earlier) p s owed = push_is target keep _ (ended_rows (x ∷ earlier))
row_is Hold target keep past u list p s owed = refl
row_is Split target keep past u [] p s owed = refl
row_is Split target keep past u (x ∷ earlier) p s owed = push_is target keep _ (ended_rows (x ∷ earlier))
row_is Join target keep past u [] p s owed = refl
row_is Join target keep past u (x ∷ earlier) p s owed = refl

-- ---- one item more

unit_cut_is : (w : Wrote) (target : ℕ) (past : List Item) (u : Media) (pictures : Bool) (text : List ℕ) (l : Live)
    → (w ≡ AWritten → opens u.kind pictures text ≡ may_begin past u) → unit_cut target pictures u w text (cutter_of l) ≡ cut_unit target past u w l
unit_cut_is AWritten target past u pictures text l e = rw (way_is target past u l (opens u.kind pictures text) (e refl), some_at l.segments) refl
unit_cut_is NothingWritten target past u pictures text l e = refl
unit_cut_is (LeftOut f) target past u pictures text l e = refl

unit_moved_is : (w : Wrote) (target : ℕ) (past : List Item) (u : Media) (pictures : Bool) (text : List ℕ) (l : Live)
    → (w ≡ AWritten → opens u.kind pictures text ≡ may_begin past u) → unit_moved target pictures u w text (cutter_of l) ≡ cutter_of (with_unit target past u w l)
unit_moved_is AWritten target past u pictures text l e =
    ap (λ (w : Way). moved w (opens u.kind pictures text) (is_sound u.kind) u.time (cutter_of l)) (way_is target past u l (opens u.kind pictures text) (e refl))
    ∙ ap (λ (b : Bool). moved (way target past u l) b (is_sound u.kind) u.time (cutter_of l)) (e refl) ∙ moved_is (way target past u l) past u l
unit_moved_is NothingWritten target past u pictures text l e = refl
unit_moved_is (LeftOut f) target past u pictures text l e = refl

unit_row_is : (w : Wrote) (target keep : ℕ) (past : List Item) (u : Media) (pictures : Bool) (text : List ℕ) (l : Live)
    → (w ≡ AWritten → opens u.kind pictures text ≡ may_begin past u)
    → kept_with keep (unit_row target pictures u w text (cutter_of l)) (kept_of target keep (ended_rows l.segments)) ≡ kept_of target keep (ended_rows (with_unit target past u w l).segments)
unit_row_is AWritten target keep past u pictures text l e =
    ap (λ (w : Way). kept_with keep (row_by w u.time (at_of l.segments)) (kept_of target keep (ended_rows l.segments))) (way_is target past u l (opens u.kind pictures text) (e refl))
    ∙ row_is (way target past u l) target keep past u l.segments l.picture l.sound l.owed
unit_row_is NothingWritten target keep past u pictures text l e = refl
unit_row_is (LeftOut f) target keep past u pictures text l e = refl

pub item_cut_is : (target : ℕ) (past : List Item) (item : Item) (pictures : Bool) → pictures ≡ is_some (in_force (run past)).video
    → item_cut target pictures item (wrote_of (run past) item) (item_text (run past) item) (cutter_of (live target past)) ≡ cut_of target past item
item_cut_is target past Begin pictures e = refl
item_cut_is target past (AUnit u) pictures e =
    unit_cut_is (wrote_of (run past) (AUnit u)) target (run past) u pictures (item_text (run past) (AUnit u)) (live target past) (λ w. unit_opens (run past) u pictures w e)
item_cut_is target past End pictures e = refl

pub item_moved_is : (target : ℕ) (past : List Item) (item : Item) (pictures : Bool) → pictures ≡ is_some (in_force (run past)).video
    → item_moved target pictures item (wrote_of (run past) item) (item_text (run past) item) (cutter_of (live target past)) ≡ cutter_of (live target (item ∷ past))
item_moved_is target past Begin pictures e = refl
item_moved_is target past (AUnit u) pictures e =
    unit_moved_is (wrote_of (run past) (AUnit u)) target (run past) u pictures (item_text (run past) (AUnit u)) (live target past) (λ w. unit_opens (run past) u pictures w e)
item_moved_is target past End pictures e = refl

pub item_row_is : (target keep : ℕ) (past : List Item) (item : Item) (pictures : Bool) → pictures ≡ is_some (in_force (run past)).video
    → kept_with keep (item_row target pictures item (wrote_of (run past) item) (item_text (run past) item) (cutter_of (live target past))) (kept_of target keep (ended_rows (live target past).segments))
    ≡ kept_of target keep (ended_rows (live target (item ∷ past)).segments)
item_row_is target keep past Begin pictures e = refl
item_row_is target keep past (AUnit u) pictures e =
    unit_row_is (wrote_of (run past) (AUnit u)) target keep (run past) u pictures (item_text (run past) (AUnit u)) (live target past) (λ w. unit_opens (run past) u pictures w e)
item_row_is target keep past End pictures e = refl

-- ---- a segmenter that was given an item

run_on : (past : List Item) (item : Item) (w : TsKnown) → w.past ≡ run past → w.broken ≡ false → (given_now : TsKnown) → given_now ≡ writer_given (renewed item w) item
    → (given_now.past ≡ run (item ∷ past)) × (given_now.broken ≡ false)
run_on past Begin w same whole n e = (ap (λ (x : TsKnown). x.past) e, ap (λ (x : TsKnown). x.broken) e)
run_on past (AUnit u) w same whole n e = (ap (λ (x : TsKnown). x.past) e ∙ ap (λ (q : List Item). AUnit u ∷ q) same, ap (λ (x : TsKnown). x.broken) e ∙ whole)
run_on past End w same whole n e = (ap (λ (x : TsKnown). x.past) e ∙ ap (λ (q : List Item). End ∷ q) same, ap (λ (x : TsKnown). x.broken) e ∙ whole)

pictures_on : (past : List Item) (item : Item) (w : TsKnown) (b : Bool) → w.past ≡ run past → b ≡ is_some (in_force (run past)).video
    → pictures_after b item (wrote_of (renewed item w).past item) ≡ is_some (in_force (run (item ∷ past))).video
pictures_on past Begin w b same e = refl
pictures_on past (AUnit u) w b same e = ap (λ (q : List Item). pictures_after b (AUnit u) (wrote_of q (AUnit u))) same ∙ pictures_are (run past) (AUnit u) b e
pictures_on past End w b same e = e

cut_on : (target : ℕ) (past : List Item) (item : Item) (w : TsKnown) (b : Bool) → w.past ≡ run past → b ≡ is_some (in_force (run past)).video
    → item_cut target b item (wrote_of (renewed item w).past item) (item_text (renewed item w).past item) (cutter_of (live target past)) ≡ cut_of target past item
cut_on target past Begin w b same e = refl
cut_on target past (AUnit u) w b same e =
    ap (λ (q : List Item). item_cut target b (AUnit u) (wrote_of q (AUnit u)) (item_text q (AUnit u)) (cutter_of (live target past))) same ∙ item_cut_is target past (AUnit u) b e
cut_on target past End w b same e = refl

moved_on : (target : ℕ) (past : List Item) (item : Item) (w : TsKnown) (b : Bool) → w.past ≡ run past → b ≡ is_some (in_force (run past)).video
    → item_moved target b item (wrote_of (renewed item w).past item) (item_text (renewed item w).past item) (cutter_of (live target past)) ≡ cutter_of (live target (item ∷ past))
moved_on target past Begin w b same e = refl
moved_on target past (AUnit u) w b same e =
    ap (λ (q : List Item). item_moved target b (AUnit u) (wrote_of q (AUnit u)) (item_text q (AUnit u)) (cutter_of (live target past))) same ∙ item_moved_is target past (AUnit u) b e
moved_on target past End w b same e = refl

row_on : (target keep : ℕ) (past : List Item) (item : Item) (w : TsKnown) (b : Bool) → w.past ≡ run past → b ≡ is_some (in_force (run past)).video
    → kept_with keep (item_row target b item (wrote_of (renewed item w).past item) (item_text (renewed item w).past item) (cutter_of (live target past))) (kept_of target keep (ended_rows (live target past).segments))
    ≡ kept_of target keep (ended_rows (live target (item ∷ past)).segments)
row_on target keep past Begin w b same e = refl
row_on target keep past (AUnit u) w b same e =
    ap (λ (q : List Item). kept_with keep (item_row target b (AUnit u) (wrote_of q (AUnit u)) (item_text q (AUnit u)) (cutter_of (live target past))) (kept_of target keep (ended_rows (live target past).segments))) same
    ∙ item_row_is target keep past (AUnit u) b e
row_on target keep past End w b same e = refl

text_on : (past : List Item) (item : Item) (w : TsKnown) (target : ℕ) → w.past ≡ run past → kept_text (cut_of target past item) (item_text (renewed item w).past item) ≡ item_bytes target past item
text_on past Begin w target same = refl
text_on past (AUnit u) w target same = ap (λ (q : List Item). kept_text (cut_of target past (AUnit u)) (item_text q (AUnit u))) same
text_on past End w target same = refl

pub cut_is : (target keep : ℕ) (w : TsKnown) (pictures lost : Bool) (c : Cutter) (k : Kept) (f : Option CutFail) (past : List Item) (item : Item) (cut : Cut) → IsSound target keep w pictures lost c k f past → f ≡ None
    → cut ≡ item_cut target pictures item (wrote_of (renewed item w).past item) (item_text (renewed item w).past item) c → cut ≡ cut_of target past item
cut_is target keep w pictures lost c k f past item cut s none e =
    let i = s.goes_on none in
    e ∙ ap (λ (x : Cutter). item_cut target pictures item (wrote_of (renewed item w).past item) (item_text (renewed item w).past item) x) s.cutter_is ∙ cut_on target past item w pictures i.same i.listed

pub bytes_are : (target keep : ℕ) (w : TsKnown) (pictures lost : Bool) (c : Cutter) (k : Kept) (f : Option CutFail) (past : List Item) (item : Item) (cut : Cut) (out out' : List ℕ)
    → IsSound target keep w pictures lost c k f past → f ≡ None
    → cut ≡ item_cut target pictures item (wrote_of (renewed item w).past item) (item_text (renewed item w).past item) c → out' ≡ out ++ kept_text cut (item_text (renewed item w).past item)
    → out' ≡ out ++ item_bytes target past item
bytes_are target keep w pictures lost c k f past item cut out out' s none e is =
    is ∙ ap (λ (x : Cut). out ++ kept_text x (item_text (renewed item w).past item)) (cut_is target keep w pictures lost c k f past item cut s none e)
    ∙ ap (λ (t : List ℕ). out ++ t) (text_on past item w target (s.goes_on none).same)

pub too_many : (target keep : ℕ) (w : TsKnown) (pictures lost : Bool) (c : Cutter) (k : Kept) (f : Option CutFail) (past : List Item) → IsSound target keep w pictures lost c k f past
    → is_full k ≡ true → is_too_many target keep past ≡ true
too_many target keep w pictures lost c k f past s full = ap is_full (sym s.kept_is) ∙ full

lost_on : (past : List Item) (item : Item) (w : TsKnown) (cut : Cut) → w.past ≡ run past → is_lost (wrote_of (renewed item w).past item) cut ≡ is_lost (wrote_of (run past) item) cut
lost_on past Begin w cut same = refl
lost_on past (AUnit u) w cut same = ap (λ (q : List Item). is_lost (wrote_of q (AUnit u)) cut) same
lost_on past End w cut same = refl

pub goes_on : (target keep : ℕ) (w w' : TsKnown) (pictures pictures' lost lost' : Bool) (c c' : Cutter) (k k' : Kept) (f : Option CutFail) (past past' : List Item) (item : Item) (cut : Cut) → IsSound target keep w pictures lost c k f past
    → f ≡ None → cut ≡ item_cut target pictures item (wrote_of (renewed item w).past item) (item_text (renewed item w).past item) c
    → lost' ≡ (is_lost (wrote_of (renewed item w).past item) cut || lost) → w' ≡ writer_given (renewed item w) item → pictures' ≡ pictures_after pictures item (wrote_of (renewed item w).past item)
    → c' ≡ item_moved target pictures item (wrote_of (renewed item w).past item) (item_text (renewed item w).past item) c
    → k' ≡ kept_with keep (item_row target pictures item (wrote_of (renewed item w).past item) (item_text (renewed item w).past item) c) k → past' ≡ item ∷ past → IsSound target keep w' pictures' lost' c' k' f past'
goes_on target keep w w' pictures pictures' lost lost' c c' k k' f past past' item cut s none cute loste we pe ce ke is =
    let i = s.goes_on none in
    let r = run_on past item w i.same i.whole w' we in
    record {
      cutter_is = ce ∙ ap (λ (x : Cutter). item_moved target pictures item (wrote_of (renewed item w).past item) (item_text (renewed item w).past item) x) s.cutter_is
          ∙ moved_on target past item w pictures i.same i.listed ∙ ap (λ (q : List Item). cutter_of (live target q)) (sym is);
      lost_is = loste ∙ ap (λ (x : Cut). is_lost (wrote_of (renewed item w).past item) x || lost) (cut_is target keep w pictures lost c k f past item cut s none cute)
          ∙ ap (λ (b : Bool). b || lost) (lost_on past item w (cut_of target past item) i.same)
          ∙ ap (λ (b : Bool). is_lost (wrote_of (run past) item) (cut_of target past item) || b) s.lost_is ∙ ap (some_lost target) (sym is);
      kept_is = ke ∙ ap (λ (x : Cutter). kept_with keep (item_row target pictures item (wrote_of (renewed item w).past item) (item_text (renewed item w).past item) x) k) s.cutter_is
          ∙ ap (λ (x : Kept). kept_with keep (item_row target pictures item (wrote_of (renewed item w).past item) (item_text (renewed item w).past item) (cutter_of (live target past))) x) s.kept_is
          ∙ row_on target keep past item w pictures i.same i.listed ∙ ap (λ (q : List Item). kept_of target keep (ended_rows (live target q).segments)) (sym is);
      goes_on = λ _. record {
        same = r.0 ∙ ap run (sym is);
        whole = r.1;
        listed = pe ∙ pictures_on past item w pictures i.same i.listed ∙ ap (λ (q : List Item). is_some (in_force (run q)).video) (sym is);
      };
    }

-- ---- the playlist

open_is : (list : List Segment) → option_to_list (option_map row_own (at_of list)) ≡ open_row list
open_is [] = refl
open_is (s ∷ earlier) = refl

most_is : (target : ℕ) (list : List Segment) (rows : List Row) → most_with (longest target rows) (option_map row_own (at_of list)) ≡ longest target (open_row list ++ rows)
most_is target [] rows = refl
most_is target (s ∷ earlier) rows = refl

listing_of : (name : List ℕ) (target keep : ℕ) (l : Live) (ended : Bool)
    → kept_listing name ended (kept_of target keep (ended_rows l.segments)) (cutter_of l) ≡ playlist name target keep l.segments ended
listing_of name target keep l true = rw (open_is l.segments, most_is target l.segments (ended_rows l.segments)) refl
listing_of name target keep l false = ap (λ (t : List Row). text_of name (longest target (ended_rows l.segments)) (length (drop keep (ended_rows l.segments))) (marks (drop keep (ended_rows l.segments))) t false) (append-nil (shown keep (ended_rows l.segments)))

pub listing_is : (name : List ℕ) (target keep : ℕ) (w : TsKnown) (pictures lost : Bool) (c : Cutter) (k : Kept) (f : Option CutFail) (past : List Item) (ended : Bool) → IsSound target keep w pictures lost c k f past
    → kept_listing name ended k c ≡ playlist name target keep (live target past).segments ended
listing_is name target keep w pictures lost c k f past ended s =
    ap (λ (x : Kept). kept_listing name ended x c) s.kept_is
    ∙ ap (λ (x : Cutter). kept_listing name ended (kept_of target keep (ended_rows (live target past).segments)) x) s.cutter_is
    ∙ listing_of name target keep (live target past) ended
