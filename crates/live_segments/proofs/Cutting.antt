-- The live segments of items
use Rattle.std.proofs.Common.{◌≡◌, ◌⊎◌, ℕ, Bool, true, false, List, [], ◌∷◌, ◌++◌, Some, is_some, Ok, inl, inr, refl, sym, ap, ◌∙◌, subst, append_assoc, append-nil}
use Rattle.std.specs.Prelude.{◌&&◌, ◌||◌, not, if◌then◌else◌}
use Rattle.av_unit.specs.Media.{Media}
use Rattle.av_unit.specs.declared.unit.Kind.{Kind}
use Rattle.av_unit.specs.declared.unit.Kind.TheVariants.{Meta, VConfig, AConfig, Key, Inter, Spare, Audio, Data}
use Rattle.av_unit.specs.declared.item.Item.{Item}
use Rattle.av_unit.specs.declared.item.Item.TheVariants.{Begin, Unit as AUnit, End}
use Rattle.ts_writer.specs.declared.left.Wrote.{Wrote}
use Rattle.ts_writer.specs.declared.left.Wrote.TheVariants.{Unit as AWritten, Nothing as NothingWritten, LeftOut}
use Rattle.ts_writer.specs.declared.in_force.InForce.{InForce}
use Rattle.ts_writer.specs.declared.part.Streams.{Streams}
use Rattle.ts_writer.specs.declared.part.Part.{Part}
use Rattle.ts_writer.specs.Frames.{Frame}
use Rattle.ts_writer.specs.Parts.{is_last, lists_of, tables_due, text_behind}
use Rattle.ts_writer.specs.Text.{Reading, in_force, item_text, listed, parts, parts_by, reading, reading_of, wrote_of}
use Rattle.hls_segments.specs.Cuts.{may_begin, may_begin_by}
use Rattle.hls_segments.specs.Laws.{BeginsWithTables, Each}
use Rattle.hls_segments.proofs.Starts.{found, key_at, sound_at, tables_first, tables_on}
use Rattle.live_segments.specs.declared.cut.Cut.TheVariants.{First, Marked}
use Rattle.live_segments.specs.declared.cutter.Way.TheVariants.{Join}
use Rattle.live_segments.specs.Ways.{long_by, way_of}
use Rattle.live_segments.specs.Live.{Live, Segment, cut_by, cut_unit, turns, is_broken, joined, kept_text, live, opened, run, some, stream, with_unit, with_way}
use Rattle.live_segments.specs.Laws.{AreLive, BeginsWithOpener, OpensWell, together}

-- ---- tests

both_left : (a b : Bool) → (a && b) ≡ true → a ≡ true
both_left true b e = refl
both_left false b e = absurd (cc)

both_right : (a b : Bool) → (a && b) ≡ true → b ≡ true
both_right true b e = e
both_right false b e = absurd (cc)

not_true : (a : Bool) → not a ≡ true → a ≡ false
not_true true e = absurd (cc)
not_true false e = refl

-- ---- tables stand where a segment begins

due_random : (s : Streams) (video : Bool) (ps : List Part) → tables_due s video true ps ≡ true
unfolding tables_due
due_random s video ps = by (not (is_last s (lists_of ps))) where
  by : (b : Bool) → (b || true) ≡ true
  by true = refl
  by false = refl

item_is : (past : List Item) (u : Media) → item_text past (AUnit u) ≡ text_behind (parts past) (parts_by (listed (in_force past)) (reading (in_force past) (AUnit u)) (parts past))
unfolding item_text
item_is past u = refl

text_tables : (past : List Item) (u : Media) (f : Frame) → reading (in_force past) (AUnit u) ≡ Ok (Some f)
    → tables_due (listed (in_force past)) f.video f.random (parts past) ≡ true → BeginsWithTables (item_text past (AUnit u))
text_tables past u f is due =
    subst BeginsWithTables (sym (item_is past u ∙ ap (λ (r : Reading). text_behind (parts past) (parts_by (listed (in_force past)) r (parts past))) is))
    (tables_first (listed (in_force past)) f (parts past) due)

kind_due : (k : Kind) (s : InForce) (time : ℕ) (body : List ℕ) (ps : List Part) (f : Frame) → reading_of s k time body ≡ Ok (Some f) → may_begin_by k (listed s) ps ≡ true
    → tables_due (listed s) f.video f.random ps ≡ true
kind_due Key s time body ps f is may = let at = key_at s time body f is in rw at.random_is (due_random (listed s) f.video ps)
kind_due Audio s time body ps f is may =
    let at = sound_at s time body f is in
    rw (at.video_is, at.random_is) (both_right (not (is_some s.video)) (tables_due (listed s) false false ps) may)
kind_due Meta s time body ps f is may = absurd (cc)
kind_due VConfig s time body ps f is may = absurd (cc)
kind_due AConfig s time body ps f is may = absurd (cc)
kind_due Inter s time body ps f is may = absurd (cc)
kind_due Spare s time body ps f is may = absurd (cc)
kind_due Data s time body ps f is may = absurd (cc)

next_tables : (past : List Item) (u : Media) → wrote_of past (AUnit u) ≡ AWritten → may_begin past u ≡ true → BeginsWithTables (item_text past (AUnit u))
next_tables past u w may =
    let r = found (reading (in_force past) (AUnit u)) w in
    text_tables past u r.frame r.is (kind_due u.kind (in_force past) u.time u.body (parts past) r.frame r.is may)

kind_opens : (k : Kind) (s : Streams) (ps : List Part) → may_begin_by k s ps ≡ true → (k ≡ Key) ⊎ ((k ≡ Audio) × (s.video ≡ false))
kind_opens Key s ps may = inl refl
kind_opens Audio s ps may = inr (refl, not_true s.video (both_left (not s.video) (tables_due s false false ps) may))
kind_opens Meta s ps may = absurd (cc)
kind_opens VConfig s ps may = absurd (cc)
kind_opens AConfig s ps may = absurd (cc)
kind_opens Inter s ps may = absurd (cc)
kind_opens Spare s ps may = absurd (cc)
kind_opens Data s ps may = absurd (cc)

-- ---- one unit more

-- what holds of segments with these bytes
record Holds (list : List Segment) (text : List ℕ) : Type 0 where
  whole : together list ≡ text
  tables : Each (λ s. BeginsWithTables s.bytes) list
  openers : Each BeginsWithOpener list
  begun : Each OpensWell list

-- and the first segment is owed until there is one
record Goes (l : Live) (text : List ℕ) : Type 0 where
  holds : Holds l.segments text
  first : l.segments ≡ [] → l.owed ≡ true

opened_holds : (past : List Item) (u : Media) (marked : Bool) (list : List Segment) (text : List ℕ) → wrote_of past (AUnit u) ≡ AWritten → may_begin past u ≡ true
    → Holds list text → Holds (opened past u marked ∷ list) (text ++ item_text past (AUnit u))
opened_holds past u marked list text w may h = record {
  whole = ap (λ (t : List ℕ). t ++ item_text past (AUnit u)) h.whole;
  tables = (next_tables past u w may, h.tables);
  openers = (([], sym (append-nil (item_text past (AUnit u)))), h.openers);
  begun = (kind_opens u.kind (listed (in_force past)) (parts past) may, h.begun);
}

joined_holds : (past : List Item) (u : Media) (list : List Segment) (text : List ℕ) → (list ≡ [] → ⊥) → Holds list text
    → Holds (joined past u list) (text ++ kept_text (cut_by Join (some list)) (item_text past (AUnit u)))
joined_holds past u [] text some h = absurd (some refl)
joined_holds past u (s ∷ earlier) text some h =
    let b = h.openers.0 in
    let more : List ℕ = item_text past (AUnit u) in
    record {
      whole = sym (append_assoc (together earlier) s.bytes more) ∙ ap (λ (t : List ℕ). t ++ more) h.whole;
      tables = (tables_on s.bytes more h.tables.0, h.tables.1);
      openers = ((b.0 ++ more, ap (λ (t : List ℕ). t ++ more) b.1 ∙ append_assoc (item_text s.before (AUnit s.opener)) b.0 more), h.openers.1);
      begun = (h.begun.0, h.begun.1);
    }

kept_either : (b : Bool) (text : List ℕ) → kept_text (if b then Marked else First) text ≡ text
kept_either true text = refl
kept_either false text = refl

not_owed : (owed back : Bool) → (owed || back) ≡ false → owed ≡ true → ⊥
not_owed true back e o = cc
not_owed false back e o = cc

not_none : (past : List Item) (u : Media) (list : List Segment) → joined past u list ≡ [] → ⊥
not_none past u [] e = cc
not_none past u (s ∷ earlier) e = cc

join_goes : (past : List Item) (u : Media) (l : Live) (text : List ℕ) → is_broken u l ≡ false → Goes l text
    → Goes (with_way Join past u l) (text ++ kept_text (cut_by Join (some l.segments)) (item_text past (AUnit u)))
join_goes past u l text broken h = record {
  holds = joined_holds past u l.segments text (λ none. not_owed l.owed _ broken (h.first none)) h.holds;
  first = λ e. absurd (not_none past u l.segments e);
}

way_goes : (broken may long : Bool) (past : List Item) (u : Media) (l : Live) (text : List ℕ) → is_broken u l ≡ broken → may_begin past u ≡ may → wrote_of past (AUnit u) ≡ AWritten → Goes l text
    → Goes (with_way (way_of broken may long) past u l) (text ++ kept_text (cut_by (way_of broken may long) (some l.segments)) (item_text past (AUnit u)))
way_goes true true long past u l text b m w h = record {
  holds = subst (λ (t : List ℕ). Holds (opened past u (some l.segments) ∷ l.segments) (text ++ t)) (sym (kept_either (some l.segments) (item_text past (AUnit u))))
      (opened_holds past u (some l.segments) l.segments text w m h.holds);
  first = λ e. absurd (cc);
}
way_goes true false long past u l text b m w h = record {
  holds = subst (λ (t : List ℕ). Holds l.segments t) (sym (append-nil text)) h.holds;
  first = λ e. refl;
}
way_goes false true true past u l text b m w h = record { holds = opened_holds past u false l.segments text w m h.holds; first = λ e. absurd (cc) }
way_goes false true false past u l text b m w h = join_goes past u l text b h
way_goes false false long past u l text b m w h = join_goes past u l text b h

none_more : (l : Live) (text : List ℕ) → Goes l text → Goes l (text ++ [])
none_more l text h = subst (λ (t : List ℕ). Goes l t) (sym (append-nil text)) h

unit_goes : (w : Wrote) (target : ℕ) (past : List Item) (u : Media) (l : Live) (text : List ℕ) → wrote_of past (AUnit u) ≡ w → Goes l text
    → Goes (with_unit target past u w l) (text ++ kept_text (cut_unit target past u w l) (item_text past (AUnit u)))
unit_goes AWritten target past u l text is h =
    way_goes (is_broken u l) (may_begin past u) (long_by target u.time (turns l.segments)) past u l text refl refl is h
unit_goes NothingWritten target past u l text is h = none_more l text h
unit_goes (LeftOut left) target past u l text is h = none_more l text h

all_go : (target : ℕ) (items : List Item) → Goes (live target items) (stream target items)
all_go target [] = record { holds = record { whole = refl; tables = tt; openers = tt; begun = tt }; first = λ e. refl }
all_go target (Begin ∷ past) =
    let h = all_go target past in
    record { holds = subst (λ (t : List ℕ). Holds (live target past).segments t) (sym (append-nil (stream target past))) h.holds; first = λ e. refl }
all_go target (AUnit u ∷ past) = unit_goes (wrote_of (run past) (AUnit u)) target (run past) u (live target past) (stream target past) refl (all_go target past)
all_go target (End ∷ past) = none_more (live target past) (stream target past) (all_go target past)

pub are_live : (target : ℕ) (items : List Item) → AreLive target items
are_live target items =
    let h = (all_go target items).holds in
    record { whole = h.whole; tables = h.tables; openers = h.openers; begun = h.begun }
