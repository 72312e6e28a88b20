-- The segments of items
use Rattle.std.proofs.Common.{◌≡◌, ◌⊎◌, ◌≤◌, ◌^◌, ℕ, Bool, true, false, List, [], ◌∷◌, ◌++◌, drop, Some, is_some, Ok, inl, inr, refl, sym, ap, ◌∙◌, subst, arith, append_assoc, append-nil}
use Rattle.std.specs.Prelude.{◌&&◌, ◌||◌, not, nat_le, nat_lt, if◌then◌else◌}
use Rattle.std.proofs.lemmas.Bool.Decides.{nat_tests}
use Rattle.av_unit.specs.Media.{Media}
use Rattle.av_unit.specs.declared.unit.Kind.{Kind}
use Rattle.av_unit.specs.declared.unit.Kind.TheVariants.{Meta, VConfig, AConfig, Key, Inter, Spare, Audio, Data}
use Rattle.av_unit.specs.declared.item.Item.{Item}
use Rattle.av_unit.specs.declared.item.Item.TheVariants.{Begin, Unit as AUnit, End}
use Rattle.ts_writer.specs.declared.left.Wrote.{Wrote}
use Rattle.ts_writer.specs.declared.left.Wrote.TheVariants.{Unit as AWritten, Nothing as NothingWritten, LeftOut}
use Rattle.ts_writer.specs.declared.in_force.InForce.{InForce}
use Rattle.ts_writer.specs.declared.part.Streams.{Streams}
use Rattle.ts_writer.specs.declared.part.Part.{Part}
use Rattle.ts_writer.specs.Frames.{Frame}
use Rattle.ts_writer.specs.Parts.{is_last, lists_of, tables_due, text_behind}
use Rattle.ts_writer.specs.Text.{Reading, in_force, item_text, listed, parts, parts_by, reading, reading_of, ts_text, wrote_of}
use Rattle.hls_segments.specs.Cuts.{Segment, is_long, is_next, longer, may_begin, may_begin_by, opened, segments, since, spans, with_unit, with_written}
use Rattle.hls_segments.specs.Laws.{AllButFirst, AreCut, BeginsWithOpener, BeginsWithTables, Each, OpensWell, together}
use Rattle.hls_segments.proofs.Starts.{found, key_at, sound_at, tables_first, tables_on}
use Rattle.hls_segments.proofs.Texts.{begin_text, end_text, is_written, no_lists, unwritten_text}

-- ---- tests

both_left : (a b : Bool) → (a && b) ≡ true → a ≡ true
both_left true b e = refl
both_left false b e = absurd (cc)

both_right : (a b : Bool) → (a && b) ≡ true → b ≡ true
both_right true b e = e
both_right false b e = absurd (cc)

not_true : (a : Bool) → not a ≡ true → a ≡ false
not_true true e = absurd (cc)
not_true false e = refl

-- ---- tables stand where a segment begins

due_without : (s : Streams) (video random : Bool) (ps : List Part) → lists_of ps ≡ [] → tables_due s video random ps ≡ true
unfolding tables_due
due_without s video random ps e = rw e refl

due_random : (s : Streams) (video : Bool) (ps : List Part) → tables_due s video true ps ≡ true
unfolding tables_due
due_random s video ps = by (not (is_last s (lists_of ps))) where
  by : (b : Bool) → (b || true) ≡ true
  by true = refl
  by false = refl

item_is : (past : List Item) (u : Media) → item_text past (AUnit u) ≡ text_behind (parts past) (parts_by (listed (in_force past)) (reading (in_force past) (AUnit u)) (parts past))
unfolding item_text
item_is past u = refl

text_tables : (past : List Item) (u : Media) (f : Frame) → reading (in_force past) (AUnit u) ≡ Ok (Some f)
    → tables_due (listed (in_force past)) f.video f.random (parts past) ≡ true → BeginsWithTables (item_text past (AUnit u))
text_tables past u f is due =
    subst BeginsWithTables (sym (item_is past u ∙ ap (λ (r : Reading). text_behind (parts past) (parts_by (listed (in_force past)) r (parts past))) is))
    (tables_first (listed (in_force past)) f (parts past) due)

first_tables : (past : List Item) (u : Media) → wrote_of past (AUnit u) ≡ AWritten → lists_of (parts past) ≡ [] → BeginsWithTables (item_text past (AUnit u))
first_tables past u w e =
    let r = found (reading (in_force past) (AUnit u)) w in
    text_tables past u r.frame r.is (due_without (listed (in_force past)) r.frame.video r.frame.random (parts past) e)

kind_due : (k : Kind) (s : InForce) (time : ℕ) (body : List ℕ) (ps : List Part) (f : Frame) → reading_of s k time body ≡ Ok (Some f) → may_begin_by k (listed s) ps ≡ true
    → tables_due (listed s) f.video f.random ps ≡ true
kind_due Key s time body ps f is may = let at = key_at s time body f is in rw at.random_is (due_random (listed s) f.video ps)
kind_due Audio s time body ps f is may =
    let at = sound_at s time body f is in
    rw (at.video_is, at.random_is) (both_right (not (is_some s.video)) (tables_due (listed s) false false ps) may)
kind_due Meta s time body ps f is may = absurd (cc)
kind_due VConfig s time body ps f is may = absurd (cc)
kind_due AConfig s time body ps f is may = absurd (cc)
kind_due Inter s time body ps f is may = absurd (cc)
kind_due Spare s time body ps f is may = absurd (cc)
kind_due Data s time body ps f is may = absurd (cc)

next_tables : (past : List Item) (u : Media) → wrote_of past (AUnit u) ≡ AWritten → may_begin past u ≡ true → BeginsWithTables (item_text past (AUnit u))
next_tables past u w may =
    let r = found (reading (in_force past) (AUnit u)) w in
    text_tables past u r.frame r.is (kind_due u.kind (in_force past) u.time u.body (parts past) r.frame r.is may)

kind_opens : (k : Kind) (s : Streams) (ps : List Part) → may_begin_by k s ps ≡ true → (k ≡ Key) ⊎ ((k ≡ Audio) × (s.video ≡ false))
kind_opens Key s ps may = inl refl
kind_opens Audio s ps may = inr (refl, not_true s.video (both_left (not s.video) (tables_due s false false ps) may))
kind_opens Meta s ps may = absurd (cc)
kind_opens VConfig s ps may = absurd (cc)
kind_opens AConfig s ps may = absurd (cc)
kind_opens Inter s ps may = absurd (cc)
kind_opens Spare s ps may = absurd (cc)
kind_opens Data s ps may = absurd (cc)

-- ---- one unit more

-- what holds of segments with this text
record Holds (least : ℕ) (list : List Segment) (text : List ℕ) : Type 0 where
  whole : together list ≡ text
  tables : Each (λ s. BeginsWithTables s.bytes) list
  openers : Each BeginsWithOpener list
  begun : AllButFirst OpensWell list
  long : Each (λ span. least ≤ span) (drop 1 (spans list))

opened_well : (past : List Item) (u : Media) → BeginsWithOpener (opened past u)
opened_well past u = ([], sym (append-nil (item_text past (AUnit u))))

longer_well : (past : List Item) (u : Media) (s : Segment) → BeginsWithOpener s → BeginsWithOpener (longer past u s)
longer_well past u s b =
    (b.0 ++ item_text past (AUnit u), ap (λ (t : List ℕ). t ++ item_text past (AUnit u)) b.1 ∙ append_assoc (item_text s.before (AUnit s.opener)) b.0 (item_text past (AUnit u)))

begun_longer : (past : List Item) (u : Media) (s : Segment) (earlier : List Segment) → AllButFirst OpensWell (s ∷ earlier) → AllButFirst OpensWell (longer past u s ∷ earlier)
begun_longer past u s [] b = b
begun_longer past u s (t ∷ earlier) b = b

at_least : (least d : ℕ) → is_long least d ≡ true → least ≤ d
at_least least d e = let h : nat_le least d ≡ true = both_left (nat_le least d) (nat_lt d (2 ^ 31)) e in grind (arith, nat_tests)

with_more : (least : ℕ) (past : List Item) (u : Media) (s : Segment) (earlier : List Segment) (b : Bool) → is_next least past u s ≡ b → wrote_of past (AUnit u) ≡ AWritten
    → Holds least (s ∷ earlier) (ts_text past)
    → Holds least (if b then opened past u ∷ s ∷ earlier else longer past u s ∷ earlier) (ts_text past ++ item_text past (AUnit u))
with_more least past u s earlier true is w h =
    let may = both_left (may_begin past u) (is_long least (since s.opener.time u.time)) is in
    let long = both_right (may_begin past u) (is_long least (since s.opener.time u.time)) is in
    record {
      whole = ap (λ (t : List ℕ). t ++ item_text past (AUnit u)) h.whole;
      tables = (next_tables past u w may, h.tables);
      openers = (opened_well past u, h.openers);
      begun = (kind_opens u.kind (listed (in_force past)) (parts past) may, h.begun);
      long = (at_least least (since s.opener.time u.time) long, h.long);
    }
with_more least past u s earlier false is w h = record {
  whole = sym (append_assoc (together earlier) s.bytes (item_text past (AUnit u))) ∙ ap (λ (t : List ℕ). t ++ item_text past (AUnit u)) h.whole;
  tables = (tables_on s.bytes (item_text past (AUnit u)) h.tables.0, h.tables.1);
  openers = (longer_well past u s h.openers.0, h.openers.1);
  begun = begun_longer past u s earlier h.begun;
  long = h.long;
}

with_one : (least : ℕ) (past : List Item) (u : Media) (list : List Segment) → wrote_of past (AUnit u) ≡ AWritten → (list ≡ [] → lists_of (parts past) ≡ [])
    → Holds least list (ts_text past) → Holds least (with_written least past u list) (ts_text past ++ item_text past (AUnit u))
with_one least past u [] w none h = record {
  whole = ap (λ (t : List ℕ). t ++ item_text past (AUnit u)) h.whole;
  tables = (first_tables past u w (none refl), tt);
  openers = (opened_well past u, tt);
  begun = tt;
  long = tt;
}
with_one least past u (s ∷ earlier) w none h = with_more least past u s earlier (is_next least past u s) refl w h

unchanged : (least : ℕ) (list : List Segment) (text more : List ℕ) → more ≡ [] → Holds least list text → Holds least list (text ++ more)
unchanged least list text more e h = subst (λ (t : List ℕ). Holds least list t) (sym (ap (λ (m : List ℕ). text ++ m) e ∙ append-nil text)) h

unit_holds : (w : Wrote) (least : ℕ) (past : List Item) (u : Media) → wrote_of past (AUnit u) ≡ w → Holds least (segments least past) (ts_text past)
    → Holds least (with_unit least past u w (segments least past)) (ts_text past ++ item_text past (AUnit u))
unit_holds AWritten least past u is h = with_one least past u (segments least past) is (λ e. no_lists least past e) h
unit_holds NothingWritten least past u is h =
    unchanged least (segments least past) (ts_text past) (item_text past (AUnit u)) (unwritten_text past u (ap is_written is)) h
unit_holds (LeftOut l) least past u is h =
    unchanged least (segments least past) (ts_text past) (item_text past (AUnit u)) (unwritten_text past u (ap is_written is)) h

all_hold : (least : ℕ) (items : List Item) → Holds least (segments least items) (ts_text items)
all_hold least [] = record { whole = refl; tables = tt; openers = tt; begun = tt; long = tt }
all_hold least (Begin ∷ past) = unchanged least (segments least past) (ts_text past) (item_text past Begin) (begin_text past) (all_hold least past)
all_hold least (End ∷ past) = unchanged least (segments least past) (ts_text past) (item_text past End) (end_text past) (all_hold least past)
all_hold least (AUnit u ∷ past) = unit_holds (wrote_of past (AUnit u)) least past u refl (all_hold least past)

pub are_cut : (least : ℕ) (items : List Item) → AreCut least items
are_cut least items =
    let h = all_hold least items in
    record { whole = h.whole; tables = h.tables; openers = h.openers; begun = h.begun; long = h.long }
