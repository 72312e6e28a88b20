-- One item more
use Rattle.std.proofs.Common.{◌≡◌, ℕ, suc, ◌+◌, Bool, true, false, List, [], ◌∷◌, ◌++◌, length, Option, Some, None, is_some, Result, Ok, Err, refl, sym, ap, ◌∙◌, arith}
use Rattle.std.specs.Prelude.{◌&&◌, ◌||◌, not, nat_lt, if◌then◌else◌, reverse}
use Rattle.std.proofs.lemmas.List.{length-reverse}
use Rattle.std.proofs.lemmas.Grind.{reverse_onto}
use Rattle.av_unit.specs.Media.{Media}
use Rattle.av_unit.specs.declared.unit.Kind.{Kind}
use Rattle.av_unit.specs.declared.unit.Kind.TheVariants.{Meta, VConfig, AConfig, Key, Inter, Spare, Audio, Data}
use Rattle.av_unit.specs.declared.item.Item.{Item}
use Rattle.av_unit.specs.declared.item.Item.TheVariants.{Begin, Unit as AUnit, End}
use Rattle.ts_writer.specs.declared.left.Left.{Left}
use Rattle.ts_writer.specs.declared.left.Wrote.{Wrote}
use Rattle.ts_writer.specs.declared.left.Wrote.TheVariants.{Unit as AWritten, Nothing as NothingWritten, LeftOut}
use Rattle.ts_writer.specs.declared.in_force.InForce.{InForce}
use Rattle.ts_writer.specs.declared.part.Part.{Part}
use Rattle.ts_writer.specs.Known.{TsKnown, given as writer_given}
use Rattle.ts_writer.specs.Frames.{video_config}
use Rattle.ts_writer.specs.Parts.{text_behind}
use Rattle.ts_writer.specs.Text.{in_force, item_text, listed, nothing_of, parts, parts_by, read_or_none, reading, reading_of, video_by, wrote_by, wrote_of}
use Rattle.hls_segments.specs.declared.cut.Cut.{Cut}
use Rattle.hls_segments.specs.declared.cut.Cut.TheVariants.{First, Next, Same, Nothing}
use Rattle.hls_segments.specs.declared.cut.CutFail.{CutFail}
use Rattle.hls_segments.specs.declared.times.Ends.{Ends}
use Rattle.hls_segments.specs.Cuts.{Segment, cut_by, cut_of, cut_unit, is_further, is_left_out, is_next, is_too_many, last_span, longer, may_begin, may_begin_by, most_segments, opened, segments, since, some_left_out, spans, spans_before, stands_alone, with_unit, with_written}
use Rattle.hls_segments.specs.Opens.{has_tables, is_read, opens, pictures_after, pictures_by}
use Rattle.hls_segments.specs.Times.{IsSound, Timed, all_spans, cut_at, ends_at, is_full, item_cut, item_ticked, ticked, timed_of, unit_cut, unit_ticked}
use Rattle.hls_segments.proofs.Starts.{found, frame_starts, sound_at}

-- ---- whether pictures are listed

read_is : {X : Type 0} (r : Result X Left) → is_read (wrote_by (nothing_of r)) ≡ is_some (read_or_none r)
read_is (Ok x) = refl
read_is (Err l) = refl

kind_pictures : (k : Kind) (time : ℕ) (body : List ℕ) (s : InForce) (b : Bool) → b ≡ is_some s.video
    → pictures_by k b (wrote_by (reading_of s k time body)) ≡ is_some (video_by s.video k body)
kind_pictures Meta time body s b e = e
kind_pictures VConfig time body s b e = read_is (video_config body)
kind_pictures AConfig time body s b e = e
kind_pictures Key time body s b e = e
kind_pictures Inter time body s b e = e
kind_pictures Spare time body s b e = e
kind_pictures Audio time body s b e = e
kind_pictures Data time body s b e = e

pub pictures_are : (past : List Item) (item : Item) (b : Bool) → b ≡ is_some (in_force past).video
    → pictures_after b item (wrote_of past item) ≡ is_some (in_force (item ∷ past)).video
pictures_are past Begin b e = refl
pictures_are past (AUnit u) b e = kind_pictures u.kind u.time u.body (in_force past) b e
pictures_are past End b e = e

-- ---- where a segment may begin

item_is : (past : List Item) (u : Media) → item_text past (AUnit u) ≡ text_behind (parts past) (parts_by (listed (in_force past)) (reading (in_force past) (AUnit u)) (parts past))
unfolding item_text
item_is past u = refl

sound_opens : (s : InForce) (time : ℕ) (body : List ℕ) (ps : List Part) (pictures : Bool) → wrote_by (reading_of s Audio time body) ≡ AWritten → pictures ≡ is_some s.video
    → (not pictures && has_tables (text_behind ps (parts_by (listed s) (reading_of s Audio time body) ps))) ≡ stands_alone (listed s) ps
sound_opens s time body ps pictures w e =
    let r = found (reading_of s Audio time body) w in
    let at = sound_at s time body r.frame r.is in
    let starts = frame_starts (listed s) r.frame ps in
    rw (r.is, starts, at.video_is, at.random_is, e) refl

kind_opens : (k : Kind) (s : InForce) (time : ℕ) (body : List ℕ) (ps : List Part) (pictures : Bool) → wrote_by (reading_of s k time body) ≡ AWritten → pictures ≡ is_some s.video
    → opens k pictures (text_behind ps (parts_by (listed s) (reading_of s k time body) ps)) ≡ may_begin_by k (listed s) ps
kind_opens Meta s time body ps pictures w e = refl
kind_opens VConfig s time body ps pictures w e = refl
kind_opens AConfig s time body ps pictures w e = refl
kind_opens Key s time body ps pictures w e = refl
kind_opens Inter s time body ps pictures w e = refl
kind_opens Spare s time body ps pictures w e = refl
kind_opens Audio s time body ps pictures w e = sound_opens s time body ps pictures w e
kind_opens Data s time body ps pictures w e = refl

pub unit_opens : (past : List Item) (u : Media) (pictures : Bool) → wrote_of past (AUnit u) ≡ AWritten → pictures ≡ is_some (in_force past).video
    → opens u.kind pictures (item_text past (AUnit u)) ≡ may_begin past u
unit_opens past u pictures w e =
    ap (λ (t : List ℕ). opens u.kind pictures t) (item_is past u) ∙ kind_opens u.kind (in_force past) u.time u.body (parts past) pictures w e

-- ---- times

cut_written : (least : ℕ) (past : List Item) (u : Media) (may : Bool) (list : List Segment) → may ≡ may_begin past u → cut_at least may u.time (timed_of list) ≡ cut_by least past u list
cut_written least past u may [] e = refl
cut_written least past u may (s ∷ earlier) e = rw e refl

abbrev timed : List ℕ → Option Ends → Timed
timed c o = record { closed = c; current = o }

ticked_if : (b : Bool) (past : List Item) (u : Media) (s : Segment) (earlier : List Segment)
    → (if b then record { closed = reverse (spans_before s.opener.time earlier) ++ since s.opener.time u.time ∷ []; current = Some (ends_at u.time u.time) }
    else record { closed = reverse (spans_before s.opener.time earlier); current = Some (ends_at s.opener.time u.time) })
    ≡ timed_of (if b then opened past u ∷ s ∷ earlier else longer past u s ∷ earlier)
ticked_if true past u s earlier =
    ap (λ (c : List ℕ). timed c (Some (ends_at u.time u.time))) (sym (reverse_onto (spans_before s.opener.time earlier) (since s.opener.time u.time) []))
ticked_if false past u s earlier = refl

ticked_written : (least : ℕ) (past : List Item) (u : Media) (may : Bool) (list : List Segment) → may ≡ may_begin past u
    → ticked least may u.time (timed_of list) ≡ timed_of (with_written least past u list)
ticked_written least past u may [] e = refl
ticked_written least past u may (s ∷ earlier) e = rw e (ticked_if (is_next least past u s) past u s earlier)

unit_cut_is : (w : Wrote) (least : ℕ) (past : List Item) (u : Media) (pictures : Bool) (text : List ℕ) (list : List Segment)
    → (w ≡ AWritten → opens u.kind pictures text ≡ may_begin past u) → unit_cut least pictures u w text (timed_of list) ≡ cut_unit least past u w list
unit_cut_is AWritten least past u pictures text list e = cut_written least past u (opens u.kind pictures text) list (e refl)
unit_cut_is NothingWritten least past u pictures text list e = refl
unit_cut_is (LeftOut l) least past u pictures text list e = refl

unit_ticked_is : (w : Wrote) (least : ℕ) (past : List Item) (u : Media) (pictures : Bool) (text : List ℕ) (list : List Segment)
    → (w ≡ AWritten → opens u.kind pictures text ≡ may_begin past u) → unit_ticked least pictures u w text (timed_of list) ≡ timed_of (with_unit least past u w list)
unit_ticked_is AWritten least past u pictures text list e = ticked_written least past u (opens u.kind pictures text) list (e refl)
unit_ticked_is NothingWritten least past u pictures text list e = refl
unit_ticked_is (LeftOut l) least past u pictures text list e = refl

pub item_cut_is : (least : ℕ) (past : List Item) (item : Item) (pictures : Bool) → pictures ≡ is_some (in_force past).video
    → item_cut least pictures item (wrote_of past item) (item_text past item) (timed_of (segments least past)) ≡ cut_of least past item
item_cut_is least past Begin pictures e = refl
item_cut_is least past (AUnit u) pictures e =
    unit_cut_is (wrote_of past (AUnit u)) least past u pictures (item_text past (AUnit u)) (segments least past) (λ w. unit_opens past u pictures w e)
item_cut_is least past End pictures e = refl

pub item_ticked_is : (least : ℕ) (past : List Item) (item : Item) (pictures : Bool) → pictures ≡ is_some (in_force past).video
    → item_ticked least pictures item (wrote_of past item) (item_text past item) (timed_of (segments least past)) ≡ timed_of (segments least (item ∷ past))
item_ticked_is least past Begin pictures e = refl
item_ticked_is least past (AUnit u) pictures e =
    unit_ticked_is (wrote_of past (AUnit u)) least past u pictures (item_text past (AUnit u)) (segments least past) (λ w. unit_opens past u pictures w e)
item_ticked_is least past End pictures e = refl

-- ---- how many there are

spans_length : (next : ℕ) (list : List Segment) → length (spans_before next list) ≡ length list
spans_length next [] = refl
spans_length next (s ∷ earlier) = ap (λ (n : ℕ). suc n) (spans_length s.opener.time earlier)

pub full_is : (list : List Segment) → is_full (timed_of list) ≡ not (nat_lt (length list) most_segments)
full_is [] = refl
full_is (s ∷ earlier) =
    let e : length (reverse (spans_before s.opener.time earlier)) + 1 ≡ suc (length earlier) =
    omega (arith, length-reverse (spans_before s.opener.time earlier), spans_length s.opener.time earlier) in
    ap (λ (n : ℕ). not (nat_lt n most_segments)) e

pub not_too_many : (c : Cut) (list : List Segment) → (c ≡ Next → is_full (timed_of list) ≡ false) → (is_further c && not (nat_lt (length list) most_segments)) ≡ false
not_too_many Next list h = sym (full_is list) ∙ h refl
not_too_many First list h = refl
not_too_many Same list h = refl
not_too_many Nothing list h = refl

pub too_many : (c : Cut) (list : List Segment) → c ≡ Next → is_full (timed_of list) ≡ true → (is_further c && not (nat_lt (length list) most_segments)) ≡ true
too_many Next list e h = sym (full_is list) ∙ h
too_many First list e h = absurd (cc)
too_many Same list e h = absurd (cc)
too_many Nothing list e h = absurd (cc)

-- ---- the spans, the oldest first
pub spans_are : (list : List Segment) → all_spans (timed_of list) ≡ reverse (spans list)
spans_are [] = refl
spans_are (s ∷ earlier) = sym (reverse_onto (spans_before s.opener.time earlier) (last_span s.opener.time s.last) [])

-- ---- a segmenter that was given an item

pub cut_is : (least : ℕ) (w : TsKnown) (pictures left : Bool) (t : Timed) (f : Option CutFail) (past : List Item) (item : Item) (c : Cut) → IsSound least w pictures left t f past → f ≡ None
    → c ≡ item_cut least pictures item (wrote_of w.past item) (item_text w.past item) t → c ≡ cut_of least past item
cut_is least w pictures left t f past item c s none e =
    let i = s.goes_on none in
    e ∙ ap (λ (q : List Item). item_cut least pictures item (wrote_of q item) (item_text q item) t) i.same
    ∙ ap (λ (x : Timed). item_cut least pictures item (wrote_of past item) (item_text past item) x) s.times_are ∙ item_cut_is least past item pictures i.listed

pub text_is : (least : ℕ) (w : TsKnown) (pictures left : Bool) (t : Timed) (f : Option CutFail) (past : List Item) (item : Item) (out out' : List ℕ) → IsSound least w pictures left t f past
    → f ≡ None → out' ≡ out ++ item_text w.past item → out' ≡ out ++ item_text past item
text_is least w pictures left t f past item out out' s none e = e ∙ ap (λ (q : List Item). out ++ item_text q item) (s.goes_on none).same

pub room_is : (least : ℕ) (w : TsKnown) (pictures left : Bool) (t : Timed) (f : Option CutFail) (past : List Item) (item : Item) (c : Cut) → IsSound least w pictures left t f past → f ≡ None
    → c ≡ item_cut least pictures item (wrote_of w.past item) (item_text w.past item) t → (c ≡ Next → is_full t ≡ false) → is_too_many least past item ≡ false
room_is least w pictures left t f past item c s none e room =
    let h = cut_is least w pictures left t f past item c s none e in
    not_too_many (cut_of least past item) (segments least past) (λ next. ap is_full (sym s.times_are) ∙ room (h ∙ next))

pub full_too_many : (least : ℕ) (w : TsKnown) (pictures left : Bool) (t : Timed) (f : Option CutFail) (past : List Item) (item : Item) → IsSound least w pictures left t f past → f ≡ None
    → item_cut least pictures item (wrote_of w.past item) (item_text w.past item) t ≡ Next → is_full t ≡ true → is_too_many least past item ≡ true
full_too_many least w pictures left t f past item s none next full =
    let h = cut_is least w pictures left t f past item _ s none refl in
    too_many (cut_of least past item) (segments least past) (sym h ∙ next) (ap is_full (sym s.times_are) ∙ full)

pub goes_on : (least : ℕ) (w w' : TsKnown) (pictures pictures' left left' : Bool) (t t' : Timed) (f : Option CutFail) (past past' : List Item) (item : Item) → IsSound least w pictures left t f past
    → f ≡ None → w' ≡ writer_given w item → pictures' ≡ pictures_after pictures item (wrote_of w.past item)
    → left' ≡ (is_left_out (wrote_of w.past item) || left) → t' ≡ item_ticked least pictures item (wrote_of w.past item) (item_text w.past item) t → past' ≡ item ∷ past → IsSound least w' pictures' left' t' f past'
goes_on least w w' pictures pictures' left left' t t' f past past' item s none we pe le te is =
    let i = s.goes_on none in
    record {
      times_are = te ∙ ap (λ (q : List Item). item_ticked least pictures item (wrote_of q item) (item_text q item) t) i.same
          ∙ ap (λ (x : Timed). item_ticked least pictures item (wrote_of past item) (item_text past item) x) s.times_are
          ∙ item_ticked_is least past item pictures i.listed ∙ ap (λ (q : List Item). timed_of (segments least q)) (sym is);
      left_out_is = le ∙ ap (λ (q : List Item). is_left_out (wrote_of q item) || left) i.same ∙ ap (λ (b : Bool). is_left_out (wrote_of past item) || b) s.left_out_is
          ∙ ap some_left_out (sym is);
      goes_on = λ _. record {
        same = ap (λ (k : TsKnown). k.past) we ∙ ap (λ (q : List Item). item ∷ q) i.same ∙ sym is;
        whole = ap (λ (k : TsKnown). k.broken) we ∙ i.whole;
        listed = pe ∙ ap (λ (q : List Item). pictures_after pictures item (wrote_of q item)) i.same ∙ pictures_are past item pictures i.listed
            ∙ ap (λ (q : List Item). is_some (in_force q).video) (sym is);
      };
    }
