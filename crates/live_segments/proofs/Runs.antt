-- What holds over all items
use Rattle.std.proofs.Common.{◌≡◌, ◌⊎◌, ℕ, Bool, true, false, List, [], ◌∷◌, ◌++◌, Option, inl, inr, refl, sym, ap, ◌∙◌, subst, arith, append_assoc}
use Rattle.std.specs.Prelude.{◌||◌}
use Rattle.av_unit.specs.Media.{Media}
use Rattle.av_unit.specs.declared.item.Item.{Item}
use Rattle.av_unit.specs.declared.item.Item.TheVariants.{Begin, Unit as AUnit, End}
use Rattle.ts_writer.specs.declared.left.Wrote.{Wrote}
use Rattle.ts_writer.specs.declared.left.Wrote.TheVariants.{Unit as AWritten, Nothing as NothingWritten, LeftOut}
use Rattle.ts_writer.specs.Text.{item_text, ts_text, wrote_of}
use Rattle.hls_segments.proofs.Texts.{begin_text, end_text, is_written, unwritten_text}
use Rattle.live_segments.specs.declared.cut.Cut.{Cut}
use Rattle.live_segments.specs.declared.cut.Cut.TheVariants.{First, Next, Marked, Same, Nothing}
use Rattle.live_segments.specs.declared.cutter.Row.{Row}
use Rattle.live_segments.specs.declared.cutter.Way.{Way}
use Rattle.live_segments.specs.declared.cutter.Way.TheVariants.{Break, Hold, Split, Join}
use Rattle.live_segments.specs.Live.{Live, Segment, cut_of, cut_unit, ended_rows, item_bytes, kept_text, live, run, way, with_unit, with_way}
use Rattle.live_segments.specs.Laws.{IsText, IsWholeUnlessHeld, NeverBack, NumbersGoOn, is_held, some_begin, some_held, texts}
use Rattle.live_segments.proofs.Lists.{go_on}

-- ---- one row more at most

abbrev Ends : List Row → List Row → Type 0
Ends before after = (after ≡ before) ⊎ ((r : Row) × (after ≡ r ∷ before))

way_ends : (w : Way) (past : List Item) (u : Media) (list : List Segment) (p s : Option ℕ) (owed : Bool)
    → Ends (ended_rows list) (ended_rows (with_way w past u (record { segments = list; owed = owed; picture = p; sound = s })).segments)
way_ends Break past u [] p s owed = inl refl
way_ends Break past u (x ∷ earlier) p s owed = inr (_, refl)
way_ends Hold past u list p s owed = inl refl
way_ends Split past u [] p s owed = inl refl
way_ends Split past u (x ∷ earlier) p s owed = inr (_, refl)
way_ends Join past u [] p s owed = inl refl
way_ends Join past u (x ∷ earlier) p s owed = inl refl

unit_ends : (w : Wrote) (target : ℕ) (past : List Item) (u : Media) (l : Live) → Ends (ended_rows l.segments) (ended_rows (with_unit target past u w l).segments)
unit_ends AWritten target past u l = way_ends (way target past u l) past u l.segments l.picture l.sound l.owed
unit_ends NothingWritten target past u l = inl refl
unit_ends (LeftOut f) target past u l = inl refl

item_ends : (target : ℕ) (past : List Item) (item : Item) → Ends (ended_rows (live target past).segments) (ended_rows (live target (item ∷ past)).segments)
item_ends target past Begin = inl refl
item_ends target past (AUnit u) = unit_ends (wrote_of (run past) (AUnit u)) target (run past) u (live target past)
item_ends target past End = inl refl

stays : (target keep : ℕ) (rows : List Row) → NeverBack target keep rows rows
stays target keep rows = record { sequence = omega arith; marks_gone = omega arith; target_duration = omega arith }

then_on : (target keep : ℕ) (a b d : List Row) → NeverBack target keep a b → NeverBack target keep b d → NeverBack target keep a d
then_on target keep a b d x y = record {
  sequence = omega (arith, x.sequence, y.sequence);
  marks_gone = omega (arith, x.marks_gone, y.marks_gone);
  target_duration = omega (arith, x.target_duration, y.target_duration);
}

by_end : (target keep : ℕ) (a b : List Row) → Ends a b → NeverBack target keep a b
by_end target keep a b (inl e) = subst (λ (x : List Row). NeverBack target keep a x) (sym e) (stays target keep a)
by_end target keep a b (inr (r, e)) = subst (λ (x : List Row). NeverBack target keep a x) (sym e) (go_on target keep r a)

pub numbers_go_on : (target keep : ℕ) (past more : List Item) → NumbersGoOn target keep past more
numbers_go_on target keep past [] = stays target keep (ended_rows (live target past).segments)
numbers_go_on target keep past (item ∷ more) =
    then_on target keep (ended_rows (live target past).segments) (ended_rows (live target (more ++ past)).segments) (ended_rows (live target (item ∷ (more ++ past))).segments)
    (numbers_go_on target keep past more) (by_end target keep _ _ (item_ends target (more ++ past) item))

-- ---- where none is held

none_left : (a b : Bool) → (a || b) ≡ false → a ≡ false
none_left true b e = absurd (cc)
none_left false b e = refl

none_right : (a b : Bool) → (a || b) ≡ false → b ≡ false
none_right true b e = absurd (cc)
none_right false b e = e

unheld : (c : Cut) (text : List ℕ) → is_held AWritten c ≡ false → kept_text c text ≡ text
unheld Nothing text e = absurd (cc)
unheld First text e = refl
unheld Next text e = refl
unheld Marked text e = refl
unheld Same text e = refl

unit_kept : (w : Wrote) (target : ℕ) (past : List Item) (u : Media) (l : Live) → wrote_of past (AUnit u) ≡ w → is_held w (cut_unit target past u w l) ≡ false
    → kept_text (cut_unit target past u w l) (item_text past (AUnit u)) ≡ item_text past (AUnit u)
unit_kept AWritten target past u l is e = unheld (cut_unit target past u AWritten l) (item_text past (AUnit u)) e
unit_kept NothingWritten target past u l is e = sym (unwritten_text past u (ap is_written is))
unit_kept (LeftOut f) target past u l is e = sym (unwritten_text past u (ap is_written is))

item_kept : (target : ℕ) (past : List Item) (item : Item) → is_held (wrote_of (run past) item) (cut_of target past item) ≡ false → item_bytes target past item ≡ item_text (run past) item
item_kept target past Begin e = sym (begin_text (run past))
item_kept target past (AUnit u) e = unit_kept (wrote_of (run past) (AUnit u)) target (run past) u (live target past) refl e
item_kept target past End e = sym (end_text (run past))

pub whole_unless_held : (target : ℕ) (items : List Item) → IsWholeUnlessHeld target items
whole_unless_held target [] e = refl
whole_unless_held target (item ∷ past) e =
    let one = item_kept target past item (none_left (is_held (wrote_of (run past) item) (cut_of target past item)) (some_held target past) e) in
    let rest = whole_unless_held target past (none_right (is_held (wrote_of (run past) item) (cut_of target past item)) (some_held target past) e) in
    ap (λ (t : List ℕ). t ++ item_bytes target past item) rest ∙ ap (λ (t : List ℕ). texts past ++ t) one

-- ---- a broadcast's text is its own

run_of : (past more : List Item) → some_begin more ≡ false → run (more ++ Begin ∷ past) ≡ more ++ Begin ∷ []
run_of past [] e = refl
run_of past (Begin ∷ more) e = absurd (cc)
run_of past (AUnit u ∷ more) e = ap (λ (q : List Item). AUnit u ∷ q) (run_of past more e)
run_of past (End ∷ more) e = ap (λ (q : List Item). End ∷ q) (run_of past more e)

one_on : (past more : List Item) (item : Item) → run (more ++ Begin ∷ past) ≡ more ++ Begin ∷ [] → texts (more ++ Begin ∷ past) ≡ texts past ++ ts_text (more ++ Begin ∷ [])
    → texts (more ++ Begin ∷ past) ++ item_text (run (more ++ Begin ∷ past)) item ≡ texts past ++ (ts_text (more ++ Begin ∷ []) ++ item_text (more ++ Begin ∷ []) item)
one_on past more item r e =
    ap (λ (t : List ℕ). t ++ item_text (run (more ++ Begin ∷ past)) item) e ∙ ap (λ (q : List Item). (texts past ++ ts_text (more ++ Begin ∷ [])) ++ item_text q item) r
    ∙ append_assoc (texts past) (ts_text (more ++ Begin ∷ [])) (item_text (more ++ Begin ∷ []) item)

pub text_is : (past more : List Item) → IsText past more
text_is past [] e =
    ap (λ (t : List ℕ). texts past ++ t) (begin_text (run past) ∙ sym (begin_text []))
text_is past (Begin ∷ more) e = absurd (cc)
text_is past (AUnit u ∷ more) e = one_on past more (AUnit u) (run_of past more e) (text_is past more e)
text_is past (End ∷ more) e = one_on past more End (run_of past more e) (text_is past more e)
