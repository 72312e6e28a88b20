-- What an item does to the bytes of the segments, by its answer
use Rattle.std.proofs.Common.{◌≡◌, ℕ, Bool, true, false, List, [], ◌∷◌, ◌++◌, Option, refl}
use Rattle.av_unit.specs.Media.{Media}
use Rattle.av_unit.specs.declared.item.Item.{Item}
use Rattle.av_unit.specs.declared.item.Item.TheVariants.{Begin, Unit as AUnit, End}
use Rattle.ts_writer.specs.declared.left.Wrote.{Wrote}
use Rattle.ts_writer.specs.declared.left.Wrote.TheVariants.{Unit as AWritten, Nothing as NothingWritten, LeftOut}
use Rattle.ts_writer.specs.Text.{item_text, wrote_of}
use Rattle.live_segments.specs.declared.cut.Cut.{Cut}
use Rattle.live_segments.specs.declared.cut.Cut.TheVariants.{First, Next, Marked, Same, Nothing}
use Rattle.live_segments.specs.declared.cutter.Way.{Way}
use Rattle.live_segments.specs.declared.cutter.Way.TheVariants.{Break, Hold, Split, Join}
use Rattle.live_segments.specs.Live.{Live, Segment, cut_by, cut_of, cut_unit, item_bytes, kept_text, live, longer, opened, run, some, way, with_unit, with_way}

-- one segment more, of these bytes
pub record IsBehind (bytes : List ℕ) (before after : List Segment) : Type 0 where
  pub new : Segment
  pub bytes_are : new.bytes ≡ bytes
  pub after_is : after ≡ new ∷ before

-- the same segments, the newest of which has these bytes more
pub record IsLonger (bytes : List ℕ) (before after : List Segment) : Type 0 where
  pub last : Segment
  pub new : Segment
  pub earlier : List Segment
  pub before_is : before ≡ last ∷ earlier
  pub after_is : after ≡ new ∷ earlier
  pub bytes_are : new.bytes ≡ last.bytes ++ bytes

abbrev pub Grown : Cut → List ℕ → List Segment → List Segment → Type 0
Grown First bytes before after = (before ≡ []) × IsBehind bytes before after
Grown Next bytes before after = IsBehind bytes before after
Grown Marked bytes before after = IsBehind bytes before after
Grown Same bytes before after = IsLonger bytes before after
Grown Nothing bytes before after = after ≡ before

behind : (past : List Item) (u : Media) (marked : Bool) (list : List Segment) → IsBehind (item_text past (AUnit u)) list (opened past u marked ∷ list)
behind past u marked list = record { new = opened past u marked; bytes_are = refl; after_is = refl }

way_grows : (w : Way) (past : List Item) (u : Media) (list : List Segment) (p s : Option ℕ) (owed : Bool)
    → Grown (cut_by w (some list)) (kept_text (cut_by w (some list)) (item_text past (AUnit u))) list
    (with_way w past u (record { segments = list; owed = owed; picture = p; sound = s })).segments
way_grows Break past u [] p s owed = (refl, behind past u false [])
way_grows Break past u (x ∷ earlier) p s owed = behind past u true (x ∷ earlier)
way_grows Hold past u list p s owed = refl
way_grows Split past u list p s owed = behind past u false list
way_grows Join past u [] p s owed = (refl, behind past u false [])
way_grows Join past u (x ∷ earlier) p s owed = record { last = x; new = longer past u x; earlier = earlier; before_is = refl; after_is = refl; bytes_are = refl }

unit_grows : (w : Wrote) (target : ℕ) (past : List Item) (u : Media) (l : Live)
    → Grown (cut_unit target past u w l) (kept_text (cut_unit target past u w l) (item_text past (AUnit u))) l.segments (with_unit target past u w l).segments
unit_grows AWritten target past u l = way_grows (way target past u l) past u l.segments l.picture l.sound l.owed
unit_grows NothingWritten target past u l = refl
unit_grows (LeftOut f) target past u l = refl

pub item_grows : (target : ℕ) (past : List Item) (item : Item)
    → Grown (cut_of target past item) (item_bytes target past item) (live target past).segments (live target (item ∷ past)).segments
item_grows target past Begin = refl
item_grows target past (AUnit u) = unit_grows (wrote_of (run past) (AUnit u)) target (run past) u (live target past)
item_grows target past End = refl
