-- Items of which nothing is written
use Rattle.std.proofs.Common.{◌≡◌, ℕ, Bool, true, false, List, [], ◌∷◌, Some, None, Ok, Err, refl, ap, ◌∙◌}
use Rattle.std.specs.Prelude.{if◌then◌else◌}
use Rattle.av_unit.specs.Media.{Media}
use Rattle.av_unit.specs.declared.item.Item.{Item}
use Rattle.av_unit.specs.declared.item.Item.TheVariants.{Begin, Unit as AUnit, End}
use Rattle.ts_writer.specs.declared.left.Wrote.{Wrote}
use Rattle.ts_writer.specs.declared.left.Wrote.TheVariants.{Unit as AWritten, Nothing as NothingWritten, LeftOut}
use Rattle.ts_writer.specs.declared.part.Streams.{Streams}
use Rattle.ts_writer.specs.declared.part.Part.{Part}
use Rattle.ts_writer.specs.declared.part.Part.TheVariants.{Start}
use Rattle.ts_writer.specs.Parts.{lists_of, part_text, text_behind, with_parts}
use Rattle.ts_writer.specs.Text.{Reading, in_force, item_text, listed, parts, parts_by, reading, wrote_by, wrote_of}
use Rattle.hls_segments.specs.Cuts.{Segment, is_next, longer, opened, segments, with_unit, with_written}

abbrev pub is_written : Wrote → Bool
is_written AWritten = true
is_written NothingWritten = false
is_written (LeftOut l) = false

no_parts : (s : Streams) (r : Reading) (ps : List Part) → is_written (wrote_by r) ≡ false → parts_by s r ps ≡ []
no_parts s (Ok None) ps e = refl
no_parts s (Ok (Some f)) ps e = absurd (cc)
no_parts s (Err l) ps e = refl

-- nothing stands behind no parts
none_behind : (ps : List Part) → text_behind ps [] ≡ []
unfolding text_behind
none_behind ps = refl

start_behind : (ps : List Part) → text_behind ps (Start ∷ []) ≡ []
unfolding text_behind part_text
start_behind ps = refl

pub begin_text : (past : List Item) → item_text past Begin ≡ []
unfolding item_text
begin_text past = start_behind (parts past)

pub end_text : (past : List Item) → item_text past End ≡ []
unfolding item_text
end_text past = none_behind (parts past)

pub unwritten_text : (past : List Item) (u : Media) → is_written (wrote_of past (AUnit u)) ≡ false → item_text past (AUnit u) ≡ []
unfolding item_text
unwritten_text past u e =
    ap (λ (more : List Part). text_behind (parts past) more) (no_parts (listed (in_force past)) (reading (in_force past) (AUnit u)) (parts past) e)
    ∙ none_behind (parts past)

-- without a segment no tables were written
unwritten_lists : (s : Streams) (r : Reading) (ps : List Part) → is_written (wrote_by r) ≡ false → lists_of ps ≡ [] → lists_of (with_parts ps (parts_by s r ps)) ≡ []
unwritten_lists s r ps w e = ap (λ (more : List Part). lists_of (with_parts ps more)) (no_parts s r ps w) ∙ e

some_segment : (least : ℕ) (past : List Item) (u : Media) (list : List Segment) → with_written least past u list ≡ [] → ⊥
some_segment least past u [] e = cc
some_segment least past u (s ∷ earlier) e = some_by (is_next least past u s) e where
  some_by : (b : Bool) → (if b then opened past u ∷ s ∷ earlier else longer past u s ∷ earlier) ≡ [] → ⊥
  some_by true e = cc
  some_by false e = cc

unit_lists : (w : Wrote) (least : ℕ) (past : List Item) (u : Media) → wrote_of past (AUnit u) ≡ w → (segments least past ≡ [] → lists_of (parts past) ≡ [])
    → with_unit least past u w (segments least past) ≡ [] → lists_of (parts (AUnit u ∷ past)) ≡ []
unit_lists AWritten least past u is before e = absurd (some_segment least past u (segments least past) e)
unit_lists NothingWritten least past u is before e =
    unwritten_lists (listed (in_force past)) (reading (in_force past) (AUnit u)) (parts past) (ap is_written is) (before e)
unit_lists (LeftOut l) least past u is before e =
    unwritten_lists (listed (in_force past)) (reading (in_force past) (AUnit u)) (parts past) (ap is_written is) (before e)

pub no_lists : (least : ℕ) (past : List Item) → segments least past ≡ [] → lists_of (parts past) ≡ []
no_lists least [] e = refl
no_lists least (Begin ∷ past) e = no_lists least past e
no_lists least (End ∷ past) e = no_lists least past e
no_lists least (AUnit u ∷ past) e = unit_lists (wrote_of past (AUnit u)) least past u refl (no_lists least past) e
