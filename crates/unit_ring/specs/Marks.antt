-- Only proofs and private functions use it.
-- The numbers of the configurations in effect.
use Rattle.std.specs.Prelude.{◌≡◌, ℕ, Bool, true, false, ◌+◌, List, length, None, Some, if◌then◌else◌}
use Rattle.std.specs.declared.option.Option.{Option}
use Rattle.av_unit.specs.declared.item.Item.{Item}
use Rattle.av_unit.specs.declared.item.Item.TheVariants as item
use Rattle.av_unit.specs.declared.unit.Kind.{Kind}
use Rattle.av_unit.specs.declared.unit.Kind.TheVariants.{Meta, VConfig, AConfig, Key}
use Rattle.av_unit.specs.declared.head.Slot.{Slot}
use Rattle.av_unit.specs.declared.head.Slot.TheVariants as slot
use Rattle.stream_model.specs.Items.{config_at, has_kind, last_where, last_of, is_live, live_after}
use Rattle.stream_model.specs.Slots.{is_video}
use Rattle.unit_ring.specs.declared.marks.Marks.{Marks}
use Rattle.unit_ring.specs.declared.newest.Newest.{Newest}

abbrev pub no_marks : Marks
no_marks = record { meta = None; video = None; audio = None }

abbrev pub mark_of : Slot → Marks → Option ℕ
mark_of slot.Meta m = m.meta
mark_of slot.Video m = m.video
mark_of slot.Audio m = m.audio

-- those in effect at n
abbrev pub marks_at : List Item → ℕ → Marks
marks_at items n = record { meta = config_at Meta items n; video = config_at VConfig items n; audio = config_at AConfig items n }

-- the last of a kind in a broadcast, after item n
abbrev pub last_after : Kind → ℕ → Item → Option ℕ → Option ℕ
last_after kind n item.Begin before = None
last_after kind n (item.Unit u) before = if has_kind kind (item.Unit u) then Some n else before
last_after kind n item.End before = before

abbrev pub marks_after : ℕ → Item → Marks → Marks
marks_after n x m = record { meta = last_after Meta n x m.meta; video = last_after VConfig n x m.video; audio = last_after AConfig n x m.audio }

-- what is known at the end of the items
abbrev pub newest_after : Item → Newest → Newest
newest_after x s = record {
  end = s.end + 1;
  marks = marks_after s.end x s.marks;
  live = live_after s.live x;
  key = last_after Key s.end x s.key;
  video = if is_video x then Some s.end else s.video;
}

pub record IsNewest (items : List Item) (s : Newest) : Type 0 where
  pub end : s.end ≡ length items
  pub marks : s.marks ≡ marks_at items (length items)
  pub live : s.live ≡ is_live items
  pub key : s.key ≡ last_of Key items
  pub video : s.video ≡ last_where is_video items

abbrev pub is_unit : Item → Bool
is_unit item.Begin = false
is_unit (item.Unit u) = true
is_unit item.End = false
