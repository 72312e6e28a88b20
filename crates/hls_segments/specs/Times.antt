-- Only proofs and private functions use it.
-- What a segmenter keeps of the segments: the spans of those that are followed by another, the oldest first,
-- and the times of the first and the last unit of the one that is being written
use Rattle.std.specs.Prelude.{◌≡◌, ℕ, ◌+◌, Bool, false, ◌&&◌, not, nat_lt, if◌then◌else◌, List, [], ◌∷◌, ◌++◌, length, reverse, is_some, Option, Some, None}
use Rattle.av_unit.specs.declared.item.Item.{Item}
use Rattle.av_unit.specs.declared.item.Item.TheVariants.{Begin, Unit as AUnit, End}
use Rattle.av_unit.specs.Media.{Media}
use Rattle.ts_writer.specs.declared.left.Wrote.{Wrote}
use Rattle.ts_writer.specs.declared.left.Wrote.TheVariants.{Unit as AWritten, Nothing as NothingWritten, LeftOut}
use Rattle.ts_writer.specs.Known.{TsKnown}
use Rattle.ts_writer.specs.Text.{in_force}
use Rattle.hls_segments.specs.declared.cut.Cut.{Cut}
use Rattle.hls_segments.specs.declared.cut.Cut.TheVariants.{First, Next, Same, Nothing}
use Rattle.hls_segments.specs.declared.cut.CutFail.{CutFail}
use Rattle.hls_segments.specs.declared.times.Ends.{Ends}
use Rattle.hls_segments.specs.Cuts.{Segment, is_long, last_span, most_segments, segments, since, some_left_out, spans_before}
use Rattle.hls_segments.specs.Opens.{opens}

pub record Timed : Type 0 where
  pub closed : List ℕ
  pub current : Option Ends

abbrev pub ends_at : ℕ → ℕ → Ends
ends_at first last = record { first = first; last = last }

abbrev pub no_times : Timed
no_times = record { closed = []; current = None }

abbrev pub timed_of : List Segment → Timed
timed_of [] = no_times
timed_of (s ∷ earlier) = record { closed = reverse (spans_before s.opener.time earlier); current = Some (ends_at s.opener.time s.last) }

-- whether a unit begins the next segment
abbrev pub begins : ℕ → Bool → ℕ → Ends → Bool
begins least may time e = may && is_long least (since e.first time)

abbrev pub cut_now : ℕ → Bool → ℕ → Option Ends → Cut
cut_now least may time None = First
cut_now least may time (Some e) = if begins least may time e then Next else Same

-- with one unit more
abbrev pub tick : ℕ → Bool → ℕ → List ℕ → Option Ends → Timed
tick least may time closed None = record { closed = closed; current = Some (ends_at time time) }
tick least may time closed (Some e) =
    if begins least may time e then record { closed = closed ++ since e.first time ∷ []; current = Some (ends_at time time) }
    else record { closed = closed; current = Some (ends_at e.first time) }

abbrev pub cut_at : ℕ → Bool → ℕ → Timed → Cut
cut_at least may time t = cut_now least may time t.current

abbrev pub ticked : ℕ → Bool → ℕ → Timed → Timed
ticked least may time t = tick least may time t.closed t.current

-- there are as many segments as there may be
abbrev pub is_full : Timed → Bool
is_full t = not (nat_lt (length t.closed + 1) most_segments)

-- what an item does, by what its writer answered and appended
abbrev pub unit_cut : ℕ → Bool → Media → Wrote → List ℕ → Timed → Cut
unit_cut least pictures u AWritten text t = cut_at least (opens u.kind pictures text) u.time t
unit_cut least pictures u NothingWritten text t = Nothing
unit_cut least pictures u (LeftOut left) text t = Nothing

abbrev pub unit_ticked : ℕ → Bool → Media → Wrote → List ℕ → Timed → Timed
unit_ticked least pictures u AWritten text t = ticked least (opens u.kind pictures text) u.time t
unit_ticked least pictures u NothingWritten text t = t
unit_ticked least pictures u (LeftOut left) text t = t

abbrev pub item_cut : ℕ → Bool → Item → Wrote → List ℕ → Timed → Cut
item_cut least pictures Begin wrote text t = Nothing
item_cut least pictures (AUnit u) wrote text t = unit_cut least pictures u wrote text t
item_cut least pictures End wrote text t = Nothing

abbrev pub item_ticked : ℕ → Bool → Item → Wrote → List ℕ → Timed → Timed
item_ticked least pictures Begin wrote text t = t
item_ticked least pictures (AUnit u) wrote text t = unit_ticked least pictures u wrote text t
item_ticked least pictures End wrote text t = t

-- all spans, the oldest first
abbrev pub last_of : Option Ends → List ℕ
last_of None = []
last_of (Some e) = last_span e.first e.last ∷ []

abbrev pub all_spans : Timed → List ℕ
all_spans t = t.closed ++ last_of t.current

-- what a segmenter keeps true: its writer was given what it was given, until one of them failed
pub record IsPast (writer : TsKnown) (pictures : Bool) (past : List Item) : Type 0 where
  pub same : writer.past ≡ past
  pub whole : writer.broken ≡ false
  pub listed : pictures ≡ is_some (in_force past).video

pub record IsSound (least : ℕ) (writer : TsKnown) (pictures left_out : Bool) (times : Timed) (failed : Option CutFail) (past : List Item) : Type 0 where
  pub times_are : times ≡ timed_of (segments least past)
  pub left_out_is : left_out ≡ some_left_out past
  pub goes_on : failed ≡ None → IsPast writer pictures past
