-- A transport stream as a recording: its text goes on with each item
use Rattle.std.specs.Prelude.{ℕ, ◌+◌, ◌-◌, ◌^◌, min, Bool, if◌then◌else◌, List, [], ◌∷◌, ◌++◌, reverse}
use Rattle.std.proofs.Common.{sym, ap, ◌∙◌, subst, append_assoc}
use Rattle.std.proofs.lemmas.List.{append-nil, reverse-append}
use Rattle.av_unit.specs.declared.item.Item.{Item}
use Rattle.turn_gate.specs.Histories.{Begins}
use Rattle.ts_writer.specs.declared.left.Wrote.{Wrote}
use Rattle.ts_writer.specs.declared.left.Wrote.TheVariants.{Unit as AWritten, Nothing, LeftOut}
use Rattle.ts_writer.specs.Text.{in_force, item_text, ts_text, wrote_of}
use Rattle.ts_writer.specs.Held.{held_of}

-- what contracts see of the medium: the items that it has written, the oldest first, and whether it still writes
pub record TsState : Type 0 where
  pub items : List Item
  pub writes : Bool

-- THE TEXT of items that were taken in this order
abbrev pub recorded_text : List Item → List ℕ
recorded_text items = ts_text (reverse items)

-- the parameter sets in force; none once it writes no more
abbrev pub kept_of : TsState → ℕ
kept_of s = if s.writes then held_of (in_force (reverse s.items)) else 0

abbrev pub counts : Wrote → ℕ
counts (LeftOut left) = 1
counts AWritten = 0
counts Nothing = 0

-- how many of the items, of which the newest stands first, are left out of their text
abbrev pub left_out_of : List Item → ℕ
left_out_of [] = 0
left_out_of (item ∷ past) = left_out_of past + counts (wrote_of past item)

-- HOW MANY of the items that were taken in this order are left out, up to the last number of a u64
abbrev pub left_out : List Item → ℕ
left_out items = min (left_out_of (reverse items)) (2 ^ 64 - 1)

text_on : (newer past : List Item) → Begins (ts_text past) (ts_text (newer ++ past))
text_on [] past = ([], append-nil (ts_text past))
text_on (item ∷ newer) past =
    let b = text_on newer past in (
      b.0 ++ item_text (newer ++ past) item,
      sym (append_assoc (ts_text past) b.0 (item_text (newer ++ past) item)) ∙ ap (λ (l : List ℕ). l ++ item_text (newer ++ past) item) b.1,
    )

pub ts_goes_on : (items more : List Item) → Begins (recorded_text items) (recorded_text (items ++ more))
ts_goes_on items more =
    subst (λ (l : List Item). Begins (recorded_text items) (ts_text l)) (sym (reverse-append items more)) (text_on (reverse more) (reverse items))
