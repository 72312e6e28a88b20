-- What is left out of the transport stream of items. Lists of items have the newest first.
use Rattle.std.specs.Prelude.{◌+◌, ◌-◌, ◌^◌, min, List, [], ◌∷◌, Some, None}
use Rattle.std.specs.Option.{option_or}
use Rattle.av_unit.specs.declared.item.Item.{Item}
use Rattle.ts_writer.specs.declared.left.Wrote.{Wrote}
use Rattle.ts_writer.specs.declared.left.Wrote.TheVariants.{Unit as AWritten, Nothing, LeftOut}
use Rattle.ts_writer.specs.Text.{wrote_of}
use Rattle.file_commands.specs.declared.left_out.LeftOut.{LeftOut as Count}

abbrev pub none_left : Count
none_left = record { count = 0; first = None }

-- with one item more
abbrev pub noted : Count → Wrote → Count
noted l (LeftOut left) = record { count = min (l.count + 1) (2 ^ 64 - 1); first = option_or l.first (Some left) }
noted l AWritten = l
noted l Nothing = l

-- HOW MANY of the items are left out of their text, up to the last number of a u64, and why the first of these is
abbrev pub left_out_of : List Item → Count
left_out_of [] = none_left
left_out_of (item ∷ past) = noted (left_out_of past) (wrote_of past item)
