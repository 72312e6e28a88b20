-- What contracts see of a live segmenter: its target, the number of segments that it lists, the items that it was given, and
-- whether it has failed
use Rattle.std.specs.Prelude.{ℕ, List, [], ◌∷◌, Option, None, Some}
use Rattle.av_unit.specs.declared.item.Item.{Item}
use Rattle.live_segments.specs.declared.cut.CutFail.{CutFail}

pub record Known : Type 0 where
  pub target : ℕ
  pub keep : ℕ
  pub past : List Item
  pub failed : Option CutFail

abbrev pub fresh : ℕ → ℕ → Known
fresh target keep = record { target = target; keep = keep; past = []; failed = None }

abbrev pub given : Known → Item → Known
given k item = record { target = k.target; keep = k.keep; past = item ∷ k.past; failed = k.failed }

abbrev pub refused : Known → CutFail → Known
refused k fail = record { target = k.target; keep = k.keep; past = k.past; failed = Some fail }
