-- What contracts see of a segmenter: the least span, the items that it was given, the newest first, and
-- whether it has failed
use Rattle.std.specs.Prelude.{ℕ, List, [], ◌∷◌, Option, None, Some}
use Rattle.av_unit.specs.declared.item.Item.{Item}
use Rattle.hls_segments.specs.declared.cut.CutFail.{CutFail}

pub record Known : Type 0 where
  pub least : ℕ
  pub past : List Item
  pub failed : Option CutFail

abbrev pub fresh : ℕ → Known
fresh least = record { least = least; past = []; failed = None }

abbrev pub given : Known → Item → Known
given k item = record { least = k.least; past = item ∷ k.past; failed = k.failed }

abbrev pub refused : Known → CutFail → Known
refused k fail = record { least = k.least; past = k.past; failed = Some fail }
