-- The text of a recording: the header, and a tag for each unit; markers write nothing
use Rattle.std.specs.Prelude.{ℕ, ◌<◌, ◌^◌, List, [], ◌∷◌, ◌++◌, flat_map}
use Rattle.av_unit.specs.declared.item.Item.{Item}
use Rattle.av_unit.specs.declared.item.Item.TheVariants.{Begin, Unit as AUnit, End}
use Rattle.av_unit.specs.Classes.{message_type}
use Rattle.av_unit.specs.Fits.{Fits}
use Rattle.av_unit.specs.Media.{Media}
use Rattle.flv_tags.specs.declared.tag.Tag.{Tag}
use Rattle.flv_tags.specs.Written.{header, tag_bytes}

-- the tag of a unit, whose body is that of a tag of its message's type (E.4.2 to E.4.4)
abbrev pub tag_of : Media → Tag
tag_of u = record { kind = message_type u.kind; time = u.time; body = u.body }

-- the tag of an item, if it has one
abbrev pub tags_of : Item → List Tag
tags_of (AUnit u) = tag_of u ∷ []
tags_of Begin = []
tags_of End = []

-- its bytes
abbrev pub item_bytes : Item → List ℕ
item_bytes (AUnit u) = tag_bytes (tag_of u)
item_bytes Begin = []
item_bytes End = []

-- a unit that a program can hold
pub record IsUnit (u : Media) : Type 0 where
  pub fits : Fits u.kind u.body
  pub time : u.time < 2 ^ 32

abbrev pub IsHeld : Item → Type 0
IsHeld (AUnit u) = IsUnit u
IsHeld Begin = Unit {0}
IsHeld End = Unit {0}

-- THE TEXT of items that were taken in this order
abbrev pub flv_text : List Item → List ℕ
flv_text items = header ++ flat_map item_bytes items
