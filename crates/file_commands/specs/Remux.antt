-- What a file of FLV becomes: the transport stream of a Begin and of the units of its tags
use Rattle.std.specs.Prelude.{◌≡◌, ◌⊎◌, ℕ, Bool, false, ◌==◌, ◌&&◌, nat_le, List, [], ◌∷◌, reverse, slice_index, Option, Some, None, is_some}
use Rattle.std.specs.List.{flat_map, list_any}
use Rattle.av_unit.specs.Classes.{unit_from}
use Rattle.av_unit.specs.Media.{Media}
use Rattle.av_unit.specs.declared.item.Item.{Item}
use Rattle.av_unit.specs.declared.item.Item.TheVariants.{Begin, Unit as AUnit}
use Rattle.flv_tags.specs.declared.tag.Tag.{Tag}
use Rattle.flv_tags.specs.declared.fail.FlvFail.{FlvFail}
use Rattle.flv_tags.specs.declared.fail.FlvFail.TheVariants.{BadHeader, BadTag, BadBack, OutOfMemory}
use Rattle.flv_tags.specs.Reads.{IsFile, Reads}
use Rattle.flv_tags.specs.Stops.{Ends, Stops}
use Rattle.ts_writer.specs.Text.{ts_text}
use Rattle.file_commands.specs.declared.left_out.LeftOut.{LeftOut}
use Rattle.file_commands.specs.declared.remuxes.Remuxed.{Remuxed}
use Rattle.file_commands.specs.LeftOut.{left_out_of, none_left}

abbrev pub as_item : Option Media → List Item
as_item None = []
as_item (Some u) = AUnit u ∷ []

-- the unit of a tag, if it has a class
abbrev pub items_of : Tag → List Item
items_of t = as_item (unit_from t.kind t.time t.body 0)

-- a Begin and the units of tags
abbrev pub items : List Tag → List Item
items tags = Begin ∷ flat_map items_of tags

-- THE TEXT of tags
abbrev pub remux_text : List Tag → List ℕ
remux_text tags = ts_text (reverse (items tags))

-- WHAT IS LEFT OUT of the text of tags; tags without a class aren't counted
abbrev pub left_out : List Tag → LeftOut
left_out tags = left_out_of (reverse (items tags))

-- whether a unit is
abbrev pub leaves_out : List Tag → Bool
leaves_out tags = is_some (left_out tags).first

-- a picture in the form of Enhanced RTMP, which has no class: the highest bit of its first byte is set
abbrev pub is_enhanced : Tag → Bool
is_enhanced t = nat_le 128 (slice_index t.body 0) && (t.kind == 9)

abbrev pub some_enhanced : List Tag → Bool
some_enhanced tags = list_any is_enhanced tags

-- the place of a refusal
abbrev pub offset_of : FlvFail → ℕ
offset_of (BadHeader at) = at
offset_of (BadTag at) = at
offset_of (BadBack at stored real) = at
offset_of OutOfMemory = 0

-- the text of bytes that read as tags, whatever follows
pub record RemuxGives (bytes text : List ℕ) : Type 0 where
  pub tags : List Tag
  pub rest : List ℕ
  pub reads : Reads bytes tags rest
  pub text_is : text ≡ remux_text tags

-- where bytes are refused, and the text of the tags before
pub record RemuxStops (bytes : List ℕ) (at : ℕ) (text : List ℕ) : Type 0 where
  pub tags : List Tag
  pub count : ℕ
  pub cause : FlvFail
  pub stops : Stops bytes count tags cause
  pub place : at ≡ offset_of cause
  pub text_is : text ≡ remux_text tags

-- why bytes aren't a whole file, though they read as tags
pub record RemuxCut (bytes : List ℕ) (at : ℕ) (text : List ℕ) : Type 0 where
  pub tags : List Tag
  pub cause : FlvFail
  pub ends : Ends bytes tags cause
  pub place : at ≡ offset_of cause
  pub text_is : text ≡ remux_text tags

-- what a whole file becomes, and whether a unit is left out
pub record RemuxWhole (bytes : List ℕ) (some_out : Bool) (text : List ℕ) : Type 0 where
  pub tags : List Tag
  pub file : IsFile bytes tags
  pub out_is : some_out ≡ leaves_out tags
  pub text_is : text ≡ remux_text tags

-- what is told of a whole file
pub record RemuxTold (left : LeftOut) (enhanced : Bool) (bytes : List ℕ) : Type 0 where
  pub tags : List Tag
  pub file : IsFile bytes tags
  pub left_is : left ≡ left_out tags
  pub enhanced_is : enhanced ≡ some_enhanced tags

-- the file was read to its end
abbrev pub IsWholeCode : ℕ → Type 0
IsWholeCode code = (code ≡ 0) ⊎ (code ≡ 8)

-- nothing is told of another
pub record TellsNothing (r : Remuxed) : Type 0 where
  pub left : r.left_out ≡ none_left
  pub enhanced : r.enhanced ≡ false
