-- Only proofs and private functions use it.
-- What a file keeps that is being read, and what its parts do
use Rattle.std.specs.Prelude.{◌≡◌, ℕ, Bool, List, ◌++◌, reverse, length, None}
use Rattle.flv_tags.specs.declared.fail.FlvFail.{FlvFail}
use Rattle.flv_tags.specs.declared.fail.FlvFail.TheVariants as flv
use Rattle.flv_tags.specs.Known.{Known as TagsKnown}
use Rattle.flv_tags.specs.Feeds.{Stands as TagsStand}
use Rattle.ts_reader.specs.declared.fail.TsFail.{TsFail}
use Rattle.ts_reader.specs.declared.fail.TsFail.TheVariants as ts
use Rattle.ts_reader.specs.Known.{Known as UnitsKnown}
use Rattle.ts_reader.specs.Feeds.{Stands as UnitsStand}
use Rattle.ts_writer.specs.Known.{TsKnown}
use Rattle.ts_writer.specs.Text.{ts_text}
use Rattle.av_unit.specs.declared.item.Item.{Item}
use Rattle.file_commands.specs.declared.fail.Fail.{Fail}
use Rattle.file_commands.specs.declared.fail.Fail.TheVariants.{Refused, OutOfMemory}
use Rattle.file_commands.specs.declared.left_out.LeftOut.{LeftOut}
use Rattle.file_commands.specs.LeftOut.{left_out_of}
use Rattle.file_commands.specs.Remux.{items, left_out, some_enhanced}

-- the tags that were read are written
pub record TagsFit (reader : TagsKnown) (writer : TsKnown) (left : LeftOut) (enhanced : Bool) : Type 0 where
  pub lives : reader.failed ≡ None
  pub stands : TagsStand reader
  pub past : writer.past ≡ reverse (items reader.given)
  pub left_is : left ≡ left_out reader.given
  pub enhanced_is : enhanced ≡ some_enhanced reader.given

-- the units that were read are counted
pub record UnitsFit (reader : UnitsKnown) (count : ℕ) : Type 0 where
  pub lives : reader.failed ≡ None
  pub stands : UnitsStand reader
  pub counted : count ≡ length reader.given

-- items are written behind others: more of them, and the text that they add
pub record Writes (more past past' : List Item) (left left' : LeftOut) (out out' : List ℕ) : Type 0 where
  pub past_is : past' ≡ reverse more ++ past
  pub text : List ℕ
  pub text_is : ts_text past' ≡ ts_text past ++ text
  pub out_is : out' ≡ out ++ text
  pub left_is : left ≡ left_out_of past → left' ≡ left_out_of past'

abbrev pub tags_refusal : FlvFail → Fail
tags_refusal (flv.BadHeader at) = Refused at
tags_refusal (flv.BadTag at) = Refused at
tags_refusal (flv.BadBack at stored real) = Refused at
tags_refusal flv.OutOfMemory = OutOfMemory

abbrev pub units_refusal : TsFail → Fail
units_refusal (ts.NoSync at) = Refused at
units_refusal (ts.BadTable at) = Refused at
units_refusal (ts.BadCounter at kept found) = Refused at
units_refusal (ts.BadPes at) = Refused at
units_refusal (ts.BadUnit at) = Refused at
units_refusal ts.OutOfMemory = OutOfMemory
