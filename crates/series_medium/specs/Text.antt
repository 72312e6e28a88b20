-- THE TEXT of a medium whose files are those of broadcasts: the frames that write them
use Rattle.std.specs.Prelude.{ℕ, ◌^◌, Bool, true, false, nat_lt, List, [], ◌∷◌, ◌++◌, length, drop, flat_map, Option, Some, None}
use Rattle.av_unit.specs.declared.item.Item.{Item}
use Rattle.av_unit.specs.declared.item.Item.TheVariants.{Begin, Unit as AUnit, End}
use Rattle.file_series.specs.Series.{last_bytes}
use Rattle.series_medium.specs.Frames.{frame_text, Adds, EndsFile}
use Rattle.series_medium.specs.Broadcasts.{flv_file, ts_file}

-- data in one frame, if their number fits. More bytes than any unit needs would have a frame each
abbrev pub framed : Bool → List ℕ → List ℕ
framed true bytes = frame_text (Adds bytes)
framed false bytes = flat_map (λ byte. frame_text (Adds (byte ∷ []))) bytes

-- and none if there are none
abbrev pub data_text : List ℕ → List ℕ
data_text [] = []
data_text (byte ∷ bytes) = framed (nat_lt (length (byte ∷ bytes)) (2 ^ 32)) (byte ∷ bytes)

-- an open file is ended
abbrev pub end_text : Option (List ℕ) → List ℕ
end_text None = []
end_text (Some bytes) = frame_text EndsFile

-- the bytes that a file has more than before
abbrev pub grown : Option (List ℕ) → Option (List ℕ) → List ℕ
grown before now = drop (length (last_bytes before)) (last_bytes now)

-- the items of the broadcast that goes on after an item
abbrev pub on_air : List Item → Item → List Item
on_air items Begin = Begin ∷ []
on_air items (AUnit unit) = items ++ AUnit unit ∷ []
on_air items End = []

module _ (file : List Item → Option (List ℕ)) where
  -- what an item adds to the file of its broadcast, of which these items came before
  abbrev pub more_of : List Item → Item → List ℕ
  more_of items item = data_text (grown (file items) (file (items ++ item ∷ [])))

  -- what an item adds to the text, where these are the items of the broadcast that goes on
  abbrev pub added : List Item → Item → List ℕ
  added items Begin = end_text (file items) ++ more_of [] Begin
  added items (AUnit unit) = more_of items (AUnit unit)
  added items End = more_of items End ++ end_text (file (items ++ End ∷ []))

  abbrev pub text_behind : List Item → List Item → List ℕ
  text_behind items [] = []
  text_behind items (item ∷ more) = added items item ++ text_behind (on_air items item) more

  abbrev pub series_text : List Item → List ℕ
  series_text items = text_behind [] items

abbrev pub flv_series_text : List Item → List ℕ
flv_series_text = series_text flv_file

abbrev pub ts_series_text : List Item → List ℕ
ts_series_text = series_text ts_file
