-- What is printed of a transport stream: a line for each unit, and their number
use Rattle.std.specs.Prelude.{◌≡◌, ℕ, Bool, false, if◌then◌else◌, List, ◌++◌, length, codes, Option, option_to_list}
use Rattle.std.specs.List.{flat_map}
use Rattle.std.specs.Fmt.{decimal}
use Rattle.ts_reader.specs.declared.unit.TsUnit.{TsUnit}
use Rattle.ts_reader.specs.declared.fail.TsFail.{TsFail}
use Rattle.ts_reader.specs.declared.fail.TsFail.TheVariants.{NoSync, BadTable, BadCounter, BadPes, BadUnit, OutOfMemory}
use Rattle.ts_reader.specs.Mux.{Mux}
use Rattle.ts_reader.specs.Reads.{EndFails, Ends, Reads, Stops}

-- video PTS DTS LEN, or audio PTS LEN, where LEN counts the payload's bytes
abbrev pub video_line : ℕ → ℕ → ℕ → List ℕ
video_line pts dts len = codes "video " ++ decimal pts ++ codes " " ++ decimal dts ++ codes " " ++ decimal len ++ codes "\n"

abbrev pub audio_line : ℕ → ℕ → List ℕ
audio_line pts len = codes "audio " ++ decimal pts ++ codes " " ++ decimal len ++ codes "\n"

-- THE LINE of a unit
abbrev pub unit_line : TsUnit → List ℕ
unit_line u = if u.video then video_line u.pts u.dts (length u.payload) else audio_line u.pts (length u.payload)

-- units N
abbrev pub count_line : ℕ → List ℕ
count_line n = codes "units " ++ decimal n ++ codes "\n"

-- the lines of units
abbrev pub lines_of : List TsUnit → List ℕ
lines_of units = flat_map unit_line units

-- THE TEXT of all units of a stream
abbrev pub check_text : List TsUnit → List ℕ
check_text units = lines_of units ++ count_line (length units)

-- the place of a refusal
abbrev pub offset_of : TsFail → ℕ
offset_of (NoSync at) = at
offset_of (BadTable at) = at
offset_of (BadCounter at kept found) = at
offset_of (BadPes at) = at
offset_of (BadUnit at) = at
offset_of OutOfMemory = 0

-- the lines of the units that bytes give, whatever follows
pub record CheckGives (bytes text : List ℕ) : Type 0 where
  pub units : List TsUnit
  pub mux : Mux
  pub rest : List ℕ
  pub reads : Reads bytes units mux rest
  pub text_is : text ≡ lines_of units

-- where bytes are refused, and the lines of the units before
pub record CheckStops (bytes : List ℕ) (at : ℕ) (text : List ℕ) : Type 0 where
  pub units : List TsUnit
  pub count : ℕ
  pub cause : TsFail
  pub stops : Stops bytes count units cause
  pub place : at ≡ offset_of cause
  pub text_is : text ≡ lines_of units

-- why bytes are refused that end here
pub record CheckCut (bytes : List ℕ) (at : ℕ) (text : List ℕ) : Type 0 where
  pub units : List TsUnit
  pub cause : TsFail
  pub fails : EndFails bytes units cause
  pub place : at ≡ offset_of cause
  pub text_is : text ≡ lines_of units

-- what is printed of a whole stream, of which nothing is left out
pub record CheckWhole (bytes : List ℕ) (some_out : Bool) (text : List ℕ) : Type 0 where
  pub units : List TsUnit
  pub last : Option TsUnit
  pub ends : Ends bytes units last
  pub none : some_out ≡ false
  pub text_is : text ≡ check_text (units ++ option_to_list last)
