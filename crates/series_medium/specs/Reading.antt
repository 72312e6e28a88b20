-- THE READING of bytes as frames, byte for byte
use Rattle.std.specs.Prelude.{ℕ, zero, suc, ◌-◌, ◌<◌, nat_eq, if◌then◌else◌, List, [], ◌∷◌, fold, Option, Some, None}
use Rattle.relay_base.specs.Numbers.{be32_of}
use Rattle.file_series.specs.Series.{Series, took, after_next}
use Rattle.series_medium.specs.declared.part.Part.{Part}
use Rattle.series_medium.specs.declared.part.Part.TheVariants.{Kind, Length1, Length2, Length3, Length4, Data}

-- the part of a frame that the next byte is, or None once a byte came that no frame has there; and the files so far
pub record Reading : Type 0 where
  pub part : Option Part
  pub series : Series

-- before the first frame
abbrev pub start : Series → Reading
start s = record { part = Some Kind; series = s }

-- no frame of data is empty
abbrev pub data_of : ℕ → Option Part
data_of size = if nat_eq size 0 then None else Some (Data size)

-- what follows so many bytes of data before the end of a frame
abbrev pub data_or_kind : ℕ → Part
data_or_kind left = if nat_eq left 0 then Kind else Data left

abbrev pub behind_kind : ℕ → Option Part
behind_kind zero = Some Length1
behind_kind (suc zero) = Some Kind
behind_kind (suc (suc n)) = None

-- the part behind a byte
abbrev pub behind : Part → ℕ → Option Part
behind Kind byte = behind_kind byte
behind Length1 a = Some (Length2 a)
behind (Length2 a) b = Some (Length3 a b)
behind (Length3 a b) c = Some (Length4 a b c)
behind (Length4 a b c) d = data_of (be32_of (a ∷ b ∷ c ∷ d ∷ []))
behind (Data left) byte = Some (data_or_kind (left - 1))

abbrev pub with_kind : ℕ → Series → Series
with_kind zero s = s
with_kind (suc zero) s = after_next None s
with_kind (suc (suc n)) s = s

-- what a byte does to the files
abbrev pub with_byte : Part → ℕ → Series → Series
with_byte Kind byte s = with_kind byte s
with_byte Length1 byte s = s
with_byte (Length2 a) byte s = s
with_byte (Length3 a b) byte s = s
with_byte (Length4 a b c) byte s = s
with_byte (Data left) byte s = took (byte ∷ []) s

abbrev pub read_in : Option Part → ℕ → Series → Reading
read_in None byte s = record { part = None; series = s }
read_in (Some part) byte s = record { part = behind part byte; series = with_byte part byte s }

abbrev pub read_byte : Reading → ℕ → Reading
read_byte r byte = read_in r.part byte r.series

abbrev pub read : Reading → List ℕ → Reading
read r bytes = fold read_byte r bytes

-- THE FILES of bytes, behind those of a series
abbrev pub files_read : List ℕ → Series → Series
files_read bytes s = (read (start s) bytes).series

-- the part that the next byte is
abbrev pub part_behind : List ℕ → Option Part
part_behind bytes = (read (start (record { ended = []; last = None })) bytes).part

-- data is due while a byte of it is left
abbrev pub IsDue : Part → Type 0
IsDue Kind = Unit {0}
IsDue Length1 = Unit {0}
IsDue (Length2 a) = Unit {0}
IsDue (Length3 a b) = Unit {0}
IsDue (Length4 a b c) = Unit {0}
IsDue (Data left) = 0 < left
