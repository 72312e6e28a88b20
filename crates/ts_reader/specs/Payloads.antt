-- What a PES packet carries: an access unit of AVC as a byte stream (ISO/IEC 14496-10, annex B), or a frame of ADTS
-- (ISO/IEC 14496-3, 1.A.2.2)
use Rattle.std.specs.Prelude.{ℕ, zero, suc, ◌-◌, Bool, true, false, ◌==◌, ◌&&◌, ◌||◌, not, if◌then◌else◌, List, [], ◌∷◌, length, take, drop, slice_index, Option, Some, None, is_ok}
use Rattle.std.specs.Str.{bytes_eq}
use Rattle.avc_annexb.specs.Nal.{triple_in}
use Rattle.aac_adts.specs.Reading.{adts_of}

-- a zero byte and a start code (B.1.1)
abbrev pub is_started : List ℕ → Bool
is_started b = bytes_eq (0 ∷ 0 ∷ 0 ∷ 1 ∷ []) (take 4 b)

abbrev pub or_all : List ℕ → Option ℕ → ℕ
or_all b (Some at) = at
or_all b None = length b

-- how many bytes stand before the first 00 00 and a byte of at most 2, which no NAL unit has (7.4.1)
unfoldable pub unit_length : List ℕ → ℕ
unit_length b = or_all b (triple_in b)

-- so many bytes aren't a NAL unit: there are none, or the last is 0
abbrev pub is_none : ℕ → List ℕ → Bool
is_none n b = (n == 0) || (slice_index b (n - 1) == 0)

-- what stands behind the NAL unit at the front and the start code before it, if they stand there
unfoldable pub behind_unit : List ℕ → Option (List ℕ)
behind_unit b =
    if not (is_started b) then None
    else (if is_none (unit_length (drop 4 b)) (drop 4 b) then None
    else Some (drop (unit_length (drop 4 b)) (drop 4 b)))

abbrev pub if_there : Option (List ℕ) → (List ℕ → Bool) → Bool
if_there (Some rest) next = next rest
if_there None next = false

-- whether NAL units with start codes fill the bytes, of which so many at most are there
unfoldable pub units_fill : ℕ → List ℕ → Bool
units_fill most [] = true
units_fill zero (x ∷ xs) = false
units_fill (suc most) (x ∷ xs) = if_there (behind_unit (x ∷ xs)) (λ rest. units_fill most rest)

-- THE BYTE STREAM: NAL units, each behind a zero byte and a start code
abbrev pub is_stream : List ℕ → Bool
is_stream b = units_fill (length b) b

-- an access unit delimiter of any kind of slices (7.3.2.4), in its byte stream
abbrev pub delimiter : List ℕ
delimiter = 0 ∷ 0 ∷ 0 ∷ 1 ∷ 9 ∷ 0xF0 ∷ []

-- an access unit, which begins with a delimiter
abbrev pub is_access_unit : List ℕ → Bool
is_access_unit b = bytes_eq delimiter (take 6 b) && is_stream b

-- WHAT MAY BE CARRIED
abbrev pub is_carried : Bool → List ℕ → Bool
is_carried video b = if video then is_access_unit b else is_ok (adts_of b)
