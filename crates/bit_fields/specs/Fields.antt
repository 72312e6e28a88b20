-- Fields of bits, as the tables of ISO/IEC 13818-1 and 14496-3 list them: the first has the highest bits
use Rattle.std.specs.Prelude.{◌≡◌, ℕ, ◌+◌, ◌*◌, ◌/◌, ◌%◌, ◌^◌, ◌<◌, List, [], ◌∷◌, ◌++◌}
use Rattle.std.specs.Int.{bytes_high_first}

-- how many bits a field has, and its number
abbrev pub Field : Type 0
Field = ℕ × ℕ

-- how many bits fields have
abbrev pub width : List Field → ℕ
width [] = 0
width (f ∷ fs) = f.0 + width fs

-- the number of their bits
abbrev pub number : List Field → ℕ
number [] = 0
number (f ∷ fs) = f.1 * 2 ^ width fs + number fs

-- the bytes of fields that fill whole bytes
abbrev pub field_bytes : List Field → List ℕ
field_bytes fs = bytes_high_first (width fs / 8) (number fs)

-- each number fits its field
abbrev pub AllFit : List Field → Type 0
AllFit [] = Unit {0}
AllFit (f ∷ fs) = (f.1 < 2 ^ f.0) × AllFit fs

-- a field between others is read back from their number
abbrev pub IsReadBack : List Field → ℕ → ℕ → List Field → Type 0
IsReadBack before bits value after =
    value < 2 ^ bits → AllFit after → number (before ++ (bits, value) ∷ after) / 2 ^ width after % 2 ^ bits ≡ value
