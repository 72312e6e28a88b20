-- Units read from a byte stream in which each stands behind 00 00 00 01 (ISO/IEC 14496-10, annex B)
use Rattle.std.specs.Prelude.{ℕ, zero, suc, ◌+◌, ◌-◌, Bool, false, ◌==◌, ◌&&◌, if◌then◌else◌, List, [], ◌∷◌, length, take, drop, Option, Some, None, option_map, Ok}
use Rattle.avc_annexb.specs.declared.fail.AvcFail.TheVariants.{NoStart}
use Rattle.avc_annexb.specs.Prefixed.{Front, Units, judged, or_missing, then_units}

-- whether 00 00 00 01 stands at the front
abbrev pub is_start : List ℕ → Bool
is_start (a ∷ b ∷ c ∷ d ∷ _) = (a == 0) && ((b == 0) && ((c == 0) && (d == 1)))
is_start _ = false

-- the place of the first such bytes
unfoldable pub start_in : List ℕ → Option ℕ
start_in [] = None
start_in (b ∷ bs) = if is_start (b ∷ bs) then Some 0 else option_map (λ i. 1 + i) (start_in bs)

abbrev pub or_all : ℕ → Option ℕ → ℕ
or_all n (Some at) = at
or_all n None = n

-- where a unit ends: before the next of them, or with the bytes
unfoldable pub end_in : List ℕ → ℕ
end_in b = or_all (length b) (start_in b)

-- the unit behind the four bytes at the front, and what is behind it
unfoldable pub started_at : List ℕ → Option (List ℕ × List ℕ)
started_at b = if is_start b then Some (take (end_in (drop 4 b)) (drop 4 b), drop (end_in (drop 4 b)) (drop 4 b)) else None

-- the unit of this number at the front, or why it is refused at this place
unfoldable pub started_front : ℕ → ℕ → List ℕ → Front
started_front at nal b = judged nal (or_missing (NoStart at) (started_at b))

-- the units that fill the last bytes of `total`, where so many at most are there and `nal` stand before them
unfoldable pub split_in : ℕ → ℕ → ℕ → List ℕ → Units
split_in zero total nal b = Ok []
split_in (suc most) total nal [] = Ok []
split_in (suc most) total nal (x ∷ xs) =
    then_units (started_front (total - length (x ∷ xs)) nal (x ∷ xs)) (λ rest. split_in most total (nal + 1) rest)

-- THE UNITS of a byte stream, or the first refusal. There are no more of them than bytes
unfoldable pub split_of : List ℕ → Units
split_of b = split_in (length b) (length b) 0 b
