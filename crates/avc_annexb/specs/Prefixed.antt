-- NAL units with their lengths before them (ISO/IEC 14496-15, 5.3.4.2)
use Rattle.std.specs.Prelude.{◌≡◌, ℕ, ◌+◌, ◌-◌, ◌<◌, ◌^◌, ◌⊎◌, ◌==◌, nat_le, zero, suc, if◌then◌else◌, List, [], ◌∷◌, ◌++◌, length, take, drop, slice_index, Option, Some, None, Result, Ok, Err}
use Rattle.std.specs.Int.{bytes_high_first}
use Rattle.relay_base.specs.Numbers.{be16_of, be32_of}
use Rattle.avc_annexb.specs.declared.fail.AvcFail.{AvcFail}
use Rattle.avc_annexb.specs.declared.fail.AvcFail.TheVariants.{PastEnd}
use Rattle.avc_annexb.specs.Nal.{AreNals, verdict}

-- how many bytes a length may have
abbrev pub IsSize : ℕ → Type 0
IsSize size = (size ≡ 1) ⊎ (size ≡ 2) ⊎ (size ≡ 4)

-- the length at the front
unfoldable pub length_at : ℕ → List ℕ → ℕ
length_at size b = if size == 1 then slice_index b 0 else (if size == 2 then be16_of b else be32_of b)

-- the unit at the front, behind its length, and what is behind both, where all of it is there
unfoldable pub unit_at : ℕ → List ℕ → Option (List ℕ × List ℕ)
unit_at size b =
    if nat_le (size + length_at size b) (length b)
    then Some (take (length_at size b) (drop size b), drop (size + length_at size b) b)
    else None

-- a unit, and what is behind it
abbrev pub Front : Type 0
Front = Result (List ℕ × List ℕ) AvcFail

abbrev pub or_missing : AvcFail → Option (List ℕ × List ℕ) → Front
or_missing missing (Some p) = Ok p
or_missing missing None = Err missing

abbrev pub unless : Option AvcFail → List ℕ × List ℕ → Front
unless (Some e) p = Err e
unless None p = Ok p

abbrev pub judged : ℕ → Front → Front
judged nal (Ok p) = unless (verdict nal p.0) p
judged nal (Err e) = Err e

-- the unit of this number at the front, or why it is refused: `missing` where it isn't all there
unfoldable pub front_of : AvcFail → ℕ → ℕ → List ℕ → Front
front_of missing nal size b = judged nal (or_missing missing (unit_at size b))

abbrev pub Units : Type 0
Units = Result (List (List ℕ)) AvcFail

-- units before those that are read behind them
abbrev pub before : List (List ℕ) → Units → Units
before units (Ok more) = Ok (units ++ more)
before units (Err e) = Err e

abbrev pub then_units : Front → (List ℕ → Units) → Units
then_units (Ok p) next = before (p.0 ∷ []) (next p.1)
then_units (Err e) next = Err e

-- the units that fill the last bytes of `total`, where so many at most are there and `nal` stand before them
unfoldable pub units_in : ℕ → ℕ → ℕ → ℕ → List ℕ → Units
units_in zero size total nal b = Ok []
units_in (suc most) size total nal [] = Ok []
units_in (suc most) size total nal (x ∷ xs) =
    then_units (front_of (PastEnd (total - length (x ∷ xs))) nal size (x ∷ xs)) (λ rest. units_in most size total (nal + 1) rest)

-- THE UNITS of the bytes, or the first refusal. There are no more of them than bytes
unfoldable pub nals_of : ℕ → List ℕ → Units
nals_of size b = units_in (length b) size (length b) 0 b

-- units with their lengths before them
abbrev pub prefixed : ℕ → List (List ℕ) → List ℕ
prefixed size [] = []
prefixed size (n ∷ ns) = bytes_high_first size (length n) ++ (n ++ prefixed size ns)

abbrev pub AllShort : ℕ → List (List ℕ) → Type 0
AllShort size [] = Unit {0}
AllShort size (n ∷ ns) = (length n < 256 ^ size) × AllShort size ns

-- the bytes are these units with their lengths before them
pub record Nals (size : ℕ) (units : List (List ℕ)) (b : List ℕ) : Type 0 where
  pub bytes : b ≡ prefixed size units
  pub nals : AreNals units
  pub short : AllShort size units
