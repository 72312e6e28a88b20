-- A decoder's configuration record (ISO/IEC 14496-15, 5.3.3.1.2). Fields that are named nowhere here aren't read.
use Rattle.std.specs.Prelude.{◌≡◌, ◌⊎◌, ℕ, zero, suc, ◌+◌, ◌%◌, ◌==◌, not, nat_lt, if◌then◌else◌, List, [], ◌∷◌, ◌++◌, length, drop, slice_index, Result, Ok, Err}
use Rattle.std.specs.Borrow.{Bor}
use Rattle.avc_annexb.specs.declared.fail.AvcFail.{AvcFail}
use Rattle.avc_annexb.specs.declared.fail.AvcFail.TheVariants.{Short, LengthSize, OutOfMemory}
use Rattle.avc_annexb.specs.Nal.{AreNals}
use Rattle.avc_annexb.specs.Prefixed.{AllShort, IsSize, Front, front_of, prefixed}

-- What contracts see of an Avcc: how many bytes a length has, sequence and picture parameter sets
pub record Config : Type 0 where
  pub size : ℕ
  pub sps : List (List ℕ)
  pub pps : List (List ℕ)

pub record IsConfig (c : Config) : Type 0 where
  pub size : IsSize c.size
  pub sps : AreNals c.sps
  pub pps : AreNals c.pps

-- units, and what is behind them
abbrev pub Sets : Type 0
Sets = Result (List (List ℕ) × List ℕ) AvcFail

abbrev pub with_sets : List (List ℕ) → Sets → Sets
with_sets units (Ok p) = Ok (units ++ p.0, p.1)
with_sets units (Err e) = Err e

abbrev pub then_sets : Front → (List ℕ → Sets) → Sets
then_sets (Ok p) next = with_sets (p.0 ∷ []) (next p.1)
then_sets (Err e) next = Err e

-- so many parameter sets, each with its length in two bytes; `nal` stand before them, in a record of `total` bytes
unfoldable pub sets_in : ℕ → ℕ → ℕ → List ℕ → Sets
sets_in zero total nal b = Ok ([], b)
sets_in (suc count) total nal b = then_sets (front_of (Short total) nal 2 b) (λ rest. sets_in count total (nal + 1) rest)

-- picture parameter sets: how many, and they
abbrev pub pps_in : ℕ → ℕ → List ℕ → Sets
pps_in total nal [] = Err (Short total)
pps_in total nal (count ∷ rest) = sets_in count total nal rest

abbrev pub with_pps : ℕ → List (List ℕ) → Sets → Result Config AvcFail
with_pps size sps (Ok p) = Ok (record { size = size; sps = sps; pps = p.0 })
with_pps size sps (Err e) = Err e

abbrev pub with_sps : ℕ → ℕ → Sets → Result Config AvcFail
with_sps size total (Ok p) = with_pps size p.0 (pps_in total (length p.0) p.1)
with_sps size total (Err e) = Err e

-- lengthSizeMinusOne and one more
abbrev pub size_of : List ℕ → ℕ
size_of b = slice_index b 4 % 4 + 1

-- the length size of a record whose count of sequence parameter sets is there: configurationVersion is 1, and profile,
-- compatibility and level are passed over
unfoldable pub size_read : List ℕ → Result ℕ AvcFail
size_read b =
    if not (slice_index b 0 == 1) then Err (Short 0)
    else (if nat_lt (length b) 5 then Err (Short (length b))
    else (if size_of b == 3 then Err (LengthSize 3)
    else (if nat_lt (length b) 6 then Err (Short (length b))
    else Ok (size_of b))))

abbrev pub then_sets_of : List ℕ → Result ℕ AvcFail → Result Config AvcFail
then_sets_of b (Ok size) = with_sps size (length b) (sets_in (slice_index b 5 % 32) (length b) 0 (drop 6 b))
then_sets_of b (Err e) = Err e

-- THE CONFIGURATION in a record, or the first refusal
unfoldable pub record_of : List ℕ → Result Config AvcFail
record_of b = then_sets_of b (size_read b)

-- THE BYTES of a record that has this configuration: configurationVersion, profile, compatibility, level,
-- lengthSizeMinusOne, how many sequence parameter sets, and they, and the same of picture parameter sets.
-- What follows isn't read
pub record IsRecord (c : Config) (b : List ℕ) : Type 0 where
  pub profile : ℕ
  pub compatibility : ℕ
  pub level : ℕ
  pub lengths : ℕ
  pub count : ℕ
  pub rest : List ℕ
  pub bytes : b ≡ 1 ∷ profile ∷ compatibility ∷ level ∷ lengths ∷ count ∷ (prefixed 2 c.sps ++ (length c.pps ∷ (prefixed 2 c.pps ++ rest)))
  pub size_is : c.size ≡ lengths % 4 + 1
  pub many : length c.sps ≡ count % 32
  pub config : IsConfig c
  pub short : AllShort 2 c.sps × AllShort 2 c.pps

-- the sets that were answered, with what is behind them in place, are those that are read, unless memory was refused
abbrev pub SetsGiven : Result (List (List ℕ) × Bor (List ℕ)) AvcFail → Sets → Type 0
SetsGiven (Ok p) read = read ≡ Ok (p.0, p.1.now)
SetsGiven (Err e) read = (e ≡ OutOfMemory) ⊎ (read ≡ Err e)
