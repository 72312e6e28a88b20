-- NAL units (ISO/IEC 14496-10, 7.4.1): bytes in which no start code stands
use Rattle.std.specs.Prelude.{◌≡◌, ℕ, ◌+◌, ◌-◌, ◌%◌, ◌<◌, Bool, false, ◌==◌, ◌&&◌, nat_le, if◌then◌else◌, List, [], ◌∷◌, length, slice_index, Option, Some, None, option_map, Result, Ok, Err, ◌⊎◌}
use Rattle.std.specs.Borrow.{Bor}
use Rattle.avc_annexb.specs.declared.fail.AvcFail.{AvcFail}
use Rattle.avc_annexb.specs.declared.fail.AvcFail.TheVariants.{Dirty, EmptyNal, OutOfMemory}

-- whether 00 00 and a byte of at most 2 stand at the front
abbrev pub is_triple : List ℕ → Bool
is_triple (a ∷ b ∷ c ∷ _) = (a == 0) && ((b == 0) && nat_le c 2)
is_triple _ = false

-- the place of the first such three bytes
unfoldable pub triple_in : List ℕ → Option ℕ
triple_in [] = None
triple_in (b ∷ bs) = if is_triple (b ∷ bs) then Some 0 else option_map (λ i. 1 + i) (triple_in bs)

-- a place that many bytes further on
abbrev pub further : ℕ → Option ℕ → Option ℕ
further k o = option_map (λ i. k + i) o

-- or of a last byte that is zero
abbrev pub or_last : List ℕ → Option ℕ → Option ℕ
or_last b (Some at) = Some at
or_last b None = if (slice_index b (length b - 1) == 0) && nat_le 1 (length b) then Some (length b - 1) else None

-- THE PLACE at which bytes can't be a unit's
unfoldable pub dirty_in : List ℕ → Option ℕ
dirty_in b = or_last b (triple_in b)

-- A NAL UNIT has a byte, and such a place nowhere
pub record IsNal (b : List ℕ) : Type 0 where
  pub some : 0 < length b
  pub clean : dirty_in b ≡ None

abbrev pub AreNals : List (List ℕ) → Type 0
AreNals [] = Unit {0}
AreNals (n ∷ ns) = IsNal n × AreNals ns

abbrev pub dirty_at : ℕ → Option ℕ → Option AvcFail
dirty_at nal (Some at) = Some (Dirty nal at)
dirty_at nal None = None

-- why bytes can't be the unit of this number
unfoldable pub verdict : ℕ → List ℕ → Option AvcFail
verdict nal [] = Some (EmptyNal nal)
verdict nal (b ∷ bs) = dirty_at nal (dirty_in (b ∷ bs))

-- why something was refused
abbrev pub refusal_of : {X : Type 0} → Result X AvcFail → Option AvcFail
refusal_of (Ok _) = None
refusal_of (Err e) = Some e

-- what was answered is what is read, unless memory was refused
abbrev pub Gives : {X : Type 0} → Result X AvcFail → Result X AvcFail → Type 0
Gives (Ok x) read = read ≡ Ok x
Gives (Err e) read = (e ≡ OutOfMemory) ⊎ (read ≡ Err e)

-- the type of a unit (7.3.1): the low five bits of its first byte
abbrev pub nal_type : List ℕ → ℕ
nal_type b = slice_index b 0 % 32

-- two runs of bytes in place, or a refusal, are those that were read
abbrev pub IsFront : Result (Bor (List ℕ) × Bor (List ℕ)) AvcFail → Result (List ℕ × List ℕ) AvcFail → Type 0
IsFront (Ok p) read = read ≡ Ok (p.0.now, p.1.now)
IsFront (Err e) read = read ≡ Err e
