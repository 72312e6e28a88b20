-- Pictures that no other picture needs, by the NAL units of an AVC body. Sections are those of H.264 (ISO/IEC
-- 14496-10), those with 15 before them of ISO/IEC 14496-15.
use Rattle.std.specs.Prelude.{ℕ, zero, suc, ◌+◌, ◌*◌, ◌/◌, ◌%◌, Bool, true, false, not, ◌==◌, ◌&&◌, ◌||◌, nat_le, if◌then◌else◌, List, [], ◌∷◌, length, drop, Option, Some, None, option_map}
use Rattle.std.specs.List.{list_any}

-- as many bytes as lengths may have, or 0
abbrev pub size_or_none : ℕ → ℕ
size_or_none size = if size == 3 then 0 else size

-- How many bytes the lengths of units have by a configuration record of version 1, which begins at byte 5 of
-- its body: the low two bits of its fifth byte, plus 1 (15, 5.2.4.1). It is 0 where the body isn't so.
abbrev pub length_size : List ℕ → ℕ
length_size (_ ∷ _ ∷ _ ∷ _ ∷ _ ∷ version ∷ _ ∷ _ ∷ _ ∷ flags ∷ _) = if version == 1 then size_or_none (flags % 4 + 1) else 0
length_size _ = 0

-- a length of one, two or four bytes at the front, and what is behind it (15, 5.3.4.2)
abbrev pub one_byte : List ℕ → Option (ℕ × List ℕ)
one_byte (a ∷ rest) = Some (a, rest)
one_byte _ = None

abbrev pub two_bytes : List ℕ → Option (ℕ × List ℕ)
two_bytes (a ∷ b ∷ rest) = Some (a * 256 + b, rest)
two_bytes _ = None

abbrev pub four_bytes : List ℕ → Option (ℕ × List ℕ)
four_bytes (a ∷ b ∷ c ∷ d ∷ rest) = Some (a * 16777216 + (b * 65536 + (c * 256 + d)), rest)
four_bytes _ = None

-- no other size is one of a length
abbrev pub length_at : ℕ → List ℕ → Option (ℕ × List ℕ)
length_at size b = if size == 1 then one_byte b else (if size == 2 then two_bytes b else (if size == 4 then four_bytes b else None))

-- the first byte of so many, and what is behind them, where they are there and are some
abbrev pub unit_of_length : ℕ → List ℕ → Option (ℕ × List ℕ)
unit_of_length n [] = None
unit_of_length n (first ∷ rest) =
    if nat_le 1 n && nat_le n (length (first ∷ rest)) then Some (first, drop n (first ∷ rest)) else None

abbrev pub unit_behind : Option (ℕ × List ℕ) → Option (ℕ × List ℕ)
unit_behind None = None
unit_behind (Some p) = unit_of_length p.0 p.1

-- the first byte of the unit that stands at the front behind its length, and what is behind that unit
unfoldable pub unit_front : ℕ → List ℕ → Option (ℕ × List ℕ)
unit_front size b = unit_behind (length_at size b)

abbrev pub before_firsts : Option (ℕ × List ℕ) → (List ℕ → Option (List ℕ)) → Option (List ℕ)
before_firsts None firsts = None
before_firsts (Some unit) firsts = option_map (λ more. unit.0 ∷ more) (firsts unit.1)

-- the first byte of each unit, where bytes are units up to the end, at most so many
unfoldable pub firsts_in : ℕ → ℕ → List ℕ → Option (List ℕ)
firsts_in zero size [] = Some []
firsts_in zero size (x ∷ xs) = None
firsts_in (suc most) size [] = Some []
firsts_in (suc most) size (x ∷ xs) = before_firsts (unit_front size (x ∷ xs)) (λ rest. firsts_in most size rest)

-- there are no more units than bytes
unfoldable pub firsts_of : ℕ → List ℕ → Option (List ℕ)
firsts_of size b = firsts_in (length b) size b

-- whether a unit with that first byte is a slice of a picture: its type, the low five bits, is 1 to 5 (7.3.1,
-- table 7-1)
abbrev pub is_slice : ℕ → Bool
is_slice first = nat_le 1 (first % 32) && nat_le (first % 32) 5

-- whether no other picture refers to it: nal_ref_idc, bits 5 and 6, is 0 (7.4.1)
abbrev pub is_unreferenced : ℕ → Bool
is_unreferenced first = (first / 32) % 4 == 0

-- whether pictures may need it
abbrev pub is_needed : ℕ → Bool
is_needed first = is_slice first && not (is_unreferenced first)

abbrev pub is_end : List ℕ → Bool
is_end [] = true
is_end (x ∷ xs) = false

-- there is a slice, and no slice is needed
abbrev pub spares : Option (List ℕ) → Bool
spares None = false
spares (Some firsts) = list_any is_slice firsts && not (list_any is_needed firsts)

-- WHETHER NO OTHER PICTURE NEEDS that of an AVC body, whose units begin at byte 5 and have lengths of so many bytes
unfoldable pub is_disposable : ℕ → List ℕ → Bool
is_disposable size body = spares (firsts_of size (drop 5 body))
