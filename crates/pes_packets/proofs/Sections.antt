-- The sections of the tables, byte by byte
use Rattle.std.proofs.Common.{◌≡◌, ℕ, ◌+◌, ◌*◌, ◌<◌, ◌≤◌, Bool, true, false, List, [], ◌∷◌, ◌++◌, refl, sym, ap, ◌∙◌, arith, append_assoc, length, length-append}
use Rattle.std.specs.Prelude.{if◌then◌else◌}
use Rattle.std.specs.Int.{bytes_high_first}
use Rattle.bit_fields.specs.Fields.{field_bytes}
use Rattle.pes_packets.specs.Crc.{crc_from, shifted_by, shifted, crc_of}
use Rattle.pes_packets.specs.Tables.{pat, pmt, section_fields, checked, count_of}

pub pat_is : pat ≡ 0 ∷ 176 ∷ 13 ∷ 0 ∷ 1 ∷ 193 ∷ 0 ∷ 0 ∷ 0 ∷ 1 ∷ 240 ∷ 0 ∷ 42 ∷ 177 ∷ 4 ∷ 178 ∷ []
unfolding pat crc_from shifted_by shifted
pat_is = refl

eight : (a b c d e f g h p q r s t u v w : ℕ) → a ≡ p → b ≡ q → c ≡ r → d ≡ s → e ≡ t → f ≡ u → g ≡ v → h ≡ w
    → a ∷ b ∷ c ∷ d ∷ e ∷ f ∷ g ∷ h ∷ [] ≡ p ∷ q ∷ r ∷ s ∷ t ∷ u ∷ v ∷ w ∷ []
eight a b c d e f g h p q r s t u v w h0 h1 h2 h3 h4 h5 h6 h7 = rw (h0, h1, h2, h3, h4, h5, h6, h7) refl

-- what the map's section begins with
front_is : (len version : ℕ) → len < 256 → version < 32 → field_bytes (section_fields 2 len 1 version) ≡ 2 ∷ 176 ∷ len ∷ 0 ∷ 1 ∷ (193 + 2 * version) ∷ 0 ∷ 0 ∷ []
front_is len version l v =
    eight _ _ _ _ _ _ _ _ 2 176 len 0 1 (193 + 2 * version) 0 0 (omega arith) (omega arith) (omega arith) (omega arith) (omega arith) (omega arith) (omega arith) (omega arith)

abbrev entries : Bool → Bool → List ℕ
entries video audio = (if video then 0x1B ∷ 0xE1 ∷ 0 ∷ 0xF0 ∷ 0 ∷ [] else []) ++ (if audio then 0x0F ∷ 0xE1 ∷ 1 ∷ 0xF0 ∷ 0 ∷ [] else [])

abbrev pub map_bytes : Bool → Bool → ℕ → ℕ → List ℕ
map_bytes video audio len version =
    (2 ∷ 176 ∷ len ∷ 0 ∷ 1 ∷ (193 + 2 * version) ∷ 0 ∷ 0 ∷ 0xE1 ∷ (if video then 0 else 1) ∷ 0xF0 ∷ 0 ∷ []) ++ entries video audio

pub pmt_is : (video audio : Bool) (version : ℕ) → version < 32 → pmt video audio version ≡ checked (map_bytes video audio (13 + 5 * count_of video audio) version)
unfolding pmt
pmt_is true true version h = ap (λ (t : List ℕ). checked (t ++ (0xE1 ∷ 0 ∷ 0xF0 ∷ 0 ∷ entries true true))) (front_is 23 version (omega arith) h)
pmt_is true false version h = ap (λ (t : List ℕ). checked (t ++ (0xE1 ∷ 0 ∷ 0xF0 ∷ 0 ∷ entries true false))) (front_is 18 version (omega arith) h)
pmt_is false true version h = ap (λ (t : List ℕ). checked (t ++ (0xE1 ∷ 1 ∷ 0xF0 ∷ 0 ∷ entries false true))) (front_is 18 version (omega arith) h)
pmt_is false false version h = ap (λ (t : List ℕ). checked (t ++ (0xE1 ∷ 1 ∷ 0xF0 ∷ 0 ∷ entries false false))) (front_is 13 version (omega arith) h)

checked_length : (section : List ℕ) → length (checked section) ≡ length section + 4
checked_length section = length-append section (bytes_high_first 4 (crc_of section)) ∙ omega arith

map_length : (video audio : Bool) (len version : ℕ) → length (map_bytes video audio len version) ≤ 22
map_length true true len version = omega arith
map_length true false len version = omega arith
map_length false true len version = omega arith
map_length false false len version = omega arith

pub map_short : (video audio : Bool) (version : ℕ) → version < 32 → length (pmt video audio version) ≤ 183
map_short video audio version h =
    let e = ap length (pmt_is video audio version h) in
    let n = checked_length (map_bytes video audio (13 + 5 * count_of video audio) version) in
    let m = map_length video audio (13 + 5 * count_of video audio) version in
    omega (arith, e, n, m)

len_is : (video audio : Bool) (len v a : ℕ) → v ≡ (if video then 5 else 0) → a ≡ (if audio then 5 else 0) → len ≡ 13 + v + a → len ≡ 13 + 5 * count_of video audio
len_is true true len v a e f g = omega arith
len_is true false len v a e f g = omega arith
len_is false true len v a e f g = omega arith
len_is false false len v a e f g = omega arith

pub section_is : (video audio : Bool) (version v a clock check : ℕ) (b1 b2 b3 b4 : List ℕ) → version < 32 → v ≡ (if video then 5 else 0) → a ≡ (if audio then 5 else 0)
    → clock ≡ (if video then 0 else 1) → b1 ≡ 2 ∷ 176 ∷ (13 + v + a) ∷ 0 ∷ 1 ∷ (193 + 2 * version) ∷ 0 ∷ 0 ∷ 0xE1 ∷ clock ∷ 0xF0 ∷ 0 ∷ []
    → b2 ≡ b1 ++ (if video then 0x1B ∷ 0xE1 ∷ 0 ∷ 0xF0 ∷ 0 ∷ [] else []) → b3 ≡ b2 ++ (if audio then 0x0F ∷ 0xE1 ∷ 1 ∷ 0xF0 ∷ 0 ∷ [] else [])
    → check ≡ crc_of b3 → b4 ≡ b3 ++ bytes_high_first 4 check → b4 ≡ pmt video audio version
section_is video audio version v a clock check b1 b2 b3 b4 h ev ea ec e1 e2 e3 ck e4 =
    let l = len_is video audio (13 + v + a) v a ev ea refl in
    let front : List ℕ = 2 ∷ 176 ∷ (13 + 5 * count_of video audio) ∷ 0 ∷ 1 ∷ (193 + 2 * version) ∷ 0 ∷ 0 ∷ 0xE1 ∷ (if video then 0 else 1) ∷ 0xF0 ∷ 0 ∷ [] in
    let pictures : List ℕ = if video then 0x1B ∷ 0xE1 ∷ 0 ∷ 0xF0 ∷ 0 ∷ [] else [] in
    let sounds : List ℕ = if audio then 0x0F ∷ 0xE1 ∷ 1 ∷ 0xF0 ∷ 0 ∷ [] else [] in
    let first : b1 ≡ front =
    e1 ∙ ap (λ (n : ℕ). 2 ∷ 176 ∷ n ∷ 0 ∷ 1 ∷ (193 + 2 * version) ∷ 0 ∷ 0 ∷ 0xE1 ∷ clock ∷ 0xF0 ∷ 0 ∷ []) l
    ∙ ap (λ (n : ℕ). 2 ∷ 176 ∷ (13 + 5 * count_of video audio) ∷ 0 ∷ 1 ∷ (193 + 2 * version) ∷ 0 ∷ 0 ∷ 0xE1 ∷ n ∷ 0xF0 ∷ 0 ∷ []) ec in
    let all : b3 ≡ map_bytes video audio (13 + 5 * count_of video audio) version =
    e3 ∙ ap (λ (t : List ℕ). t ++ sounds) (e2 ∙ ap (λ (t : List ℕ). t ++ pictures) first) ∙ append_assoc front pictures sounds in
    e4 ∙ ap (λ (n : ℕ). b3 ++ bytes_high_first 4 n) ck ∙ ap checked all ∙ sym (pmt_is video audio version h)
