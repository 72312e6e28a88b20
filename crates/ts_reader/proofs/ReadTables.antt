-- Tables that are written are read
use Rattle.std.proofs.Common.{◌≡◌, ℕ, ◌+◌, ◌*◌, ◌-◌, ◌/◌, ◌%◌, ◌<◌, Bool, true, false, List, ◌∷◌, ◌++◌, length, slice_index, Some, refl, sym, ap, ◌∙◌, arith}
use Rattle.std.specs.Prelude.{if◌then◌else◌, replicate}
use Rattle.std.specs.Int.{bytes_high_first}
use Rattle.std.specs.Str.{bytes_eq}
use Rattle.std.proofs.lemmas.Bool.{false_from_ne_true}
use Rattle.std.proofs.lemmas.Slice.Eq.{bytes_eq-Decides}
use Rattle.pes_packets.specs.Crc.{crc_of}
use Rattle.pes_packets.specs.Packet.{section_text}
use Rattle.pes_packets.specs.Tables.{count_of, pat, pmt}
use Rattle.pes_packets.proofs.Bits.{head_is}
use Rattle.pes_packets.proofs.Sections.{map_bytes, pmt_is}
use Rattle.ts_reader.specs.Fields.{counter_in}
use Rattle.ts_reader.specs.Sections.{is_pat, is_pmt, listed_in, version_in}

-- the first bytes of a section's packet
section_is : (pid c : ℕ) (s : List ℕ) → pid < 8192 → c < 16
    → section_text pid c s ≡ 71 ∷ (64 + pid / 256 % 256) ∷ (pid % 256) ∷ (1 * 16 + c) ∷ 0 ∷ (s ++ replicate (183 - length s) 255)
unfolding section_text
section_is pid c s p n = ap (λ (h : List ℕ). h ++ (0 ∷ (s ++ replicate (183 - length s) 255)))
    (sym (head_is true pid 1 c 64 (pid / 256 % 256) (pid % 256) p (omega arith) n refl refl refl))

counter_is : (pid c : ℕ) (s : List ℕ) → pid < 8192 → c < 16 → counter_in (section_text pid c s) ≡ c
counter_is pid c s p n = ap (λ (b : List ℕ). slice_index b 3 % 16) (section_is pid c s p n) ∙ omega arith

same : (b : List ℕ) → bytes_eq b b ≡ true
same b = (bytes_eq-Decides b b).1 refl

pub pat_read : (c : ℕ) → c < 16 → is_pat (section_text 0 c pat) ≡ true
pat_read c n = ap (λ (k : ℕ). bytes_eq (section_text 0 k pat) (section_text 0 c pat)) (counter_is 0 c pat (omega arith) n) ∙ same (section_text 0 c pat)

-- a map's section
abbrev head : Bool → Bool → ℕ → List ℕ
head v a n = map_bytes v a (13 + 5 * count_of v a) n

map_text : (v a : Bool) (n : ℕ) → n < 32 → pmt v a n ≡ head v a n ++ bytes_high_first 4 (crc_of (head v a n))
map_text v a n h = pmt_is v a n h

-- a byte of its packet
map_packet : (v a : Bool) (n c : ℕ) → n < 32 → c < 16
    → section_text 4096 c (pmt v a n)
    ≡ 71 ∷ (64 + 4096 / 256 % 256) ∷ (4096 % 256) ∷ (1 * 16 + c) ∷ 0
    ∷ ((head v a n ++ bytes_high_first 4 (crc_of (head v a n))) ++ replicate (183 - length (head v a n ++ bytes_high_first 4 (crc_of (head v a n)))) 255)
map_packet v a n c h k = ap (section_text 4096 c) (map_text v a n h)
    ∙ section_is 4096 c (head v a n ++ bytes_high_first 4 (crc_of (head v a n))) (omega arith) k

at_size : (v a : Bool) (n c : ℕ) → n < 32 → c < 16 → slice_index (section_text 4096 c (pmt v a n)) 7 ≡ 13 + 5 * count_of v a
at_size true true n c h k = ap (λ (b : List ℕ). slice_index b 7) (map_packet true true n c h k)
at_size true false n c h k = ap (λ (b : List ℕ). slice_index b 7) (map_packet true false n c h k)
at_size false true n c h k = ap (λ (b : List ℕ). slice_index b 7) (map_packet false true n c h k)
at_size false false n c h k = ap (λ (b : List ℕ). slice_index b 7) (map_packet false false n c h k)

at_clock : (v a : Bool) (n c : ℕ) → n < 32 → c < 16 → slice_index (section_text 4096 c (pmt v a n)) 14 ≡ (if v then 0 else 1)
at_clock true true n c h k = ap (λ (b : List ℕ). slice_index b 14) (map_packet true true n c h k)
at_clock true false n c h k = ap (λ (b : List ℕ). slice_index b 14) (map_packet true false n c h k)
at_clock false true n c h k = ap (λ (b : List ℕ). slice_index b 14) (map_packet false true n c h k)
at_clock false false n c h k = ap (λ (b : List ℕ). slice_index b 14) (map_packet false false n c h k)

version_by : (v a : Bool) (n c : ℕ) → n < 32 → c < 16 → slice_index (section_text 4096 c (pmt v a n)) 10 ≡ 193 + 2 * n
version_by true true n c h k = ap (λ (b : List ℕ). slice_index b 10) (map_packet true true n c h k)
version_by true false n c h k = ap (λ (b : List ℕ). slice_index b 10) (map_packet true false n c h k)
version_by false true n c h k = ap (λ (b : List ℕ). slice_index b 10) (map_packet false true n c h k)
version_by false false n c h k = ap (λ (b : List ℕ). slice_index b 10) (map_packet false false n c h k)

version_is : (v a : Bool) (n c : ℕ) → n < 32 → c < 16 → version_in (section_text 4096 c (pmt v a n)) ≡ n
version_is v a n c h k = ap (λ (x : ℕ). x / 2 % 32) (version_by v a n c h k) ∙ omega arith

-- whether it is that of other streams
told : (v a w d : Bool) (n c : ℕ) → n < 32 → c < 16
    → is_pmt w d (section_text 4096 c (pmt v a n)) ≡ bytes_eq (section_text 4096 c (pmt w d n)) (section_text 4096 c (pmt v a n))
told v a w d n c h k =
    ap (λ (x : ℕ). bytes_eq (section_text 4096 x (pmt w d (version_in (section_text 4096 c (pmt v a n))))) (section_text 4096 c (pmt v a n)))
    (counter_is 4096 c (pmt v a n) (omega arith) k)
    ∙ ap (λ (x : ℕ). bytes_eq (section_text 4096 c (pmt w d x)) (section_text 4096 c (pmt v a n))) (version_is v a n c h k)

is_itself : (v a : Bool) (n c : ℕ) → n < 32 → c < 16 → is_pmt v a (section_text 4096 c (pmt v a n)) ≡ true
is_itself v a n c h k = told v a v a n c h k ∙ same (section_text 4096 c (pmt v a n))

other_size : (v a w d : Bool) (n c : ℕ) → n < 32 → c < 16 → (13 + 5 * count_of w d ≡ 13 + 5 * count_of v a → ⊥)
    → is_pmt w d (section_text 4096 c (pmt v a n)) ≡ false
other_size v a w d n c h k ne = told v a w d n c h k ∙ false_from_ne_true (bytes_eq (section_text 4096 c (pmt w d n)) (section_text 4096 c (pmt v a n)))
    (λ e. ne (sym (at_size w d n c h k) ∙ ap (λ (b : List ℕ). slice_index b 7) ((bytes_eq-Decides (section_text 4096 c (pmt w d n)) (section_text 4096 c (pmt v a n))).0 e)
    ∙ at_size v a n c h k))

other_clock : (n c : ℕ) → n < 32 → c < 16 → is_pmt true false (section_text 4096 c (pmt false true n)) ≡ false
other_clock n c h k = told false true true false n c h k ∙ false_from_ne_true (bytes_eq (section_text 4096 c (pmt true false n)) (section_text 4096 c (pmt false true n)))
    (λ e. omega (
      arith,
      sym (at_clock true false n c h k)
          ∙ ap (λ (b : List ℕ). slice_index b 14) ((bytes_eq-Decides (section_text 4096 c (pmt true false n)) (section_text 4096 c (pmt false true n))).0 e)
          ∙ at_clock false true n c h k,
    ))

pub pmt_read : (v a : Bool) (n c : ℕ) → n < 32 → c < 16 → listed_in (section_text 4096 c (pmt v a n)) ≡ Some (record { video = v; audio = a })
unfolding listed_in
pmt_read true true n c h k = rw (is_itself true true n c h k) refl
pmt_read true false n c h k = rw (other_size true false true true n c h k (λ e. omega arith), is_itself true false n c h k) refl
pmt_read false true n c h k = rw (other_size false true true true n c h k (λ e. omega arith), other_clock n c h k, is_itself false true n c h k) refl
pmt_read false false n c h k =
    rw (
      other_size false false true true n c h k (λ e. omega arith),
      other_size false false true false n c h k (λ e. omega arith),
      other_size false false false true n c h k (λ e. omega arith),
      is_itself false false n c h k,
    ) refl
