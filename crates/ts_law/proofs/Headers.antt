-- The header of a PES packet, read back
use Rattle.std.proofs.Common.{◌≡◌, ℕ, ◌+◌, ◌*◌, ◌/◌, ◌%◌, ◌<◌, ◌≤◌, Bool, true, false, nat_lt, List, [], ◌∷◌, ◌++◌, length, drop, Some, refl, sym, ap, ◌∙◌, arith, append-nil, eq-eqb}
use Rattle.std.specs.Prelude.{◌==◌, ◌^◌}
use Rattle.std.proofs.lemmas.Bool.{ne_eqb}
use Rattle.std.proofs.lemmas.Bool.Decides.{nat_tests}
use Rattle.pes_packets.specs.Header.{header, time_bytes}
use Rattle.pes_packets.proofs.Bits.{start_is, flags_of_one, flags_of_two}
use Rattle.ts_law.specs.Pes.{IsHeader, told_of}
use Rattle.ts_reader.specs.Times.{Told, header_of, begins, flags_are, is_time, length_in, one_time, time_in, two_times}

-- the number of a time's 40 bits, and its bytes
abbrev number_of : ℕ → ℕ → ℕ → ℕ → ℕ
number_of p h m l = p * 68719476736 + (h * 8589934592 + (1 * 4294967296 + (m * 131072 + (1 * 65536 + (l * 2 + (1 * 1 + 0))))))

byte4 : (p h m l : ℕ) → p < 16 → h < 8 → m < 32768 → l < 32768 → number_of p h m l / 4294967296 % 256 ≡ p * 16 + h * 2 + 1
byte4 p h m l a b c d = omega arith

byte3 : (p h m l : ℕ) → p < 16 → h < 8 → m < 32768 → l < 32768 → number_of p h m l / 16777216 % 256 ≡ m / 128
byte3 p h m l a b c d = omega arith

byte2 : (p h m l : ℕ) → p < 16 → h < 8 → m < 32768 → l < 32768 → number_of p h m l / 65536 % 256 ≡ m % 128 * 2 + 1
byte2 p h m l a b c d = omega arith

byte1 : (p h m l : ℕ) → p < 16 → h < 8 → m < 32768 → l < 32768 → number_of p h m l / 256 % 256 ≡ l / 128
byte1 p h m l a b c d = omega arith

byte0 : (p h m l : ℕ) → p < 16 → h < 8 → m < 32768 → l < 32768 → number_of p h m l % 256 ≡ l % 128 * 2 + 1
byte0 p h m l a b c d = omega arith

abbrev cells : ℕ → ℕ → ℕ → ℕ → List ℕ
cells p h m l = (p * 16 + h * 2 + 1) ∷ (m / 128) ∷ (m % 128 * 2 + 1) ∷ (l / 128) ∷ (l % 128 * 2 + 1) ∷ []

abbrev high_of : ℕ → ℕ
high_of time = time / 1073741824

abbrev middle_of : ℕ → ℕ
middle_of time = time / 32768 % 32768

abbrev low_of : ℕ → ℕ
low_of time = time % 32768

time_cells : (p time : ℕ) → p < 16 → time < 2 ^ 33 → time_bytes p time ≡ cells p (high_of time) (middle_of time) (low_of time)
unfolding time_bytes
time_cells p time a t =
    let h : time / 1073741824 < 8 = omega arith in
    let m : time / 32768 % 32768 < 32768 = omega arith in
    let l : time % 32768 < 32768 = omega arith in
    let b4 = byte4 p (time / 1073741824) (time / 32768 % 32768) (time % 32768) a h m l in
    let b3 = byte3 p (time / 1073741824) (time / 32768 % 32768) (time % 32768) a h m l in
    let b2 = byte2 p (time / 1073741824) (time / 32768 % 32768) (time % 32768) a h m l in
    let b1 = byte1 p (time / 1073741824) (time / 32768 % 32768) (time % 32768) a h m l in
    let b0 = byte0 p (time / 1073741824) (time / 32768 % 32768) (time % 32768) a h m l in
    rw (b4, b3, b2, b1, b0) refl

-- it is read back
is_time_back : (p h m l : ℕ) (more : List ℕ) → p < 16 → h < 8 → m < 32768 → l < 32768 → is_time p (cells p h m l ++ more) ≡ true
is_time_back p h m l more a b c d = grind (arith, nat_tests)

time_back_by : (p h m l time : ℕ) (more : List ℕ) → h < 8 → m < 32768 → l < 32768 → time ≡ h * 1073741824 + m * 32768 + l → time_in (cells p h m l ++ more) ≡ time
time_back_by p h m l time more b c d e = omega arith

time_back : (p time : ℕ) (more : List ℕ) → p < 16 → time < 2 ^ 33 → time_in (cells p (high_of time) (middle_of time) (low_of time) ++ more) ≡ time
time_back p time more a t = time_back_by p (high_of time) (middle_of time) (low_of time) time more (omega arith) (omega arith) (omega arith) (omega arith)

time_there : (p time : ℕ) (more : List ℕ) → p < 16 → time < 2 ^ 33 → is_time p (cells p (high_of time) (middle_of time) (low_of time) ++ more) ≡ true
time_there p time more a t = is_time_back p (high_of time) (middle_of time) (low_of time) more a (omega arith) (omega arith) (omega arith)

-- a header with one time, byte by byte
abbrev with_one : ℕ → ℕ → ℕ → List ℕ → List ℕ
with_one id time len more =
    0 ∷ 0 ∷ 1 ∷ id ∷ (len / 256 % 256) ∷ (len % 256) ∷ 128 ∷ 128 ∷ 5 ∷ (cells 2 (high_of time) (middle_of time) (low_of time) ++ more)

one_is : (id time len : ℕ) (more : List ℕ) → id < 256 → len < 65536 → time < 2 ^ 33 → header id time time len ++ more ≡ with_one id time len more
unfolding header
one_is id time len more i l t =
    let same : time == time ≡ true = eq-eqb time time refl in
    rw (same, ← start_is id len (len / 256 % 256) (len % 256) i l refl refl, ← flags_of_one, time_cells 2 time (omega arith) t) refl

-- and with two
abbrev with_two : ℕ → ℕ → ℕ → ℕ → List ℕ → List ℕ
with_two id pts dts len more =
    0 ∷ 0 ∷ 1 ∷ id ∷ (len / 256 % 256) ∷ (len % 256) ∷ 128 ∷ 192 ∷ 10
    ∷ (cells 3 (high_of pts) (middle_of pts) (low_of pts) ++ (cells 1 (high_of dts) (middle_of dts) (low_of dts) ++ more))

two_is : (id pts dts len : ℕ) (more : List ℕ) → id < 256 → len < 65536 → pts < 2 ^ 33 → dts < 2 ^ 33 → (pts ≡ dts → ⊥) → header id pts dts len ++ more ≡ with_two id pts dts len more
unfolding header
two_is id pts dts len more i l p d e =
    let differ : pts == dts ≡ false = ne_eqb pts dts e in
    rw (differ, ← start_is id len (len / 256 % 256) (len % 256) i l refl refl, ← flags_of_two, time_cells 3 pts (omega arith) p, time_cells 1 dts (omega arith) d) refl

one_read : (time len : ℕ) (b more : List ℕ) → drop 9 b ≡ cells 2 (high_of time) (middle_of time) (low_of time) ++ more → time < 2 ^ 33 → length_in b ≡ len
    → one_time b ≡ Some (told_of time time len 14)
one_read time len b more e t l =
    let there : is_time 2 (drop 9 b) ≡ true = ap (is_time 2) e ∙ time_there 2 time more (omega arith) t in
    let is : time_in (drop 9 b) ≡ time = ap time_in e ∙ time_back 2 time more (omega arith) t in
    rw (there, is, l) refl

length_of : (len x0 x1 x2 x3 : ℕ) (more : List ℕ) → len < 65536 → length_in (x0 ∷ x1 ∷ x2 ∷ x3 ∷ (len / 256 % 256) ∷ (len % 256) ∷ more) ≡ len
length_of len x0 x1 x2 x3 more l = omega arith

long_enough : (n : ℕ) (b : List ℕ) → n ≤ length b → nat_lt (length b) n ≡ false
long_enough n b h = grind (arith, nat_tests)

by_one : (video : Bool) (b : List ℕ) (t : Told) → 14 ≤ length b → begins video b ≡ true → flags_are 0x80 5 b ≡ true → one_time b ≡ Some t → header_of video b ≡ Some t
unfolding header_of
by_one video b t n s f o = rw (long_enough 14 b n, s, f) o

by_two : (b : List ℕ) (t : Told) → 14 ≤ length b → begins true b ≡ true → flags_are 0x80 5 b ≡ false → flags_are 0xC0 10 b ≡ true → two_times b ≡ Some t → header_of true b ≡ Some t
unfolding header_of
by_two b t n s f g o = rw (long_enough 14 b n, s, f, g) o

sound_back : (time len : ℕ) (more : List ℕ) → time < 2 ^ 33 → len < 65536 → header_of false (header 0xC0 time time len ++ more) ≡ Some (told_of time time len 14)
sound_back time len more t l =
    ap (header_of false) (one_is 0xC0 time len more (omega arith) l t)
    ∙ by_one false (with_one 0xC0 time len more) (told_of time time len 14) (omega arith) refl refl
    (one_read time len (with_one 0xC0 time len more) more refl t (length_of len 0 0 1 0xC0 (128 ∷ 128 ∷ 5 ∷ (cells 2 (high_of time) (middle_of time) (low_of time) ++ more)) l))

picture_back : (time : ℕ) (more : List ℕ) → time < 2 ^ 33 → header_of true (header 0xE0 time time 0 ++ more) ≡ Some (told_of time time 0 14)
picture_back time more t =
    ap (header_of true) (one_is 0xE0 time 0 more (omega arith) (omega arith) t)
    ∙ by_one true (with_one 0xE0 time 0 more) (told_of time time 0 14) (omega arith) refl refl (one_read time 0 (with_one 0xE0 time 0 more) more refl t refl)

two_read : (pts dts : ℕ) (b more : List ℕ) → drop 9 b ≡ cells 3 (high_of pts) (middle_of pts) (low_of pts) ++ (cells 1 (high_of dts) (middle_of dts) (low_of dts) ++ more)
    → drop 14 b ≡ cells 1 (high_of dts) (middle_of dts) (low_of dts) ++ more → 19 ≤ length b → pts < 2 ^ 33 → dts < 2 ^ 33 → (pts ≡ dts → ⊥) → length_in b ≡ 0
    → two_times b ≡ Some (told_of pts dts 0 19)
two_read pts dts b more e f n p d differ l =
    let first : is_time 3 (drop 9 b) ≡ true = ap (is_time 3) e ∙ time_there 3 pts (cells 1 (high_of dts) (middle_of dts) (low_of dts) ++ more) (omega arith) p in
    let second : is_time 1 (drop 14 b) ≡ true = ap (is_time 1) f ∙ time_there 1 dts more (omega arith) d in
    let one : time_in (drop 9 b) ≡ pts = ap time_in e ∙ time_back 3 pts (cells 1 (high_of dts) (middle_of dts) (low_of dts) ++ more) (omega arith) p in
    let other : time_in (drop 14 b) ≡ dts = ap time_in f ∙ time_back 1 dts more (omega arith) d in
    rw (long_enough 19 b n, first, second, one, other, ne_eqb pts dts differ, l) refl

both_back : (pts dts : ℕ) (more : List ℕ) → pts < 2 ^ 33 → dts < 2 ^ 33 → (pts ≡ dts → ⊥) → header_of true (header 0xE0 pts dts 0 ++ more) ≡ Some (told_of pts dts 0 19)
both_back pts dts more p d differ =
    ap (header_of true) (two_is 0xE0 pts dts 0 more (omega arith) (omega arith) p d differ)
    ∙ by_two (with_two 0xE0 pts dts 0 more) (told_of pts dts 0 19) (omega arith) refl refl refl
    (two_read pts dts (with_two 0xE0 pts dts 0 more) more refl refl (omega arith) p d differ refl)

-- how long they are
one_length : (id time len : ℕ) → id < 256 → len < 65536 → time < 2 ^ 33 → length (header id time time len) ≡ 14
one_length id time len i l t = ap length (sym (append-nil (header id time time len)) ∙ one_is id time len [] i l t)

two_length : (id pts dts len : ℕ) → id < 256 → len < 65536 → pts < 2 ^ 33 → dts < 2 ^ 33 → (pts ≡ dts → ⊥) → length (header id pts dts len) ≡ 19
two_length id pts dts len i l p d e = ap length (sym (append-nil (header id pts dts len)) ∙ two_is id pts dts len [] i l p d e)

-- A HEADER WITH ONE TIME is read, and so is one with two
pub sound_header : (time len : ℕ) → time < 2 ^ 33 → len < 65536 → IsHeader false (header 0xC0 time time len) time time len 14
sound_header time len t l = record { size_is = one_length 0xC0 time len (omega arith) l t; read = λ more. sound_back time len more t l }

pub picture_header : (time : ℕ) → time < 2 ^ 33 → IsHeader true (header 0xE0 time time 0) time time 0 14
picture_header time t = record { size_is = one_length 0xE0 time 0 (omega arith) (omega arith) t; read = λ more. picture_back time more t }

pub both_header : (pts dts : ℕ) → pts < 2 ^ 33 → dts < 2 ^ 33 → (pts ≡ dts → ⊥) → IsHeader true (header 0xE0 pts dts 0) pts dts 0 19
both_header pts dts p d e = record { size_is = two_length 0xE0 pts dts 0 (omega arith) (omega arith) p d e; read = λ more. both_back pts dts more p d e }
