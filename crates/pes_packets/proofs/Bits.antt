-- Headers of bits, byte by byte
use Rattle.std.proofs.Common.{◌≡◌, ℕ, ◌+◌, ◌-◌, ◌*◌, ◌/◌, ◌%◌, ◌<◌, ◌≤◌, Bool, true, false, List, [], ◌∷◌, ◌++◌, length, slice_index, Option, Some, None, refl, sym, ap, ◌∙◌, arith, append_assoc, eq-eqb}
use Rattle.std.proofs.lemmas.Bool.Decides.{nat_tests}
use Rattle.std.specs.Int.{bytes_high_first, to_be_bytes, w64}
use Rattle.std.specs.Prelude.{is_some, ◌||◌, ◌==◌, if◌then◌else◌}
use Rattle.pes_packets.specs.declared.flags.PesFlags.{PesFlags}
use Rattle.pes_packets.specs.Packet.{bit, head_bytes, pcr_bytes, or_none, told, room, tells, silent}
use Rattle.pes_packets.specs.Header.{header, start_bytes, flag_bytes, time_bytes}

four : (a b c d e f g h : ℕ) → a ≡ e → b ≡ f → c ≡ g → d ≡ h → a ∷ b ∷ c ∷ d ∷ [] ≡ e ∷ f ∷ g ∷ h ∷ []
four a b c d e f g h p q r s = rw (p, q, r, s) refl

pub head_is : (start : Bool) (pid control counter s high low : ℕ) → pid < 8192 → control < 4 → counter < 16 → s ≡ bit start * 64 → high ≡ pid / 256 % 256 → low ≡ pid % 256
    → 71 ∷ (s + high) ∷ low ∷ (control * 16 + counter) ∷ [] ≡ head_bytes start pid control counter
unfolding head_bytes
head_is true pid control counter s high low p c n is h l =
    four 71 (s + high) low (control * 16 + counter) _ _ _ _ (omega arith) (omega arith) (omega arith) (omega arith)
head_is false pid control counter s high low p c n is h l =
    four 71 (s + high) low (control * 16 + counter) _ _ _ _ (omega arith) (omega arith) (omega arith) (omega arith)

-- the last six of eight bytes
pub pcr_is : (base n : ℕ) (bytes : List ℕ) → n ≡ base * 32768 + 32256 → bytes ≡ to_be_bytes w64 n
    → slice_index bytes 2 ∷ slice_index bytes 3 ∷ slice_index bytes 4 ∷ slice_index bytes 5 ∷ slice_index bytes 6 ∷ slice_index bytes 7 ∷ [] ≡ pcr_bytes base
unfolding pcr_bytes
pcr_is base n bytes e b = rw b (ap (λ (x : ℕ). bytes_high_first 6 x) (e ∙ omega arith))

-- the last five of eight bytes
pub time_is : (prefix time n : ℕ) (bytes : List ℕ)
    → n ≡ prefix * 68719476736 + time / 1073741824 * 8589934592 + 4294967296 + (time / 32768 % 32768 * 131072 + 65536 + time % 32768 * 2 + 1) → bytes ≡ to_be_bytes w64 n
    → slice_index bytes 3 ∷ slice_index bytes 4 ∷ slice_index bytes 5 ∷ slice_index bytes 6 ∷ slice_index bytes 7 ∷ [] ≡ time_bytes prefix time
unfolding time_bytes
time_is prefix time n bytes e b = rw b (ap (λ (x : ℕ). bytes_high_first 5 x) (e ∙ omega arith))

six : (a b c d e f p q r s t u : ℕ) → a ≡ p → b ≡ q → c ≡ r → d ≡ s → e ≡ t → f ≡ u → a ∷ b ∷ c ∷ d ∷ e ∷ f ∷ [] ≡ p ∷ q ∷ r ∷ s ∷ t ∷ u ∷ []
six a b c d e f p q r s t u h0 h1 h2 h3 h4 h5 = rw (h0, h1, h2, h3, h4, h5) refl

pub start_is : (id length high low : ℕ) → id < 256 → length < 65536 → high ≡ length / 256 % 256 → low ≡ length % 256 → 0 ∷ 0 ∷ 1 ∷ id ∷ high ∷ low ∷ [] ≡ start_bytes id length
unfolding start_bytes
start_is id length high low i l h k =
    six 0 0 1 id high low _ _ _ _ _ _ (omega arith) (omega arith) (omega arith) (omega arith) (omega arith) (omega arith)

pub flags_of_one : 128 ∷ 128 ∷ 5 ∷ [] ≡ flag_bytes 2 5
unfolding flag_bytes
flags_of_one = refl

pub flags_of_two : 128 ∷ 192 ∷ 10 ∷ [] ≡ flag_bytes 3 10
unfolding flag_bytes
flags_of_two = refl

pcr_length : (base : ℕ) → length (pcr_bytes base) ≡ 6
unfolding pcr_bytes
pcr_length base = refl

pub told_none : (random jump : Bool) (j r : ℕ) → j ≡ bit jump * 128 → r ≡ bit random * 64 → (j + r) ∷ [] ≡ told (record { pcr = None; random = random; jump = jump })
unfolding told
told_none true true j r e f = let h : j + r ≡ 192 = omega arith in rw h refl
told_none true false j r e f = let h : j + r ≡ 64 = omega arith in rw h refl
told_none false true j r e f = let h : j + r ≡ 128 = omega arith in rw h refl
told_none false false j r e f = let h : j + r ≡ 0 = omega arith in rw h refl

pub told_some : (random jump : Bool) (base j r : ℕ) → j ≡ bit jump * 128 → r ≡ bit random * 64 → (j + r + 16) ∷ [] ++ pcr_bytes base ≡ told (record { pcr = Some base; random = random; jump = jump })
unfolding told
told_some true true base j r e f = let h : j + r + 16 ≡ 208 = omega arith in rw h refl
told_some true false base j r e f = let h : j + r + 16 ≡ 80 = omega arith in rw h refl
told_some false true base j r e f = let h : j + r + 16 ≡ 144 = omega arith in rw h refl
told_some false false base j r e f = let h : j + r + 16 ≡ 16 = omega arith in rw h refl

-- how many bytes are told
abbrev pub told_size : Option ℕ → ℕ
told_size None = 1
told_size (Some base) = 7

or_none_length : (o : Option ℕ) → length (or_none o) + 1 ≡ told_size o
or_none_length None = refl
or_none_length (Some base) = ap (λ (n : ℕ). n + 1) (pcr_length base)

pub told_length : (f : PesFlags) → length (told f) ≡ told_size f.pcr
unfolding told
told_length f = sym (omega arith) ∙ or_none_length f.pcr

pub told_is_none : (f : PesFlags) (j r : ℕ) → f.pcr ≡ None → j ≡ bit f.jump * 128 → r ≡ bit f.random * 64 → (j + r) ∷ [] ≡ told f
told_is_none f j r e h k =
    told_none f.random f.jump j r h k ∙ ap (λ (o : Option ℕ). told (record { pcr = o; random = f.random; jump = f.jump })) (sym e)

pub told_is_some : (f : PesFlags) (base j r : ℕ) → f.pcr ≡ Some base → j ≡ bit f.jump * 128 → r ≡ bit f.random * 64 → (j + r + 16) ∷ [] ++ pcr_bytes base ≡ told f
told_is_some f base j r e h k =
    told_some f.random f.jump base j r h k ∙ ap (λ (o : Option ℕ). told (record { pcr = o; random = f.random; jump = f.jump })) (sym e)

fits_cases : (o : Option ℕ) (t : Bool) (size n : ℕ) → n ≡ told_size o → 184 ≤ size + (if is_some o || t then 183 - n else 184) → 2 ≤ size → n ≤ size - 1
fits_cases None t size n e h k = omega arith
fits_cases (Some base) t size n e h k = omega (arith, h)

-- an adaptation field that leaves no more room than its flags do holds what it tells
pub told_fits : (f : PesFlags) (size : ℕ) → 184 ≤ size + room f → 2 ≤ size → length (told f) ≤ size - 1
unfolding room
told_fits f size h k = fits_cases f.pcr (f.random || f.jump) size (length (told f)) (told_length f) h k

room_cases : (t : Bool) (n : ℕ) → (if t then 183 - n else 184) ≤ 184
room_cases true n = omega arith
room_cases false n = omega arith

pub room_most : (f : PesFlags) → room f ≤ 184
unfolding room
room_most f = room_cases (tells f) (length (told f))

pub silent_room : room silent ≡ 184
unfolding room
silent_room = refl

header_one : (id pts dts length : ℕ) → pts ≡ dts → header id pts dts length ≡ start_bytes id length ++ (flag_bytes 2 5 ++ time_bytes 2 pts)
unfolding header
header_one id pts dts length e = let t : pts == dts ≡ true = eq-eqb pts dts e in rw t refl

header_two : (id pts dts length : ℕ) → (pts ≡ dts → ⊥) → header id pts dts length ≡ start_bytes id length ++ (flag_bytes 3 10 ++ (time_bytes 3 pts ++ time_bytes 1 dts))
unfolding header
header_two id pts dts length e = grind (arith, nat_tests)

pub one_time : (old a b : List ℕ) (id pts dts length high low : ℕ) → pts ≡ dts → id < 256 → length < 65536 → high ≡ length / 256 % 256 → low ≡ length % 256
    → a ≡ old ++ 0 ∷ 0 ∷ 1 ∷ id ∷ high ∷ low ∷ [] → b ≡ a ++ 128 ∷ 128 ∷ 5 ∷ [] → b ++ time_bytes 2 pts ≡ old ++ header id pts dts length
one_time old a b id pts dts length high low e i l h k p q =
    rw (header_one id pts dts length e, ← start_is id length high low i l h k, ← flags_of_one, q, p) (simp append_assoc)

pub two_times : (old a b c : List ℕ) (id pts dts length high low : ℕ) → (pts ≡ dts → ⊥) → id < 256 → length < 65536 → high ≡ length / 256 % 256 → low ≡ length % 256
    → a ≡ old ++ 0 ∷ 0 ∷ 1 ∷ id ∷ high ∷ low ∷ [] → b ≡ a ++ 128 ∷ 192 ∷ 10 ∷ [] → c ≡ b ++ time_bytes 3 pts → c ++ time_bytes 1 dts ≡ old ++ header id pts dts length
two_times old a b c id pts dts length high low e i l h k p q r =
    rw (header_two id pts dts length e, ← start_is id length high low i l h k, ← flags_of_two, r, q, p) (simp append_assoc)
