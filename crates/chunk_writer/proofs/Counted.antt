-- How many bytes a payload has with the headers in it
use Rattle.std.proofs.Common.{◌≡◌, ℕ, zero, suc, ◌+◌, ◌-◌, ◌*◌, ◌/◌, ◌%◌, min, ◌<◌, ◌≤◌, Bool, true, false, List, [], ◌∷◌, length, drop, refl, sym, ◌∙◌, arith, length-append}
use Rattle.std.proofs.lemmas.Grind.{div_ceil_times}
use Rattle.std.proofs.Math.Nat.{div-le_self, mul-le-mul_left}
use Rattle.chunk_writer.specs.declared.begun.Begun.{Begun}
use Rattle.chunk_writer.specs.InHand.{InHand, left_of}
use Rattle.chunk_writer.specs.Written.{header_with, message_bytes, spread}

-- c further chunks have these bytes that have no room
pub record IsCount (size room n c : ℕ) : Type 0 where
  pub enough : n ≤ room + c * size
  pub least : 0 < c → room + c * size < n + size

pub spread_count : (h : List ℕ) (size room c : ℕ) (body : List ℕ) → 1 ≤ size → IsCount size room (length body) c → length (spread h size room body) ≡ length body + c * length h
unfolding spread
spread_count h size room zero [] some i = omega arith
spread_count h size room (suc c) [] some i = absurd (omega (arith, i.least (omega arith)))
spread_count h size zero zero (b ∷ body) some i = absurd (omega (arith, i.enough))
spread_count h size zero (suc c) (b ∷ body) some i =
    let next : IsCount size (size - 1) (length body) c = record { enough = omega (arith, i.enough, some); least = λ p. omega (arith, i.least (omega arith), some) } in
    omega (arith, length-append h (b ∷ spread h size (size - 1) body), spread_count h size (size - 1) c body some next)
spread_count h size (suc room) c (b ∷ body) some i =
    let next : IsCount size room (length body) c = record { enough = omega (arith, i.enough); least = λ p. omega (arith, i.least p) } in
    omega (arith, spread_count h size room c body some next)

-- the same of a length that is told
pub spread_by : (header size room len n : ℕ) (h body : List ℕ) → length h ≡ header → length body ≡ len → 1 ≤ size → room < len → n ≡ (len - room) / size + min 1 ((len - room) % size)
    → length (spread h size room body) ≡ len + n * header
spread_by header size room len n h body e f some more is =
    let x = len - room in
    let d = div_ceil_times x size some in
    let i : IsCount size room (length body) n = record { enough = rw (f, is) (omega (arith, d.0, more)); least = λ p. rw (f, is) (omega (arith, d.1, more)) } in
    spread_count h size room n body some i ∙ rw (e, f) refl

-- and where there is room for all
pub spread_short : (h : List ℕ) (size room : ℕ) (body : List ℕ) → length body ≤ room → length (spread h size room body) ≡ length body
unfolding spread
spread_short h size room [] le = refl
spread_short h size zero (b ∷ body) le = absurd (omega (arith, le))
spread_short h size (suc room) (b ∷ body) le = omega (arith, spread_short h size room body (omega (arith, le)))

pub count_most : (header x size n : ℕ) → header ≤ 7 → n ≡ x / size + min 1 (x % size) → n * header ≤ 7 * (x + 1)
count_most header x size n le is = omega (arith, is, le, div-le_self x size, mul-le-mul_left {m = header} {n = 7} n le)

-- all of a message is left, of which no chunk is written yet
pub fresh_left : (v : InHand) (b : Begun) (size sent : ℕ) (fresh : Bool) (body : List ℕ) (n : ℕ) → record { begun = b; size = size; sent = sent; fresh = fresh } ≡ v → fresh ≡ true
    → length (message_bytes size b body) ≡ n → n ≡ length (left_of v body)
unfolding left_of
fresh_left v b size sent fresh body n e t s = rw (← e, t) (sym s)

-- and after a chunk the further ones
pub more_left : (v : InHand) (b : Begun) (size sent : ℕ) (fresh : Bool) (body : List ℕ) (n : ℕ) → record { begun = b; size = size; sent = sent; fresh = fresh } ≡ v → fresh ≡ false
    → length (spread (header_with 3 b) size 0 (drop sent body)) ≡ n → n ≡ length (left_of v body)
unfolding left_of
more_left v b size sent fresh body n e t s = rw (← e, t) (sym s)
