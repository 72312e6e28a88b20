-- The answer's length, and its bytes by their places.
use Rattle.std.proofs.Common.{ℕ, List, ◌++◌, length, take, drop, get_or, ◌-◌, ◌+◌, ◌%◌, ◌<◌, ◌≤◌, ◌≡◌, ◌∙◌, refl, sym, ap, arith, append_assoc}
use Rattle.std.proofs.lemmas.List.{length-take-le, length-drop, length-append, get_or_append_left, get_or-append-add, get_or-append_right, get_or-take, get_or-drop, get_or-replicate}
use Rattle.std.proofs.lemmas.List.FromFn.{get_or-map-range_with_len}
use Rattle.std.specs.List.{slice_index}
use Rattle.rtmp_handshake.specs.Answer.{answer_of, c1, s0, s1, s2, zeros, random_bytes}
use Rattle.rtmp_handshake.proofs.Randoms.{random_length}

-- a random byte by its place
random_at : (n i : ℕ) → i < n → get_or (random_bytes n) i 0 ≡ i % 251
unfolding random_bytes
random_at n i h = get_or-map-range_with_len (λ (k : ℕ). k % 251) 0 n i i 0 h (omega arith)

-- C1 has 1,536 bytes
c1_length : (client : List ℕ) → 1537 ≤ length client → length (c1 client) ≡ 1536
c1_length client h = length-take-le 1536 (drop 1 client) (rw length-drop (omega arith))

-- and is the client's bytes after the first
c1_at : (client : List ℕ) (i : ℕ) → i < 1536 → get_or (c1 client) i 0 ≡ get_or client (1 + i) 0
c1_at client i h = get_or-take 1536 (drop 1 client) i 0 h ∙ get_or-drop 1 client i 0

-- S0 and S1 have 1,537 bytes
front_length : length (s0 ++ s1) ≡ 1537
front_length = let e = random_length 1528 in omega arith

s2_length : (part : List ℕ) → length part ≡ 1536 → length (s2 part) ≡ 1536
s2_length part h =
    let a : length (take 4 part) ≡ 4 = length-take-le 4 part (omega arith) in
    rw (length-append (take 4 part) (zeros ++ drop 8 part), length-append zeros (drop 8 part), length-drop 8 part) (omega arith)

pub answer_length : (client : List ℕ) → 1537 ≤ length client → length (answer_of client) ≡ 3073
unfolding answer_of
answer_length client h =
    let a = front_length in
    let b = s2_length (c1 client) (c1_length client h) in
    let e : s0 ++ (s1 ++ s2 (c1 client)) ≡ (s0 ++ s1) ++ s2 (c1 client) = sym (append_assoc s0 s1 (s2 (c1 client))) in
    let sum : length (s0 ++ s1) + length (s2 (c1 client)) ≡ 3073 = omega arith in
    ap length e ∙ length-append (s0 ++ s1) (s2 (c1 client)) ∙ sum

pub answer_version : (client : List ℕ) → slice_index (answer_of client) 0 ≡ 3
unfolding answer_of
answer_version client = refl

pub answer_zeros : (client : List ℕ) (i : ℕ) → i < 8 → slice_index (answer_of client) (1 + i) ≡ 0
unfolding answer_of
answer_zeros client i h =
    get_or-append-add s0 ((zeros ++ zeros) ++ (random_bytes 1528 ++ s2 (c1 client))) i 0
    ∙ get_or_append_left (zeros ++ zeros) (random_bytes 1528 ++ s2 (c1 client)) 0 i h
    ∙ get_or-replicate 8 i 0 0 h

pub answer_random : (client : List ℕ) (i : ℕ) → i < 1528 → slice_index (answer_of client) (9 + i) ≡ i % 251
unfolding answer_of
answer_random client i h =
    get_or-append-add (s0 ++ (zeros ++ zeros)) (random_bytes 1528 ++ s2 (c1 client)) i 0
    ∙ get_or_append_left (random_bytes 1528) (s2 (c1 client)) 0 i (rw random_length h)
    ∙ random_at 1528 i h

-- a byte of S2 by its place
answer_s2 : (client : List ℕ) (i : ℕ) → get_or (answer_of client) (1537 + i) 0 ≡ get_or (s2 (c1 client)) i 0
unfolding answer_of
answer_s2 client i =
    let e : s0 ++ (s1 ++ s2 (c1 client)) ≡ (s0 ++ s1) ++ s2 (c1 client) = sym (append_assoc s0 s1 (s2 (c1 client))) in
    let k : 1537 + i - 1537 ≡ i = omega arith in
    ap (λ (t : List ℕ). get_or t (1537 + i) 0) e
    ∙ get_or-append_right (s0 ++ s1) (s2 (c1 client)) 1537 (1537 + i) 0 front_length (omega arith)
    ∙ ap (λ (t : ℕ). get_or (s2 (c1 client)) t 0) k

pub answer_time : (client : List ℕ) (i : ℕ) → 1537 ≤ length client → i < 4 → slice_index (answer_of client) (1537 + i) ≡ slice_index client (1 + i)
answer_time client i h k =
    let part = c1 client in
    let four : length (take 4 (c1 client)) ≡ 4 = length-take-le 4 (c1 client) (let e = c1_length client h in omega arith) in
    answer_s2 client i
    ∙ get_or_append_left (take 4 (c1 client)) (zeros ++ drop 8 (c1 client)) 0 i (omega arith)
    ∙ get_or-take 4 (c1 client) i 0 k
    ∙ c1_at client i (omega arith)

pub answer_when_read : (client : List ℕ) (i : ℕ) → 1537 ≤ length client → 4 ≤ i → i < 8 → slice_index (answer_of client) (1537 + i) ≡ 0
answer_when_read client i h low high =
    let four : length (take 4 (c1 client)) ≡ 4 = length-take-le 4 (c1 client) (let e = c1_length client h in omega arith) in
    answer_s2 client i
    ∙ get_or-append_right (take 4 (c1 client)) (zeros ++ drop 8 (c1 client)) 4 i 0 four low
    ∙ get_or_append_left zeros (drop 8 (c1 client)) 0 (i - 4) (omega arith)
    ∙ get_or-replicate 4 (i - 4) 0 0 (omega arith)

pub answer_echo : (client : List ℕ) (i : ℕ) → 1537 ≤ length client → 8 ≤ i → i < 1536 → slice_index (answer_of client) (1537 + i) ≡ slice_index client (1 + i)
answer_echo client i h low high =
    let four : length (take 4 (c1 client)) ≡ 4 = length-take-le 4 (c1 client) (let e = c1_length client h in omega arith) in
    let eight : length (take 4 (c1 client) ++ zeros) ≡ 8 = rw (length-append (take 4 (c1 client)) zeros) (omega arith) in
    let e : s2 (c1 client) ≡ (take 4 (c1 client) ++ zeros) ++ drop 8 (c1 client) = sym (append_assoc (take 4 (c1 client)) zeros (drop 8 (c1 client))) in
    let k : 8 + (i - 8) ≡ i = omega arith in
    answer_s2 client i
    ∙ ap (λ (t : List ℕ). get_or t i 0) e
    ∙ get_or-append_right (take 4 (c1 client) ++ zeros) (drop 8 (c1 client)) 8 i 0 eight low
    ∙ get_or-drop 8 (c1 client) (i - 8) 0
    ∙ ap (λ (t : ℕ). get_or (c1 client) t 0) k
    ∙ c1_at client i high
