-- The handshake of RTMP 1.0 (5.2): the client sends C0, C1 and C2, and the server answers with S0, S1 and S2. What is
-- named own is left open there, and is this project's choice.
use Rattle.std.specs.Prelude.{ℕ, ◌==◌, ◌%◌, nat_le, if◌then◌else◌, List, [], ◌∷◌, ◌++◌, length, take, drop, map, replicate, Option, Some, None}
use Rattle.std.specs.List.{range_with_len}

-- C0 (5.2.2): one byte, the version. What the client's bytes have there instead of 3, if they have another byte
abbrev pub bad_version : List ℕ → Option ℕ
bad_version [] = None
bad_version (first ∷ _) = if first == 3 then None else Some first

-- C1 (5.2.3): the 1,536 bytes after C0
abbrev pub c1 : List ℕ → List ℕ
c1 client = take 1536 (drop 1 client)

-- its time: the first 4 bytes
abbrev pub time : List ℕ → List ℕ
time part = take 4 part

-- its random bytes: the 1,528 after the time and 4 more, which are to be zero and which nothing depends on here (own)
abbrev pub random : List ℕ → List ℕ
random part = drop 8 part

-- the time 0, and the field of zeros
abbrev pub zeros : List ℕ
zeros = replicate 4 0

-- so many random bytes of the server's: byte i is i modulo 251 (own)
unfoldable pub random_bytes : ℕ → List ℕ
random_bytes n = map (λ i. i % 251) (range_with_len 0 n)

-- S0 (5.2.2): the version
abbrev pub s0 : List ℕ
s0 = 3 ∷ []

-- S1 (5.2.3): the server's time, which is 0 (own), zeros, and random bytes
abbrev pub s1 : List ℕ
s1 = zeros ++ (zeros ++ random_bytes 1528)

-- S2 (5.2.4): the time of C1, the time at which C1 was read, which is 0 (own), and the random bytes of C1
abbrev pub s2 : List ℕ → List ℕ
s2 part = time part ++ (zeros ++ random part)

-- THE ANSWER to a client's bytes, of which it needs the first 1,537: C0 and C1
unfoldable pub answer_of : List ℕ → List ℕ
answer_of client = s0 ++ (s1 ++ s2 (c1 client))

-- what a client is sent in a handshake, after it sent these bytes: nothing before C1 is complete, then all of the
-- answer at once (own: S0 and S1 may be sent sooner)
unfoldable pub answered : List ℕ → List ℕ
answered client = if nat_le 1537 (length client) then answer_of client else []
