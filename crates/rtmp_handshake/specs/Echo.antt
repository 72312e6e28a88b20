-- Only proofs and private functions use it.
-- What is kept of C1 until it is complete: the bytes of it that S2 gives back.
use Rattle.std.specs.Prelude.{ℕ, ◌-◌, List, ◌++◌, take, drop}
use Rattle.rtmp_handshake.specs.Answer.{s0, s1, zeros}

-- what stands in a piece at the places `from .. to` of a text in which so many bytes stand before the piece
abbrev pub part_of : ℕ → ℕ → ℕ → List ℕ → List ℕ
part_of before from to piece = take (to - before - (from - before)) (drop (from - before) piece)

-- what is kept of a piece: what it has of the time and of the random bytes of C1
abbrev pub kept_of : ℕ → List ℕ → List ℕ
kept_of before piece = part_of before 1 5 piece ++ part_of before 9 1537 piece

-- the answer, by what was kept of C1
abbrev pub answer_by : List ℕ → List ℕ
answer_by kept = s0 ++ (s1 ++ (take 4 kept ++ (zeros ++ drop 4 kept)))
