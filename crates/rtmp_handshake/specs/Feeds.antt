-- The feeds of a handshake, one after another.
use Rattle.std.specs.Prelude.{ℕ, ◌-◌, ◌&&◌, nat_le, nat_lt, if◌then◌else◌, List, [], ◌∷◌, ◌++◌, length, take, min}
use Rattle.rtmp_handshake.specs.Answer.{answer_of}

-- how many bytes of a piece are read after so many: all, but none after the 3,073 bytes of C0, C1 and C2
abbrev pub used_of : List ℕ → List ℕ → ℕ
used_of fed piece = min (length piece) (3073 - length fed)

-- these bytes of the piece
abbrev pub read_of : List ℕ → List ℕ → List ℕ
read_of fed piece = take (3073 - length fed) piece

-- what is put out with a piece: the answer where the piece completes C1, else nothing
unfoldable pub out_of : List ℕ → List ℕ → List ℕ
out_of fed piece =
    if nat_lt (length fed) 1537 && nat_le 1537 (length (fed ++ piece)) then answer_of (fed ++ piece) else []

-- what was read after these pieces in turn
abbrev pub all_read : List ℕ → List (List ℕ) → List ℕ
all_read fed [] = fed
all_read fed (piece ∷ pieces) = all_read (fed ++ read_of fed piece) pieces

-- what was put out with them
abbrev pub all_out : List ℕ → List (List ℕ) → List ℕ
all_out fed [] = []
all_out fed (piece ∷ pieces) = out_of fed piece ++ all_out (fed ++ read_of fed piece) pieces
