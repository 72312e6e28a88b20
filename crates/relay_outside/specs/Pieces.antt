-- Bytes that come in pieces.
use Rattle.std.specs.Prelude.{ℕ, List, [], ◌∷◌, Option, Some, None, take, drop}

-- the pieces from the first that isn't empty on
abbrev pub nonempty_from : List (List ℕ) → List (List ℕ)
nonempty_from [] = []
nonempty_from ([] ∷ pieces) = nonempty_from pieces
nonempty_from ((byte ∷ bytes) ∷ pieces) = (byte ∷ bytes) ∷ pieces

-- as much of the first piece as there is room for
abbrev pub first_bytes : ℕ → List (List ℕ) → Option (List ℕ)
first_bytes room [] = None
first_bytes room (piece ∷ pieces) = Some (take room piece)

-- the pieces, the first without so many of its bytes
abbrev pub cut_first : ℕ → List (List ℕ) → List (List ℕ)
cut_first used [] = []
cut_first used (piece ∷ pieces) = drop used piece ∷ pieces

-- the first piece, an empty one where there is none
abbrev pub first_piece : List (List ℕ) → List ℕ
first_piece [] = []
first_piece (piece ∷ pieces) = piece
