-- The payload of a message, cut into its chunks
use Rattle.std.proofs.Common.{◌≡◌, ℕ, ◌-◌, ◌<◌, ◌≤◌, List, [], ◌∷◌, ◌++◌, length, take, drop, zero, suc, refl, ap, arith}
use Rattle.chunk_writer.specs.Written.{spread}

-- nothing is put in where all has room
pub spread_short : (header : List ℕ) (size room : ℕ) (body : List ℕ) → length body ≤ room → spread header size room body ≡ body
unfolding spread
spread_short header size room [] le = refl
spread_short header size zero (byte ∷ body) le = absurd (omega arith)
spread_short header size (suc room) (byte ∷ body) le = ap (λ (b : List ℕ). byte ∷ b) (spread_short header size room body (omega arith))

next_chunk : (header : List ℕ) (size : ℕ) (body : List ℕ) → 1 ≤ size → 0 < length body → spread header size 0 body ≡ header ++ spread header size size body
unfolding spread
next_chunk header size [] some more = absurd (omega arith)
next_chunk header zero (byte ∷ body) some more = absurd (omega arith)
next_chunk header (suc size) (byte ∷ body) some more =
    let e : suc size - 1 ≡ size = omega arith in
    ap (λ (n : ℕ). header ++ byte ∷ spread header (suc size) n body) e

-- a full chunk, and then a header and the next
spread_room : (header : List ℕ) (size room : ℕ) (body : List ℕ) → 1 ≤ size → room < length body → spread header size room body ≡ take room body ++ (header ++ spread header size size (drop room body))
unfolding spread
spread_room header size room [] some more = absurd (omega arith)
spread_room header size zero (byte ∷ body) some more = next_chunk header size (byte ∷ body) some more
spread_room header size (suc room) (byte ∷ body) some more = ap (λ (b : List ℕ). byte ∷ b) (spread_room header size room body some (omega arith))

pub spread_long : (header : List ℕ) (size : ℕ) (body : List ℕ) → 1 ≤ size → size < length body → spread header size size body ≡ take size body ++ (header ++ spread header size size (drop size body))
spread_long header size body some more = spread_room header size size body some more
