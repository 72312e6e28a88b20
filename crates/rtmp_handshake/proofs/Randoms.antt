-- The server's random bytes, one by one.
use Rattle.std.proofs.Common.{ℕ, [], ◌∷◌, ◌++◌, length, ◌+◌, ◌%◌, ◌≡◌, refl, arith}
use Rattle.std.proofs.lemmas.List.FromFn.{map-range_with_len_more, length-map-range_with_len}
use Rattle.rtmp_handshake.specs.Answer.{random_bytes}

pub random_more : (n : ℕ) → random_bytes (n + 1) ≡ random_bytes n ++ (n % 251) ∷ []
unfolding random_bytes
random_more n = map-range_with_len_more (λ (i : ℕ). i % 251) 0 n n (omega arith)

pub random_length : (n : ℕ) → length (random_bytes n) ≡ n
unfolding random_bytes
random_length n = length-map-range_with_len (λ (i : ℕ). i % 251) 0 n

pub random_none : random_bytes 0 ≡ []
unfolding random_bytes
random_none = refl
