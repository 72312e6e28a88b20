-- The answer by the client's first 1,537 bytes, and by what was kept of them.
use Rattle.std.proofs.Common.{ℕ, List, [], ◌++◌, length, take, drop, ◌<◌, ◌≤◌, ◌≡◌, ◌∙◌, refl, ap, arith}
use Rattle.std.proofs.lemmas.List.{take-take, drop-take, drop-drop, take_at, drop_at, length-take-le, length-drop, take-append-le, drop-append-le}
use Rattle.std.proofs.lemmas.Bool.Decides.{nat_tests}
use Rattle.rtmp_handshake.specs.Answer.{answer_of, answered, c1, s0, s1, s2}
use Rattle.rtmp_handshake.specs.Echo.{kept_of, answer_by}

-- C1 stands in the first 1,537 bytes
c1_alone : (xs ys : List ℕ) → 1537 ≤ length xs → c1 (xs ++ ys) ≡ c1 xs
c1_alone xs ys h =
    let short : 1536 ≤ length (drop 1 xs) = rw length-drop (omega arith) in
    rw (drop-append-le 1 xs ys (omega arith)) (take-append-le 1536 (drop 1 xs) ys short)

pub answer_alone : (xs ys : List ℕ) → 1537 ≤ length xs → answer_of (xs ++ ys) ≡ answer_of xs
unfolding answer_of
answer_alone xs ys h = ap (λ (t : List ℕ). s0 ++ (s1 ++ s2 t)) (c1_alone xs ys h)

pub answered_not : (xs : List ℕ) → length xs < 1537 → answered xs ≡ []
unfolding answered
answered_not xs h = grind (arith, nat_tests)

pub answered_all : (xs : List ℕ) → 1537 ≤ length xs → answered xs ≡ answer_of xs
unfolding answered
answered_all xs h = grind (arith, nat_tests)

-- the random bytes of C1 end where C1 ends
random_part : (xs : List ℕ) → drop 8 (take 1536 (drop 1 xs)) ≡ take 1528 (drop 9 xs)
random_part xs = drop-take 8 1528 (drop 1 xs) ∙ ap (λ (t : List ℕ). take 1528 t) (drop-drop 8 1 xs)

pub answer_kept : (xs : List ℕ) → 1537 ≤ length xs → answer_by (kept_of 0 xs) ≡ answer_of xs
unfolding answer_of
answer_kept xs h =
    let four : length (take 4 (drop 1 xs)) ≡ 4 = length-take-le 4 (drop 1 xs) (rw length-drop (omega arith)) in
    rw (take_at (take 4 (drop 1 xs)) (take 1528 (drop 9 xs)) 4 four, drop_at (take 4 (drop 1 xs)) (take 1528 (drop 9 xs)) 4 four, take-take 4 1536 (drop 1 xs) (omega arith), random_part xs) refl
