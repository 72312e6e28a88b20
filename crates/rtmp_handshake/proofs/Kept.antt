-- What is kept of C1, piece by piece, and the answer by it.
use Rattle.std.proofs.Common.{ℕ, List, [], ◌++◌, length, drop, ◌+◌, ◌-◌, ◌≤◌, ◌≡◌, ◌∙◌, Option, Some, None, refl, sym, ap, append_assoc, arith, length-drop, min}
use Rattle.std.proofs.lemmas.List.{append-nil, take_all, drop_all, length-append, length-take}
use Rattle.std.proofs.lemmas.Bool.{cases_lt}
use Rattle.std.proofs.lemmas.Bool.Decides.{nat_tests}
use Rattle.std.proofs.Common.{inl, inr}
use Rattle.rtmp_handshake.specs.declared.fail.HandFail.{HandFail}
use Rattle.rtmp_handshake.specs.Echo.{part_of, kept_of}
use Rattle.rtmp_handshake.specs.Handshake.{held_by}
use Rattle.rtmp_handshake.specs.Sound.{IsSound}
use Rattle.rtmp_handshake.proofs.Lists.{take_over, drop_over}

-- the places `from .. to` of a text of two pieces
pub part_more : (from to : ℕ) (xs ys : List ℕ) → part_of 0 from to (xs ++ ys) ≡ part_of 0 from to xs ++ part_of (length xs) from to ys
part_more from to xs ys =
    let a : from - 0 - length xs ≡ from - length xs = omega arith in
    let b : to - 0 - (from - 0) - length (drop (from - 0) xs) ≡ to - length xs - (from - length xs) = rw length-drop (omega arith) in
    rw (drop_over (from - 0) xs ys, a, take_over (to - 0 - (from - 0)) (drop (from - 0) xs) (drop (from - length xs) ys), b) refl

-- places that lie past the end
part_past : (from to : ℕ) (xs : List ℕ) → length xs ≤ from → part_of 0 from to xs ≡ []
part_past from to xs h = let e : drop (from - 0) xs ≡ [] = drop_all (from - 0) xs (omega arith) in rw e (take_all (to - 0 - (from - 0)) [] (omega arith))

-- places that lie before the piece
part_before : (before from to : ℕ) (ys : List ℕ) → to ≤ before → part_of before from to ys ≡ []
part_before before from to ys h = let e : to - before - (from - before) ≡ 0 = omega arith in rw e refl

pub kept_more : (xs ys : List ℕ) → kept_of 0 (xs ++ ys) ≡ kept_of 0 xs ++ kept_of (length xs) ys
kept_more xs ys =
    rw (part_more 1 5 xs ys, part_more 9 1537 xs ys)
    (elim (cases_lt (length xs) 9) [
      | inl lt ↦ rw (part_past 9 1537 xs (omega arith), append-nil (part_of 0 1 5 xs))
          (append_assoc (part_of 0 1 5 xs) (part_of (length xs) 1 5 ys) (part_of (length xs) 9 1537 ys))
      | inr le ↦ rw (part_before (length xs) 1 5 ys (omega arith), append-nil (part_of 0 1 5 xs))
          (sym (append_assoc (part_of 0 1 5 xs) (part_of 0 9 1537 xs) (part_of (length xs) 9 1537 ys)))
    ])

-- what is kept of C1 is its time and its random bytes at most
pub kept_most : (xs : List ℕ) → length (kept_of 0 xs) ≤ 1532
kept_most xs =
    let a : length (part_of 0 1 5 xs) ≡ min 4 (length (drop 1 xs)) = length-take 4 (drop 1 xs) in
    let b : length (part_of 0 9 1537 xs) ≡ min 1528 (length (drop 9 xs)) = length-take 1528 (drop 9 xs) in
    rw (length-append (part_of 0 1 5 xs) (part_of 0 9 1537 xs)) (omega arith)

kept_length : (xs : List ℕ) → length (kept_of 0 xs) ≡ min 4 (length xs - 1) + min 1528 (length xs - 9)
kept_length xs =
    let a : length (part_of 0 1 5 xs) ≡ min 4 (length (drop 1 xs)) = length-take 4 (drop 1 xs) in
    let b : length (part_of 0 9 1537 xs) ≡ min 1528 (length (drop 9 xs)) = length-take 1528 (drop 9 xs) in
    omega (arith, a, b, length-drop 1 xs, length-drop 9 xs, length-append (part_of 0 1 5 xs) (part_of 0 9 1537 xs))

-- how many of the bytes read are kept
pub held_is : (count : ℕ) (kept fed : List ℕ) (failed : Option HandFail) → IsSound count kept failed fed → length kept ≡ held_by failed (length fed)
held_is count kept fed None s = elim (cases_lt (length fed) 1537) [
  | inl lt ↦ let e = ap length (s.kept_is refl lt) ∙ kept_length fed in grind (arith, nat_tests)
  | inr le ↦ let e = ap length (s.let_go le) in grind (arith, nat_tests)
]
held_is count kept fed (Some e) s = ap length (s.dropped (λ n. absurd (let m : Some e ≡ None = n in cc)))
