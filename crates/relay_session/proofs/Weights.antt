-- Few acknowledgements come of few bytes
use Rattle.std.proofs.Common.{◌≡◌, ◌≤◌, ◌<◌, ◌+◌, ◌-◌, ◌*◌, ◌%◌, ℕ, Bool, true, false, cond, eqb, nat_le, List, [], ◌++◌, length, drop, Some, None, refl, sym, ap, ◌∙◌, arith, length-append, length-drop}
use Rattle.std.proofs.lemmas.Bool.Decides.{nat_tests}
use Rattle.std.specs.List.{range_with_len}
use Rattle.std.proofs.lemmas.List.{length-take, length-map}
use Rattle.std.proofs.lemmas.List.FromFn.{length-range_with_len}
use Rattle.std.proofs.Math.Nat.{mod-add-mod, mod-eq_of_lt}
use Rattle.ack_window.specs.Inbound.{InWindow, IsInWindow, ack_of, in_took, number_of, room_of}
use Rattle.ack_window.proofs.Places.{next_place}
use Rattle.chunk_writer.specs.Written.{written}
use Rattle.rtmp_handshake.specs.Answer.{answer_of, answered, c1, random, random_bytes, s0, s1, s2, time, zeros}
use Rattle.session_owed.specs.Acks.{ack_messages}
use Rattle.relay_session.specs.Bounds.{weight}
use Rattle.relay_session.specs.Owing.{Owing, Says}

none_written : (o p : Owing) → Says o [] p → p.others ≡ o.others
unfolding written
none_written o p s = omega (arith, s.others)

room_less : (w t n : ℕ) → n < w - t % w → w - (t + n) % w ≡ (w - t % w) - n
room_less w t n less =
    let e : (t + n) % w ≡ t % w + n = sym (mod-add-mod t w n) ∙ mod-eq_of_lt (omega (arith, less)) in
    omega (arith, e)

room_whole : (w t : ℕ) → 0 < w → w - (t + (w - t % w)) % w ≡ w
room_whole w t some = omega (arith, next_place w t some)

weight_case : (t : Bool) (w : InWindow) (n : ℕ) (x : List ℕ) (o p : Owing) → eqb n (room_of w) ≡ t → IsInWindow w.window w.taken → n ≤ room_of w → Says o (ack_messages (cond t (Some (number_of (w.taken + n))) None)) p
    → 16 * p.others ≤ 16 * o.others + 356 → weight p.others x (in_took w n) ≤ weight o.others x w + 356 * n
weight_case true w n x o p is k le s m =
    let e : n ≡ room_of w = grind (arith, nat_tests, is) in
    let r : room_of (in_took w n) ≡ w.window = ap (λ (k : ℕ). w.window - (w.taken + k) % w.window) e ∙ room_whole w.window w.taken (omega (arith, k.least)) in
    omega (arith, e, r, k.least, m)
weight_case false w n x o p is k le s m =
    let less : n < room_of w = grind (arith, nat_tests, is, le) in
    omega (arith, room_less w.window w.taken n less, none_written o p s)

-- an acknowledgement, if it comes, and then the next is 1,000 bytes away
pub weight_took : (w : InWindow) (n : ℕ) (x : List ℕ) (o p : Owing) → IsInWindow w.window w.taken → n ≤ room_of w → Says o (ack_messages (ack_of w n)) p
    → 16 * p.others ≤ 16 * o.others + 356 → weight p.others x (in_took w n) ≤ weight o.others x w + 356 * n
weight_took w n x o p k le s m = weight_case (eqb n (room_of w)) w n x o p refl k le s m

-- ---- the handshake's answer

bytes_random : (n : ℕ) → length (random_bytes n) ≡ n
unfolding random_bytes
bytes_random n = length-map (range_with_len 0 n) (λ i. i % 251) ∙ length-range_with_len 0 n

answer_length : (y : List ℕ) → 1537 ≤ length y → length (answer_of y) ≡ 3073
unfolding answer_of
answer_length y le =
    let c : length (c1 y) ≡ 1536 = omega (arith, le, length-take 1536 (drop 1 y), length-drop 1 y) in
    let t = length-take 4 (c1 y) in
    let r = length-drop 8 (c1 y) in
    omega (
      arith,
      c,
      t,
      r,
      bytes_random 1528,
      length-append zeros (random_bytes 1528),
      length-append zeros (zeros ++ random_bytes 1528),
      length-append zeros (random (c1 y)),
      length-append (time (c1 y)) (zeros ++ random (c1 y)),
      length-append s1 (s2 (c1 y)),
      length-append s0 (s1 ++ s2 (c1 y)),
    )

answered_case : (t : Bool) (y : List ℕ) → nat_le 1537 (length y) ≡ t → length (cond t (answer_of y) []) ≤ 3073
answered_case true y e = omega (arith, answer_length y (grind (arith, nat_tests, e)))
answered_case false y e = omega arith

answered_most : (y : List ℕ) → length (answered y) ≤ 3073
unfolding answered
answered_most y = answered_case (nat_le 1537 (length y)) y refl

whole_case : (t : Bool) (y : List ℕ) → nat_le 1537 (length y) ≡ t → 1537 ≤ length y → length (cond t (answer_of y) []) ≡ 3073
whole_case true y e le = answer_length y le
whole_case false y e le = absurd (grind (arith, nat_tests, e, le))

answered_whole : (y : List ℕ) → 1537 ≤ length y → length (answered y) ≡ 3073
unfolding answered
answered_whole y le = whole_case (nat_le 1537 (length y)) y refl le

-- what it says is what was still to come
pub weight_hand : (x y more : List ℕ) (n k : ℕ) (w : InWindow) → answered x ++ more ≡ answered y → k ≡ n + length more → weight k y w ≤ weight n x w
weight_hand x y more n k w e ke =
    omega (arith, ap length e, length-append (answered x) more, ke, answered_most y)

-- after it nothing of it is to come
pub weight_chunk : (x y : List ℕ) (n : ℕ) (w : InWindow) → 1537 ≤ length x → 1537 ≤ length y → weight n y w ≤ weight n x w
weight_chunk x y n w le lf = omega (arith, answered_whole x le, answered_whole y lf)

-- bytes of chunks that end no message
pub weight_quiet : (w v : InWindow) (n : ℕ) (x y : List ℕ) (o p : Owing) → IsInWindow w.window w.taken → n ≤ room_of w → Says o (ack_messages (ack_of w n)) p → 16 * p.others ≤ 16 * o.others + 356 → v ≡ in_took w n
    → 1537 ≤ length x → length x ≤ length y → weight p.others y v ≤ weight o.others x w + 356 * n
weight_quiet w v n x y o p k le s m e lx ly =
    let t = weight_took w n x o p k le s m in
    let u : weight p.others y (in_took w n) ≤ weight p.others x (in_took w n) = weight_chunk x y p.others (in_took w n) lx (omega (arith, lx, ly)) in
    rw e (omega (arith, t, u))

-- a message more is answered
pub weight_loud : (w : InWindow) (n most q : ℕ) (x : List ℕ) (o p : Owing) → IsInWindow w.window w.taken → n ≤ room_of w → Says o (ack_messages (ack_of w n)) p → 16 * p.others ≤ 16 * o.others + 356
    → 16 * q ≤ 16 * p.others + 4640 → n ≤ most → 16000 * q ≤ weight o.others x w + (356 * most + 4640000)
weight_loud w n most q x o p k le s m l lf = omega (arith, weight_took w n x o p k le s m, l, lf)
