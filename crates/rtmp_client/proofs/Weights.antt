-- Few acknowledgements come of few bytes
use Rattle.std.proofs.Common.{◌≡◌, ◌≤◌, ◌<◌, ◌+◌, ◌-◌, ◌*◌, ◌%◌, ℕ, Bool, true, false, cond, eqb, if◌then◌else◌, [], Some, None, refl, sym, ap, ◌∙◌, arith}
use Rattle.std.proofs.lemmas.Bool.{le-ltb}
use Rattle.std.proofs.lemmas.Bool.Decides.{nat_tests}
use Rattle.std.proofs.Math.Nat.{mod-add-mod, mod-eq_of_lt}
use Rattle.ack_window.specs.Inbound.{InWindow, IsInWindow, ack_of, in_took, number_of, room_of}
use Rattle.ack_window.proofs.Places.{next_place}
use Rattle.chunk_writer.specs.Written.{written}
use Rattle.session_owed.specs.Acks.{ack_messages}
use Rattle.session_owed.specs.Talk.{hand_bytes}
use Rattle.rtmp_client.specs.Bounds.{to_greet, weight}
use Rattle.rtmp_client.specs.Owing.{Owing, Says}

none_written : (o p : Owing) → Says o [] p → p.others ≡ o.others
unfolding written
none_written o p s = omega (arith, s.others)

room_less : (w t n : ℕ) → n < w - t % w → w - (t + n) % w ≡ (w - t % w) - n
room_less w t n less =
    let e : (t + n) % w ≡ t % w + n = sym (mod-add-mod t w n) ∙ mod-eq_of_lt (omega (arith, less)) in
    omega (arith, e)

room_whole : (w t : ℕ) → 0 < w → w - (t + (w - t % w)) % w ≡ w
room_whole w t some = omega (arith, next_place w t some)

weight_case : (t : Bool) (w : InWindow) (n x : ℕ) (o p : Owing) → eqb n (room_of w) ≡ t → IsInWindow w.window w.taken → n ≤ room_of w → Says o (ack_messages (cond t (Some (number_of (w.taken + n))) None)) p
    → 16 * p.others ≤ 16 * o.others + 356 → weight p.others x (in_took w n) ≤ weight o.others x w + 356 * n
weight_case true w n x o p is k le s m =
    let e : n ≡ room_of w = grind (arith, nat_tests, is) in
    let r : room_of (in_took w n) ≡ w.window = ap (λ (k : ℕ). w.window - (w.taken + k) % w.window) e ∙ room_whole w.window w.taken (omega (arith, k.least)) in
    omega (arith, e, r, k.least, m)
weight_case false w n x o p is k le s m =
    let less : n < room_of w = grind (arith, nat_tests, is, le) in
    omega (arith, room_less w.window w.taken n less, none_written o p s)

-- an acknowledgement, if it comes, and then the next is 1,000 bytes away
pub weight_took : (w : InWindow) (n x : ℕ) (o p : Owing) → IsInWindow w.window w.taken → n ≤ room_of w → Says o (ack_messages (ack_of w n)) p
    → 16 * p.others ≤ 16 * o.others + 356 → weight p.others x (in_took w n) ≤ weight o.others x w + 356 * n
weight_took w n x o p k le s m = weight_case (eqb n (room_of w)) w n x o p refl k le s m

-- after the handshake nothing of it is to come
abbrev some_left : Bool → ℕ
some_left t = if t then 2463 else 0

late_none : (x : ℕ) → hand_bytes ≤ x → to_greet x ≡ 0
late_none x h = ap some_left (le-ltb x hand_bytes h)

-- bytes of chunks that end no message
pub weight_quiet : (w v : InWindow) (n x y : ℕ) (o p : Owing) → IsInWindow w.window w.taken → n ≤ room_of w → Says o (ack_messages (ack_of w n)) p → 16 * p.others ≤ 16 * o.others + 356 → v ≡ in_took w n
    → hand_bytes ≤ x → x ≤ y → weight p.others y v ≤ weight o.others x w + 356 * n
weight_quiet w v n x y o p k le s m e hx xy =
    let t = weight_took w n x o p k le s m in
    rw e (omega (arith, t, late_none x hx, late_none y (omega (arith, hx, xy))))

-- a message more is answered
pub weight_loud : (w : InWindow) (n most q x : ℕ) (o p : Owing) → IsInWindow w.window w.taken → n ≤ room_of w → Says o (ack_messages (ack_of w n)) p → 16 * p.others ≤ 16 * o.others + 356
    → 16 * q ≤ 16 * p.others + 5600 → n ≤ most → 16000 * q ≤ weight o.others x w + (356 * most + 5600000)
weight_loud w n most q x o p k le s m l lf = omega (arith, weight_took w n x o p k le s m, l, lf)
