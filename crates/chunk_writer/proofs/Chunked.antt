-- A message that is written chunk by chunk
use Rattle.std.proofs.Common.{◌≡◌, ℕ, zero, suc, ◌+◌, ◌<◌, ◌≤◌, Bool, true, false, ◌||◌, nat_lt, List, [], ◌∷◌, ◌++◌, length, take, drop, refl, sym, ap, ◌∙◌, arith, append_assoc}
use Rattle.std.proofs.lemmas.Bool.Decides.{nat_tests}
use Rattle.std.proofs.lemmas.List.{drop-drop, drop_all, length-drop}
use Rattle.chunk_wire.specs.declared.message.Message.{Message}
use Rattle.chunk_writer.specs.declared.begun.Begun.{Begun}
use Rattle.chunk_writer.specs.WriterKnown.{WriterKnown}
use Rattle.chunk_writer.specs.Rule.{begun_in}
use Rattle.chunk_writer.specs.Written.{bytes_of, header_with, message_bytes, spread}
use Rattle.chunk_writer.specs.InHand.{InHand, after_chunk, chunk_of, has_more, in_hand, left_of}
use Rattle.chunk_writer.proofs.Spread.{spread_full, spread_nil}

-- the bytes up to the end of the room, and then the further chunks
pub spread_split : (h : List ℕ) (size room : ℕ) (body : List ℕ) → spread h size room body ≡ take room body ++ spread h size 0 (drop room body)
unfolding spread
spread_split h size zero [] = refl
spread_split h size (suc room) [] = refl
spread_split h size zero (b ∷ body) = refl
spread_split h size (suc room) (b ∷ body) = ap (λ (l : List ℕ). b ∷ l) (spread_split h size room body)

-- what is left after the first bytes
drop_taken : (n : ℕ) (l : List ℕ) → drop (length (take n l)) l ≡ drop n l
drop_taken zero l = refl
drop_taken (suc n) [] = refl
drop_taken (suc n) (b ∷ l) = drop_taken n l

-- what is left of the body after the next chunk
dropped : (sent size : ℕ) (body : List ℕ) → drop (sent + length (take size (drop sent body))) body ≡ drop size (drop sent body)
dropped sent size body = sym (drop-drop (length (take size (drop sent body))) sent body) ∙ drop_taken size (drop sent body)

pub all_left : (w : WriterKnown) (m : Message) → left_of (in_hand w.size (begun_in w.said m)) m.body ≡ bytes_of w m
unfolding left_of bytes_of
all_left w m = refl

more_by : (fresh : Bool) (b : Begun) (size sent : ℕ) (body : List ℕ) → 1 ≤ size → (fresh ≡ true → sent ≡ 0) → (fresh || nat_lt sent (length body)) ≡ true
    → chunk_of (record { begun = b; size = size; sent = sent; fresh = fresh }) body ++ left_of (after_chunk (record { begun = b; size = size; sent = sent; fresh = fresh }) body) body
    ≡ left_of (record { begun = b; size = size; sent = sent; fresh = fresh }) body
unfolding left_of
more_by true b size sent body some none t =
    let head = header_with b.format b in
    let more = header_with 3 b in
    rw (none refl) (
    append_assoc head (take size body) (spread more size 0 (drop (0 + length (take size (drop 0 body))) body))
    ∙ ap (λ (l : List ℕ). head ++ (take size body ++ spread more size 0 l)) (dropped 0 size body)
    ∙ ap (λ (l : List ℕ). head ++ l) (sym (spread_split more size size body))
    )
more_by false b size sent body some none t =
    let more = header_with 3 b in
    let left = drop sent body in
    let longer : 0 < length left = grind (arith, nat_tests, t, length-drop sent body) in
    append_assoc more (take size left) (spread more size 0 (drop (sent + length (take size left)) body))
    ∙ ap (λ (l : List ℕ). more ++ (take size left ++ spread more size 0 l)) (dropped sent size body)
    ∙ ap (λ (l : List ℕ). more ++ l) (sym (spread_split more size size left))
    ∙ sym (spread_full more size left some longer)

pub more_left : (h : InHand) (body : List ℕ) → 1 ≤ h.size → (h.fresh ≡ true → h.sent ≡ 0) → has_more h body ≡ true → chunk_of h body ++ left_of (after_chunk h body) body ≡ left_of h body
more_left h body some none t = more_by h.fresh h.begun h.size h.sent body some none t

none_by : (fresh : Bool) (b : Begun) (size sent : ℕ) (body : List ℕ) → (fresh || nat_lt sent (length body)) ≡ false → left_of (record { begun = b; size = size; sent = sent; fresh = fresh }) body ≡ []
unfolding left_of
none_by true b size sent body t = absurd (cc)
none_by false b size sent body t =
    let le : length body ≤ sent = grind (arith, nat_tests, t) in
    ap (λ (l : List ℕ). spread (header_with 3 b) size 0 l) (drop_all sent body le) ∙ spread_nil (header_with 3 b) size 0

pub none_left : (h : InHand) (body : List ℕ) → has_more h body ≡ false → left_of h body ≡ []
none_left h body t = none_by h.fresh h.begun h.size h.sent body t

-- with a chunk more
pub written_more : (h new : InHand) (body out now : List ℕ) → 1 ≤ h.size → (h.fresh ≡ true → h.sent ≡ 0) → has_more h body ≡ true → new ≡ after_chunk h body → now ≡ out ++ chunk_of h body
    → now ++ left_of new body ≡ out ++ left_of h body
written_more h new body out now some none t after w =
    rw (after, w) (append_assoc out (chunk_of h body) (left_of (after_chunk h body) body) ∙ ap (λ (l : List ℕ). out ++ l) (more_left h body some none t))
