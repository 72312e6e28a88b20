-- The payload in runs of the chunk size
use Rattle.std.proofs.Common.{◌≡◌, ℕ, zero, suc, ◌-◌, ◌+◌, ◌<◌, ◌≤◌, List, [], ◌∷◌, ◌++◌, length, take, drop, refl, sym, ap, ◌∙◌, arith, append-nil, append_assoc}
use Rattle.std.proofs.Common.{take-append-drop, Result, Ok, Err, OnOk}
use Rattle.std.proofs.lemmas.List.{length-take, length-drop}
use Rattle.av_unit.specs.declared.bytes.OutOfMemory.{OutOfMemory}
use Rattle.chunk_writer.specs.Written.{spread}

-- while there is room, the bytes stand as they are
spread_run : (h : List ℕ) (size room more : ℕ) (p rest : List ℕ) → room ≡ length p + more → spread h size room (p ++ rest) ≡ p ++ spread h size more rest
unfolding spread
spread_run h size room more [] rest e = ap (λ (n : ℕ). spread h size n rest) (omega (arith, e))
spread_run h size zero more (b ∷ p) rest e = absurd (omega (arith, e))
spread_run h size (suc room) more (b ∷ p) rest e = ap (λ (l : List ℕ). b ∷ l) (spread_run h size room more p rest (omega (arith, e)))

-- with no room left, a header stands before the next byte
pub spread_full : (h : List ℕ) (size : ℕ) (rest : List ℕ) → 1 ≤ size → 0 < length rest → spread h size 0 rest ≡ h ++ spread h size size rest
unfolding spread
spread_full h zero rest some more = absurd (omega (arith, some))
spread_full h (suc size) [] some more = absurd (omega (arith, more))
spread_full h (suc size) (b ∷ rest) some more = ap (λ (n : ℕ). h ++ b ∷ spread h (suc size) n rest) (omega arith)

pub spread_chunk : (h : List ℕ) (size : ℕ) (p rest : List ℕ) → 1 ≤ size → length p ≡ size → 0 < length rest → spread h size size (p ++ rest) ≡ (p ++ h) ++ spread h size size rest
spread_chunk h size p rest some len more =
    spread_run h size size 0 p rest (omega (arith, len))
    ∙ ap (λ (l : List ℕ). p ++ l) (spread_full h size rest some more)
    ∙ sym (append_assoc p h (spread h size size rest))

pub spread_nil : (h : List ℕ) (size more : ℕ) → spread h size more [] ≡ []
unfolding spread
spread_nil h size more = refl

-- the last chunk has room for all that is left
pub spread_last : (h : List ℕ) (size : ℕ) (p : List ℕ) → length p ≤ size → spread h size size p ≡ p
spread_last h size p le =
    ap (λ (l : List ℕ). spread h size size l) (sym (append-nil p))
    ∙ spread_run h size size (size - length p) p [] (omega (arith, le))
    ∙ ap (λ (l : List ℕ). p ++ l) (spread_nil h size (size - length p))
    ∙ append-nil p

-- what is written of the payload, with a chunk more
abbrev pub Done : List ℕ → ℕ → List ℕ → List ℕ → List ℕ → List ℕ → Type 0
Done h size body start out left = (done : List ℕ) × (out ≡ start ++ done) × (done ++ spread h size size left ≡ spread h size size body)

pub done_more : (h : List ℕ) (size : ℕ) (body start out left now p rest : List ℕ) → 1 ≤ size → size < length left → Done h size body start out left
    → now ≡ out ++ (p ++ h) → p ≡ take size left → rest ≡ drop size left → Done h size body start now rest
done_more h size body start out left now p rest some more d n first last =
    let done = d.0 in
    let whole : p ++ rest ≡ left = rw (first, last) (take-append-drop size left) in
    let len : length p ≡ size = rw first (omega (arith, length-take size left, more)) in
    let longer : 0 < length rest = rw last (omega (arith, length-drop size left, more)) in (
      done ++ (p ++ h),
      n ∙ ap (λ (l : List ℕ). l ++ (p ++ h)) d.1 ∙ append_assoc start done (p ++ h),
      append_assoc done (p ++ h) (spread h size size rest)
          ∙ ap (λ (l : List ℕ). done ++ l) (sym (spread_chunk h size p rest some len longer) ∙ ap (λ (l : List ℕ). spread h size size l) whole)
          ∙ d.2,
    )

pub done_last : (h : List ℕ) (size : ℕ) (body start out left now : List ℕ) (r : Result (Unit {0}) OutOfMemory) → length left ≤ size → Done h size body start out left
    → OnOk r (now ≡ out ++ left) → OnOk r (now ≡ start ++ spread h size size body)
done_last h size body start out left now (Ok u) le d n =
    n ∙ ap (λ (l : List ℕ). l ++ left) d.1 ∙ append_assoc start d.0 left
    ∙ ap (λ (l : List ℕ). start ++ l) (ap (λ (l : List ℕ). d.0 ++ l) (sym (spread_last h size left le)) ∙ d.2)
done_last h size body start out left now (Err e) le d n = n
