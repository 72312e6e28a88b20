-- What is put out with a piece.
use Rattle.std.proofs.Common.{ℕ, List, [], ◌∷◌, ◌++◌, length, drop, ◌-◌, ◌+◌, ◌<◌, ◌≤◌, ◌≡◌, ◌∙◌, refl, sym, ap, arith, append_assoc, inl, inr, None, min}
use Rattle.std.proofs.lemmas.List.{append-nil, take-append-drop, length-append, length-take}
use Rattle.std.proofs.lemmas.Bool.{cases_lt}
use Rattle.std.proofs.lemmas.Bool.Decides.{nat_tests}
use Rattle.rtmp_handshake.specs.Answer.{answer_of, answered, bad_version}
use Rattle.rtmp_handshake.specs.Feeds.{read_of, out_of}
use Rattle.rtmp_handshake.specs.Echo.{kept_of, answer_by}
use Rattle.rtmp_handshake.proofs.Kept.{kept_more}
use Rattle.rtmp_handshake.proofs.Whole.{answer_alone, answered_not, answered_all, answer_kept}

out_late : (fed piece : List ℕ) → 1537 ≤ length fed → out_of fed piece ≡ []
unfolding out_of
out_late fed piece h = grind (arith, nat_tests)

out_early : (fed piece : List ℕ) → length (fed ++ piece) < 1537 → out_of fed piece ≡ []
unfolding out_of
out_early fed piece h = grind (arith, nat_tests)

out_now : (fed piece : List ℕ) → length fed < 1537 → 1537 ≤ length (fed ++ piece) → out_of fed piece ≡ answer_of (fed ++ piece)
unfolding out_of
out_now fed piece h k = grind (arith, nat_tests)

-- what was read has C1 where the piece completes it
answer_read : (fed piece : List ℕ) → 1537 ≤ length (fed ++ read_of fed piece) → answer_of (fed ++ read_of fed piece) ≡ answer_of (fed ++ piece)
answer_read fed piece h =
    let whole : (fed ++ read_of fed piece) ++ drop (3073 - length fed) piece ≡ fed ++ piece =
    append_assoc fed (read_of fed piece) (drop (3073 - length fed) piece) ∙ ap (λ (t : List ℕ). fed ++ t) (take-append-drop (3073 - length fed) piece) in
    sym (answer_alone (fed ++ read_of fed piece) (drop (3073 - length fed) piece) h) ∙ ap answer_of whole

-- a piece is read whole where fewer than 1,537 bytes are then read
read_whole : (fed piece : List ℕ) → length fed + length (read_of fed piece) < 1537 → length (read_of fed piece) ≡ length piece
read_whole fed piece h =
    let e : length (read_of fed piece) ≡ min (3073 - length fed) (length piece) = length-take (3073 - length fed) piece in
    omega arith

-- what a step over the bytes kept of C1 puts out
pub out_is : (fed piece kept new taken out : List ℕ) (before : ℕ) → before ≡ length fed → taken ≡ read_of fed piece
    → (before < 1537 → kept ≡ kept_of 0 fed)
    → (1537 ≤ before → out ≡ [])
    → (before + length taken < 1537 → (out ≡ []) × (new ≡ kept ++ kept_of before taken))
    → (before < 1537 → 1537 ≤ before + length taken → out ≡ answer_by (kept ++ kept_of before taken))
    → out ≡ out_of fed piece
out_is fed piece kept new taken out before b t kept_is late early now =
    let e : length taken ≡ min (3073 - length fed) (length piece) = ap length t ∙ length-take (3073 - length fed) piece in
    elim (cases_lt before 1537) [
      | inr le ↦ late le ∙ sym (out_late fed piece (omega arith))
      | inl lt ↦ elim (cases_lt (before + length taken) 1537) [
        | inl few ↦ (early few).0 ∙ sym (out_early fed piece (rw length-append (omega arith)))
        | inr enough ↦
            let all_kept : kept ++ kept_of before taken ≡ kept_of 0 (fed ++ read_of fed piece) =
            rw (kept_is lt, b, t) (sym (kept_more fed (read_of fed piece))) in
            let more : 1537 ≤ length (fed ++ piece) = rw length-append (omega arith) in
            let there : 1537 ≤ length (fed ++ read_of fed piece) = rw (length-append, ← t) (omega arith) in
            now lt enough
            ∙ ap answer_by all_kept
            ∙ answer_kept (fed ++ read_of fed piece) there
            ∙ answer_read fed piece there
            ∙ sym (out_now fed piece (omega arith) more)
      ]
    ]

-- what was put out so far is what the bytes read so far call for
pub out_sum : (fed piece : List ℕ) → answered fed ++ out_of fed piece ≡ answered (fed ++ read_of fed piece)
out_sum fed piece =
    elim (cases_lt (length fed) 1537) [
      | inr le ↦
          let more : 1537 ≤ length (fed ++ read_of fed piece) = rw length-append (omega arith) in
          rw (out_late fed piece le, append-nil (answered fed), answered_all fed le, answered_all (fed ++ read_of fed piece) more) (sym (answer_alone fed (read_of fed piece) le))
      | inl lt ↦ elim (cases_lt (length fed + length (read_of fed piece)) 1537) [
        | inl few ↦
            let same = read_whole fed piece few in
            rw (answered_not fed lt, out_early fed piece (rw length-append (omega arith)), answered_not (fed ++ read_of fed piece) (rw length-append few)) refl
        | inr enough ↦
            let e : length (read_of fed piece) ≡ min (3073 - length fed) (length piece) = length-take (3073 - length fed) piece in
            let more : 1537 ≤ length (fed ++ piece) = rw length-append (omega arith) in
            let there : 1537 ≤ length (fed ++ read_of fed piece) = rw length-append enough in
            rw (answered_not fed lt, out_now fed piece lt more, answered_all (fed ++ read_of fed piece) there) (sym (answer_read fed piece there))
      ]
    ]

-- the version stays that of the first byte
pub version_stays : (fed piece : List ℕ) → bad_version fed ≡ None → (length fed ≡ 0 → bad_version piece ≡ None) → bad_version (fed ++ read_of fed piece) ≡ None
version_stays [] [] fits first = refl
version_stays [] (x ∷ piece) fits first = first refl
version_stays (x ∷ fed) piece fits first = fits
