-- The whole lines of a script, and the line that was begun.
use Rattle.std.proofs.Common.{◌≡◌, inl, inr, ℕ, zero, suc, ◌+◌, ◌<◌, ◌==◌, if◌then◌else◌, true, false, List, [], ◌∷◌, ◌++◌, Option, None, Some, length}
use Rattle.std.proofs.Common.{refl, ap, sym, ◌∙◌, subst, append_assoc, arith}
use Rattle.std.proofs.Math.ListN.{replicate}
use Rattle.std.proofs.lemmas.List.{append-nil, length-append, length-replicate}
use Rattle.std.specs.Io.KnownBytes.{append_known}
use Rattle.relay_script.specs.Lines.{meaning}
use Rattle.relay_script.specs.Script.{NoLineFeed, Line, line_at, lines_from, lines, line_says}
use Rattle.relay_script.proofs.OneLine.{both}
use Rattle.relay_program.specs.declared.drills.Drilling.{Drilling}
use Rattle.relay_program.specs.Drill.{State, fresh, after_line, text_from, text_then, outside_from, outside_then, drill_text, outside_line}
use Rattle.put_text.specs.Written.{Writes}
use Rattle.relay_program.specs.Outcome.{IsWholeLines, WritesWholeLines}
use Rattle.relay_program.specs.Ends.{Ahead}
use Rattle.put_text.proofs.Writing.{wrote_all}
use Rattle.relay_program.proofs.Script.{lines_of_run, IsFirstOutside, over}
use Rattle.relay_program.proofs.Steps.{one_left}
use Rattle.relay_program.proofs.Ahead.{read_is}

-- ---- lines that end

lines_to_feed : (front rest : List ℕ) (place : ℕ) (line : List ℕ) → lines_from place line (front ++ 10 ∷ rest)
    ≡ lines_from place line (front ++ 10 ∷ []) ++ lines_from (place + length front + 1) [] rest
lines_to_feed [] rest place line =
    let far : place + 1 ≡ place + 0 + 1 = omega arith in
    ap (λ (n : ℕ). line_at line (place + 1) ∷ lines_from n [] rest) far
lines_to_feed (c ∷ cs) rest place line =
    let far : place + 1 + length cs + 1 ≡ place + length (c ∷ cs) + 1 = omega arith in
    elim (c == 10) as (λ b. (if b then line_at line (place + 1) ∷ lines_from (place + 1) [] (cs ++ 10 ∷ rest) else lines_from (place + 1) (line ++ c ∷ [])
    (cs ++ 10 ∷ rest))
    ≡ (if b then line_at line (place + 1) ∷ lines_from (place + 1) [] (cs ++ 10 ∷ []) else lines_from (place + 1) (line ++ c ∷ []) (cs ++ 10 ∷ [])) ++
    lines_from (place + length (c ∷ cs) + 1) [] rest) [
      | true ↦ ap (λ (l : List Line). line_at line (place + 1) ∷ l)
          (lines_to_feed cs rest (place + 1) [] ∙ ap (λ (n : ℕ). lines_from (place + 1) [] (cs ++ 10 ∷ []) ++ lines_from n [] rest) far)
      | false ↦ lines_to_feed cs rest (place + 1) (line ++ c ∷ [])
          ∙ ap (λ (n : ℕ). lines_from (place + 1) (line ++ c ∷ []) (cs ++ 10 ∷ []) ++ lines_from n [] rest) far
    ]

whole_first : (whole rest : List ℕ) → IsWholeLines whole → (place : ℕ) × (lines (whole ++ rest) ≡ lines whole ++ lines_from place [] rest)
whole_first whole rest (inl e) = (0, rw e refl)
whole_first whole rest (inr f) = (0 + length f.0 + 1, rw f.1 (ap lines (append_assoc f.0 (10 ∷ []) rest) ∙ lines_to_feed f.0 rest 0 []))

-- ---- lines after which a line is outside

text_end : (front more : List Line) (s : State) → ((t : State) → text_from more t ≡ []) → text_from (front ++ more) s ≡ text_from front s
text_end [] more s e = e s
text_end (line ∷ front) more s e =
    elim (after_line (line_says meaning line) s) as (λ m. text_then m (λ t. text_from (front ++ more) t) ≡ text_then m (λ t. text_from front t)) [
      | None ↦ refl
      | Some d ↦ ap (λ (l : List ℕ). d.text ++ l) (text_end front more d.state e)
    ]

same_number : (a b : ℕ) → Some a ≡ Some b → a ≡ b
same_number a b e = cc

none_before : (front more : List Line) (n at : ℕ) (s : State) → at ≡ n + length front → outside_from n (front ++ more) s ≡ Some at → outside_from n front s
    ≡ None
none_before [] more n at s far e = refl
none_before (line ∷ front) more n at s far e =
    (elim (after_line (line_says meaning line) s) as (λ m. outside_then n m (λ t. outside_from (n + 1) (front ++ more) t) ≡ Some at
    → outside_then n m (λ t. outside_from (n + 1) front t) ≡ None) [
      | None ↦ λ h. absurd (omega (arith, same_number n at h, far))
      | Some d ↦ λ h. none_before front more (n + 1) at d.state (omega (arith, far)) h
    ]) e

-- ---- bytes that make any line too long

record TooMany (bytes : List ℕ) : Type 0 where
  clean : NoLineFeed bytes
  long : 65536 < length bytes

over_long : (bytes : List ℕ) (n place : ℕ) (line : List ℕ) → TooMany bytes → (s : State) → IsFirstOutside n (lines_from place line bytes) s
over_long bytes n place line many s =
    let one = ap (lines_from place line) (sym (append-nil bytes)) ∙ lines_of_run bytes [] place line many.clean in
    let long : 65536 < length (line ++ bytes) = omega (arith, length-append line bytes, many.long) in
    subst (λ (l : List Line). IsFirstOutside n l s) (sym one) (over [] n (place + length bytes) (line ++ bytes) s (omega (arith, long)) (inl long))

one_long : (bytes : List ℕ) (place : ℕ) (line : List ℕ) → TooMany bytes → length (lines_from place line bytes) ≡ 1
one_long bytes place line many =
    let one = ap (lines_from place line) (sym (append-nil bytes)) ∙ lines_of_run bytes [] place line many.clean in
    let some : 0 < length (line ++ bytes) = omega (arith, length-append line bytes, many.long) in
    ap length (one ∙ one_left (place + length bytes) (line ++ bytes) some)

begun : (line bytes : List ℕ) → NoLineFeed line → TooMany bytes → TooMany (line ++ bytes)
begun line bytes clean many = record { clean = both line bytes clean many.clean; long = omega (arith, length-append line bytes, many.long) }

-- ---- where the source failed

whole_written : (d : Drilling) (left held : Option (List ℕ)) (whole line rest : List ℕ) (before : Option (List ℕ)) (bytes : List ℕ) → TooMany bytes
    → IsWholeLines whole → NoLineFeed line →
    (a : Ahead d left held (whole ++ line ++ rest) before) → a.read ≡ whole ++ line → (held ≡ append_known before (drill_text whole))
    × (outside_line whole ≡ None)
whole_written d left held whole line rest before bytes many ended clean a read =
    let split = whole_first whole (line ++ bytes) ended in
    let all : lines (a.read ++ bytes) ≡ lines whole ++ lines_from split.0 [] (line ++ bytes) =
    ap (λ (l : List ℕ). lines (l ++ bytes)) read ∙ ap lines (append_assoc whole line bytes) ∙ split.1 in
    let last = over_long (line ++ bytes) d.number split.0 [] (begun line bytes clean many) in
    let ahead = over_long bytes d.number d.place d.line many d.made in
    let text : drill_text (a.read ++ bytes) ≡ drill_text whole =
    ap (λ (l : List Line). text_from l fresh) all ∙ text_end (lines whole) (lines_from split.0 [] (line ++ bytes)) fresh (λ t. (last t).none) in
    let outside : outside_from 1 (lines whole ++ lines_from split.0 [] (line ++ bytes)) fresh ≡ Some d.number =
    sym (ap (λ (l : List Line). outside_from 1 l fresh) all) ∙ sym (a.outside bytes) ∙ ahead.outside in
    let total : length (lines (a.read ++ bytes)) ≡ length (lines whole) + 1 =
    ap length all ∙ length-append (lines whole) (lines_from split.0 [] (line ++ bytes))
    ∙ ap (λ (n : ℕ). length (lines whole) + n) (one_long (line ++ bytes) split.0 [] (begun line bytes clean many)) in
    let number : d.number ≡ 1 + length (lines whole) = omega (arith, a.counted bytes, total, one_long bytes d.place d.line many) in (
      wrote_all (drill_text (a.read ++ bytes)) before held (subst (λ (l : List ℕ). Writes (drill_text (a.read ++ bytes)) l before held) ahead.none
          (a.writes bytes)) ∙ ap (append_known before) text,
      none_before (lines whole) (lines_from split.0 [] (line ++ bytes)) 1 d.number fresh number outside,
    )

zeros_clean : (n : ℕ) → NoLineFeed (replicate n 0)
zeros_clean zero = tt
zeros_clean (suc n) = (refl, zeros_clean n)

zeros : (n : ℕ) → 65536 < n → TooMany (replicate n 0)
zeros n h = record { clean = zeros_clean n; long = omega (arith, length-replicate {A = ℕ} n 0, h) }

whole_written_for : (n : ℕ) → 65536 < n → (d : Drilling) (left now held : Option (List ℕ)) (whole line rest : List ℕ) (before : Option (List ℕ))
    → IsWholeLines whole → NoLineFeed line →
    Ahead d left held (whole ++ line ++ rest) before → now ≡ left → now ≡ Some rest → (held ≡ append_known before (drill_text whole))
    × (outside_line whole ≡ None)
whole_written_for n h d left now held whole line rest before ended clean a same p =
    whole_written d left held whole line rest before (replicate n 0) (zeros n h) ended clean a
    (sym (read_is (whole ++ line) rest a.read a.rest now a.script_is p (same ∙ a.left_is)))

pub whole_lines_written : (d : Drilling) (script left now held before : Option (List ℕ))
    → ((text : List ℕ) → script ≡ Some text → Ahead d left held text before) → now ≡ left
    → WritesWholeLines drill_text outside_line script now before held
whole_lines_written d script left now held before ahead same = λ whole line rest ended clean e p.
    whole_written_for 65537 (omega arith) d left now held whole line rest before ended clean (ahead (whole ++ line ++ rest) e) same p
