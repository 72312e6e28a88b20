-- The lines of a script, some bytes at a time.
use Rattle.std.specs.List.{position, position_or_len}
use Rattle.std.proofs.Common.{◌≡◌, inl, inr, ℕ, suc, nat_lt, not, ◌+◌, ◌<◌, ◌≤◌, ◌^◌, ◌==◌, nat_le, cond, if◌then◌else◌, Bool, true, false, List, [], ◌∷◌}
use Rattle.std.proofs.Common.{◌++◌, None, Some, length, take, drop, refl, ap, sym, ◌∙◌, subst, append_assoc, arith}
use Rattle.std.proofs.lemmas.Bool.Decides.{nat_tests}
use Rattle.std.proofs.lemmas.Bool.{eqb-true}
use Rattle.std.proofs.lemmas.List.{append-nil, length-append}
use Rattle.relay_script.specs.Lines.{meaning}
use Rattle.relay_script.specs.Script.{NoLineFeed, Line, line_at, lines_from, line_says}
use Rattle.relay_program.specs.Drill.{State, Done, after_line, text_from, outside_from}
use Rattle.relay_program.specs.Parts.{IsOver}

-- ---- bytes without an LF

pub lines_of_run : (run rest : List ℕ) (place : ℕ) (line : List ℕ) → NoLineFeed run → lines_from place line (run ++ rest)
    ≡ lines_from (place + length run) (line ++ run) rest
lines_of_run [] rest place line h = ap (λ (l : List ℕ). lines_from place l rest) (sym (append-nil line))
    ∙ ap (λ (n : ℕ). lines_from n (line ++ []) rest) (omega arith)
lines_of_run (c ∷ run) rest place line h =
    let one : lines_from place line (c ∷ (run ++ rest)) ≡ lines_from (place + 1) (line ++ c ∷ []) (run ++ rest) = rw h.0 refl in
    let text : (line ++ c ∷ []) ++ run ≡ line ++ c ∷ run = append_assoc line (c ∷ []) run in
    let far : place + 1 + length run ≡ place + length (c ∷ run) = omega arith in
    one ∙ lines_of_run run rest (place + 1) (line ++ c ∷ []) h.1 ∙ ap (λ (l : List ℕ). lines_from (place + 1 + length run) l rest) text
    ∙ ap (λ (n : ℕ). lines_from n (line ++ c ∷ run) rest) far

-- ---- a line that is outside

pub outside_first : (n : ℕ) (line : Line) (lines : List Line) (s : State) → after_line (line_says meaning line) s ≡ None → outside_from n (line ∷ lines) s
    ≡ Some n
outside_first n line lines s none = rw none refl

pub outside_ends : (line : Line) (lines : List Line) (s : State) → after_line (line_says meaning line) s ≡ None → text_from (line ∷ lines) s ≡ []
outside_ends line lines s none = rw none refl

-- ---- a line that is too long

too_long : (line : List ℕ) (end : ℕ) → IsOver (length line) end → line_says meaning (line_at line end) ≡ None
too_long line end (inl h) =
    let long : nat_le (length line) 65536 ≡ false = grind (arith, nat_tests) in
    let none : meaning line ≡ None = rw long refl in
    elim (nat_le end (2 ^ 28)) as (λ b. (if b then meaning line else None) ≡ None) [ true ↦ none | false ↦ refl ]
too_long line end (inr h) =
    let far : nat_le end (2 ^ 28) ≡ false = grind (arith, nat_tests) in
    rw far refl

-- the line is the first that is outside, whatever follows
pub record IsFirstOutside (n : ℕ) (lines : List Line) (s : State) : Type 0 where
  pub outside : outside_from n lines s ≡ Some n
  pub none : text_from lines s ≡ []

first_is : (n : ℕ) (line : Line) (lines : List Line) (s : State) → line_says meaning line ≡ None → IsFirstOutside n (line ∷ lines) s
first_is n line lines s none =
    let after : after_line (line_says meaning line) s ≡ None = rw none refl in
    record { outside = outside_first n line lines s after; none = outside_ends line lines s after }

later : (len place : ℕ) → IsOver len place → IsOver len (place + 1)
later len place (inl h) = inl h
later len place (inr h) = inr (omega arith)

longer : (line : List ℕ) (c place : ℕ) → IsOver (length line) place → IsOver (length (line ++ c ∷ [])) (place + 1)
longer line c place (inl h) = inl (omega (arith, length-append line (c ∷ [])))
longer line c place (inr h) = inr (omega arith)

pub over : (rest : List ℕ) (n place : ℕ) (line : List ℕ) (s : State) → 0 < length line → IsOver (length line) place
    → IsFirstOutside n (lines_from place line rest) s
over [] n place [] s some h = absurd (omega arith)
over [] n place (c ∷ cs) s some h = first_is n (line_at (c ∷ cs) place) [] s (too_long (c ∷ cs) place h)
over (c ∷ rest) n place line s some h =
    elim (c == 10) as (λ b. IsFirstOutside n (if b then line_at line (place + 1) ∷ lines_from (place + 1) [] rest else lines_from (place + 1)
    (line ++ c ∷ []) rest) s) [
      | true ↦ first_is n (line_at line (place + 1)) (lines_from (place + 1) [] rest) s (too_long line (place + 1) (later (length line) place h))
      | false ↦ over rest n (place + 1) (line ++ c ∷ []) s (omega (arith, length-append line (c ∷ []))) (longer line c place h)
    ]

-- ---- a line that is inside

pub inside_first : (n : ℕ) (line : Line) (lines : List Line) (s : State) (d : Done) → after_line (line_says meaning line) s ≡ Some d
    → outside_from n (line ∷ lines) s ≡ outside_from (n + 1) lines d.state
inside_first n line lines s d e = rw e refl

pub inside_text : (line : Line) (lines : List Line) (s : State) (d : Done) → after_line (line_says meaning line) s ≡ Some d → text_from (line ∷ lines) s
    ≡ d.text ++ text_from lines d.state
inside_text line lines s d e = rw e refl

-- ---- up to an LF

-- a text with an LF in it
pub record HasFeed (text : List ℕ) (i : ℕ) : Type 0 where
  pub clean : NoLineFeed (take i text)
  pub parts : text ≡ take i text ++ 10 ∷ drop (suc i) text
  pub within : i < length text

-- how many bytes stand before the first LF, or in all
abbrev before_feed : List ℕ → ℕ
before_feed text = position_or_len (λ c. c == 10) text

feed_later : (c : ℕ) (cs : List ℕ) (i : ℕ) → (c == 10) ≡ false → HasFeed cs i → HasFeed (c ∷ cs) (suc i)
feed_later c cs i other f = record {
  clean = (other, f.clean);
  parts = ap (λ (l : List ℕ). c ∷ l) f.parts;
  within = omega (arith, f.within);
}

feed_cases : (b : Bool) (c : ℕ) (cs : List ℕ) (i : ℕ) → (c == 10) ≡ b → cond (not b) (1 + i) 0 < length (c ∷ cs) → (i < length cs → HasFeed cs i)
    → HasFeed (c ∷ cs) (cond (not b) (1 + i) 0)
feed_cases true c cs i e h more = record { clean = tt; parts = ap (λ (x : ℕ). x ∷ cs) (eqb-true c 10 e); within = h }
feed_cases false c cs i e h more =
    let one : suc i ≡ 1 + i = omega arith in
    subst (HasFeed (c ∷ cs)) one (feed_later c cs i e (more (omega (arith, h))))

feed_at : (text : List ℕ) → before_feed text < length text → HasFeed text (before_feed text)
feed_at [] h = absurd (omega arith)
feed_at (c ∷ cs) h = feed_cases (c == 10) c cs (before_feed cs) refl h (feed_at cs)

clean_cases : (b : Bool) (c : ℕ) (cs : List ℕ) (i : ℕ) → (c == 10) ≡ b → length (c ∷ cs) ≤ cond (not b) (1 + i) 0 → (length cs ≤ i → NoLineFeed cs)
    → NoLineFeed (c ∷ cs)
clean_cases true c cs i e h more = absurd (omega arith)
clean_cases false c cs i e h more = (e, more (omega (arith, h)))

clean_to_end : (text : List ℕ) → length text ≤ before_feed text → NoLineFeed text
clean_to_end [] h = tt
clean_to_end (c ∷ cs) h = clean_cases (c == 10) c cs (before_feed cs) refl h (clean_to_end cs)

first_of : (b : Bool) (n len i : ℕ) → nat_lt n len ≡ b → cond b (Some n) None ≡ Some i → (n ≡ i) × (n < len)
first_of true n len i e some = (cc, grind (arith, nat_tests))
first_of false n len i e some = absurd (cc)

pub has_feed : (text : List ℕ) (i : ℕ) → position (λ c. c == 10) text ≡ Some i → HasFeed text i
has_feed text i e =
    let f = first_of (nat_lt (before_feed text) (length text)) (before_feed text) (length text) i refl e in
    subst (HasFeed text) f.0 (feed_at text f.1)

none_before : (b : Bool) (n len : ℕ) → nat_lt n len ≡ b → cond b (Some n) None ≡ None → len ≤ n
none_before true n len e none = absurd (cc)
none_before false n len e none = grind (arith, nat_tests)

pub no_feed : (text : List ℕ) → position (λ c. c == 10) text ≡ None → NoLineFeed text
no_feed text e = clean_to_end text (none_before (nat_lt (before_feed text) (length text)) (before_feed text) (length text) refl e)
