-- The lines of a script, an LF after each, are the script.
use Rattle.std.proofs.Common.{◌≡◌, ◌⊎◌, inl, inr, ℕ, ◌+◌, ◌==◌, if◌then◌else◌, Bool, true, false, List, [], ◌∷◌, ◌++◌, length, refl, ap, sym, ◌∙◌, subst}
use Rattle.std.proofs.Common.{append_assoc, arith}
use Rattle.std.proofs.lemmas.Bool.{eqb-true}
use Rattle.std.proofs.lemmas.List.{append-nil, length-append}
use Rattle.relay_script.specs.Script.{Line, line_at, last_line, lines_from, lines}
use Rattle.relay_script.specs.Script.{NoLineFeed}
use Rattle.relay_script.specs.Laws.{with_feeds, EndsWithBytes, AreLines, EndFrom}
use Rattle.relay_script.proofs.OneLine.{both}

last_are : (place : ℕ) (line : List ℕ) → NoLineFeed line → AreLines (line ++ []) (last_line place line)
last_are place [] clean = record { clean = tt; joined = inl refl }
last_are place (c ∷ cs) clean = record {
  clean = (clean, tt);
  joined = inr (
    ap (λ (l : List ℕ). l ++ 10 ∷ []) (sym (append-nil (c ∷ cs))),
    record
        { front = []; last = line_at (c ∷ cs) place; lines_are = refl; some = omega arith },
  );
}

-- one line more
more_end : (first : Line) (more : List Line) → EndsWithBytes more → EndsWithBytes (first ∷ more)
more_end first more e = record { front = first ∷ e.front; last = e.last; lines_are = ap (λ (l : List Line). first ∷ l) e.lines_are; some = e.some }

first_joined : (place : ℕ) (line rest : List ℕ) (more : List Line) → (with_feeds more ≡ rest) ⊎ ((with_feeds more ≡ rest ++ 10 ∷ []) × EndsWithBytes more) →
    (with_feeds (line_at line place ∷ more) ≡ line ++ 10 ∷ rest) ⊎
    ((with_feeds (line_at line place ∷ more) ≡ (line ++ 10 ∷ rest) ++ 10 ∷ []) × EndsWithBytes (line_at line place ∷ more))
first_joined place line rest more (inl e) = inl (ap (λ (l : List ℕ). line ++ 10 ∷ l) e)
first_joined place line rest more (inr e) =
    inr (ap (λ (l : List ℕ). line ++ 10 ∷ l) e.0 ∙ sym (append_assoc line (10 ∷ rest) (10 ∷ [])), more_end (line_at line place) more e.1)

first_are : (place : ℕ) (line rest : List ℕ) (more : List Line) → NoLineFeed line → AreLines rest more
    → AreLines (line ++ 10 ∷ rest) (line_at line place ∷ more)
first_are place line rest more clean a = record { clean = (clean, a.clean); joined = first_joined place line rest more a.joined }

cases : (b : Bool) (c place : ℕ) (line cs : List ℕ) → (c == 10) ≡ b → NoLineFeed line → AreLines cs (lines_from (place + 1) [] cs) →
    (NoLineFeed (line ++ c ∷ []) → AreLines ((line ++ c ∷ []) ++ cs) (lines_from (place + 1) (line ++ c ∷ []) cs)) →
    AreLines (line ++ c ∷ cs) (if b then line_at line (place + 1) ∷ lines_from (place + 1) [] cs else lines_from (place + 1) (line ++ c ∷ []) cs)
cases true c place line cs e clean ends more =
    let feed : 10 ≡ c = sym (eqb-true c 10 e) in
    subst (λ (x : ℕ). AreLines (line ++ x ∷ cs) (line_at line (place + 1) ∷ lines_from (place + 1) [] cs)) feed
    (first_are (place + 1) line cs (lines_from (place + 1) [] cs) clean ends)
cases false c place line cs e clean ends more =
    subst (λ (l : List ℕ). AreLines l (lines_from (place + 1) (line ++ c ∷ []) cs)) (append_assoc line (c ∷ []) cs) (more (both line (c ∷ []) clean (e, tt)))

from : (script : List ℕ) (place : ℕ) (line : List ℕ) → NoLineFeed line → AreLines (line ++ script) (lines_from place line script)
from [] place line clean = last_are place line clean
from (c ∷ cs) place line clean = cases (c == 10) c place line cs refl clean (from cs (place + 1) [] tt) (from cs (place + 1) (line ++ c ∷ []))

pub lines_law : (script : List ℕ) → AreLines script (lines script)
lines_law script = from script 0 [] tt

-- ---- where a line ends

last_ends : (total start place : ℕ) (line : List ℕ) → total ≡ place → place ≡ start + length line → EndFrom total start (last_line place line)
last_ends total start place [] all here = tt
last_ends total start place (c ∷ cs) all here = (omega (arith, all, here), tt)

end_cases : (b : Bool) (total start c place : ℕ) (line cs : List ℕ) → total ≡ place + length (c ∷ cs) → place ≡ start + length line →
    EndFrom total (start + length line + 1) (lines_from (place + 1) [] cs) → EndFrom total start (lines_from (place + 1) (line ++ c ∷ []) cs) →
    EndFrom total start (if b then line_at line (place + 1) ∷ lines_from (place + 1) [] cs else lines_from (place + 1) (line ++ c ∷ []) cs)
end_cases true total start c place line cs all here ends more = (omega (arith, all, here), ends)
end_cases false total start c place line cs all here ends more = more

end_from : (script : List ℕ) (total start place : ℕ) (line : List ℕ) → total ≡ place + length script → place ≡ start + length line
    → EndFrom total start (lines_from place line script)
end_from [] total start place line all here = last_ends total start place line (omega (arith, all)) here
end_from (c ∷ cs) total start place line all here =
    end_cases (c == 10) total start c place line cs all here
    (end_from cs total (start + length line + 1) (place + 1) [] (omega (arith, all)) (omega (arith, here)))
    (end_from cs total start (place + 1) (line ++ c ∷ []) (omega (arith, all)) (omega (arith, here, length-append line (c ∷ []))))

pub ends_law : (script : List ℕ) → EndFrom (length script) 0 (lines script)
ends_law script = end_from script (length script) 0 0 [] (omega arith) (omega arith)
