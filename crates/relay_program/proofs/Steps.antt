-- What the parts of a drill do to what is ahead.
use Rattle.std.proofs.Common.{◌≡◌, ℕ, suc, take, drop, ◌-◌, ◌+◌, ◌<◌, ◌≤◌, ◌^◌, nat_le, true, List, [], ◌∷◌, ◌++◌, Option, None, Some, Result, Ok, Err}
use Rattle.std.proofs.Common.{MatchResult, length, refl, ap, sym, ◌∙◌, subst, append_assoc, arith}
use Rattle.std.proofs.lemmas.Bool.Decides.{nat_tests}
use Rattle.std.proofs.lemmas.List.{length-append, length-drop, length-take, take_all}
use Rattle.relay_script.specs.Lines.{meaning}
use Rattle.relay_script.specs.declared.line.DrillLine.{DrillLine}
use Rattle.relay_script.specs.Script.{NoLineFeed, Line, line_at, last_line, lines_from, line_says}
use Rattle.relay_program.specs.declared.drills.Drilling.{Drilling}
use Rattle.relay_program.specs.declared.drills.DrillFail.{DrillFail}
use Rattle.relay_program.specs.declared.drills.DrillFail.TheVariants.{Outside, SourceFault, SinkFault, OutOfMemory}
use Rattle.relay_program.specs.Drill.{State, Done, after_line, text_from, text_then, outside_from}
use Rattle.put_text.specs.Written.{Writes, WritesPart}
use Rattle.relay_program.specs.Parts.{Answered, AnswerFails, Fit, lines_ahead, text_ahead, outside_ahead}
use Rattle.relay_program.specs.Parts.{Advances, Fails, Extended, IsOver, ExtendFails, said_by}
use Rattle.put_text.proofs.Writing.{append_known_nil, write_then, write_part_then}
use Rattle.relay_program.proofs.Known.{no_part_written, part_of_more}
use Rattle.relay_program.proofs.Script.{HasFeed, lines_of_run, IsFirstOutside, over, outside_first, outside_ends, inside_first, inside_text}

-- ---- one part after another

pub goes_then : (old mid new : Drilling) (a b c : List ℕ) (before between now : Option (List ℕ)) → Advances old a mid b before between
    → Advances mid b new c between now → Advances old a new c before now
goes_then old mid new a b c before between now p q = record {
  writes = write_then (text_ahead old a) (text_ahead mid b) (text_ahead new c) before between now p.writes q.writes;
  outside = q.outside ∙ p.outside;
  counted = q.counted ∙ p.counted;
}

pub fails_then : (fail : DrillFail) (old mid : Drilling) (a b : List ℕ) (before between now : Option (List ℕ)) → Advances old a mid b before between
    → Fails fail mid b between now → Fails fail old a before now
fails_then (Outside n) old mid a b before between now p q = (
  write_then (text_ahead old a)
      (text_ahead mid b) [] before between now p.writes q.0,
  sym p.outside ∙ q.1,
)
fails_then SourceFault old mid a b before between now p q = write_part_then (text_ahead old a) (text_ahead mid b) before between now p.writes q
fails_then SinkFault old mid a b before between now p q = write_part_then (text_ahead old a) (text_ahead mid b) before between now p.writes q
fails_then OutOfMemory old mid a b before between now p q = write_part_then (text_ahead old a) (text_ahead mid b) before between now p.writes q

pub result_then : (r : Result (Unit {0}) DrillFail) (old mid new : Drilling) (a b c : List ℕ) (before between now : Option (List ℕ))
    → Advances old a mid b before between →
    MatchResult r (λ _. Advances mid b new c between now) (λ fail. Fails fail mid b between now)
    → MatchResult r (λ _. Advances old a new c before now) (λ fail. Fails fail old a before now)
result_then (Ok x) old mid new a b c before between now p q = goes_then old mid new a b c before between now p q
result_then (Err fail) old mid new a b c before between now p q = fails_then fail old mid a b before between now p q

-- ---- a line that is outside

pub first_fails : (n : ℕ) (d : Drilling) (ahead : List ℕ) (before now : Option (List ℕ)) → IsFirstOutside d.number (lines_ahead d ahead) d.made → n ≡ d.number
    → now ≡ before → Fails (Outside n) d ahead before now
first_fails n d ahead before now first number kept = (
  record { wrote = []; parts = sym first.none; grown = kept ∙ sym (append_known_nil before) },
  first.outside ∙ ap Some (sym number),
)

-- ---- bytes without an LF

pub run_goes : (old new : Drilling) (run rest : List ℕ) (before : Option (List ℕ)) → NoLineFeed run → Extended old run new
    → Advances old (run ++ rest) new rest before before
run_goes old new run rest before clean e =
    let lines : lines_ahead old (run ++ rest) ≡ lines_ahead new rest =
    lines_of_run run rest old.place old.line clean ∙ ap (λ (l : List ℕ). lines_from (old.place + length run) l rest) (sym e.line)
    ∙ ap (λ (n : ℕ). lines_from n new.line rest) (sym e.place) in
    let text : text_ahead new rest ≡ text_ahead old (run ++ rest) =
    ap (λ (l : List Line). text_from l new.made) (sym lines) ∙ ap (λ (s : State). text_from (lines_ahead old (run ++ rest)) s) e.made in
    let ahead = lines_ahead old (run ++ rest) in
    record {
      writes = record { wrote = []; parts = text; grown = sym (append_known_nil before) };
      outside = ap (λ (l : List Line). outside_from new.number l new.made) (sym lines) ∙ ap (λ (n : ℕ). outside_from n ahead new.made) e.number
          ∙ ap (λ (s : State). outside_from old.number ahead s) e.made;
      counted = ap (λ (n : ℕ). n + length (lines_ahead new rest)) e.number ∙ ap (λ (l : List Line). old.number + length l) (sym lines);
    }

some_bytes : (d : Drilling) (run : List ℕ) → Fit d → IsOver (length d.line + length run) (d.place + length run) → 0 < length (d.line ++ run)
some_bytes d run fit h = omega (arith, length-append d.line run, fit.line, fit.place)

over_appended : (line run : List ℕ) (place : ℕ) → IsOver (length line + length run) place → IsOver (length (line ++ run)) place
over_appended line run place h = subst (λ (n : ℕ). IsOver n place) (sym (length-append line run)) h

pub run_fails : (fail : DrillFail) (d : Drilling) (run rest : List ℕ) (before : Option (List ℕ)) → Fit d → NoLineFeed run → ExtendFails fail d run
    → Fails fail d (run ++ rest) before before
run_fails (Outside n) d run rest before fit clean e =
    let first = over rest d.number (d.place + length run) (d.line ++ run) d.made (some_bytes d run fit e.1)
    (over_appended d.line run (d.place + length run) e.1) in
    first_fails n d (run ++ rest) before before (subst (λ (l : List Line). IsFirstOutside d.number l d.made)
    (sym (lines_of_run run rest d.place d.line clean)) first) e.0 refl
run_fails SourceFault d run rest before fit clean e = absurd e
run_fails SinkFault d run rest before fit clean e = absurd e
run_fails OutOfMemory d run rest before fit clean e = no_part_written (text_ahead d (run ++ rest)) before before refl

-- ---- a line that was answered

-- what is ahead begins with the line that was read
pub record IsNext (d : Drilling) (ahead : List ℕ) (line : Line) (lines : List Line) : Type 0 where
  pub ahead_is : lines_ahead d ahead ≡ line ∷ lines
  pub meaning_is : line_says meaning line ≡ meaning d.line

-- what the line does
next_does : (d : Drilling) (ahead : List ℕ) (line : Line) (lines : List Line) → IsNext d ahead line lines →
    after_line (line_says meaning line) d.made ≡ after_line (meaning d.line) d.made
next_does d ahead line lines next = ap (λ (m : Option DrillLine). after_line m d.made) next.meaning_is

text_begins : (line : Line) (lines : List Line) (s : State) → (rest : List ℕ)
    × (text_from (line ∷ lines) s ≡ said_by (after_line (line_says meaning line) s) ++ rest)
text_begins line lines s =
    elim (after_line (line_says meaning line) s) as (λ m. (rest : List ℕ) × (text_then m (λ t. text_from lines t) ≡ said_by m ++ rest))
    [ None ↦ ([], refl) | Some d ↦ (text_from lines d.state, refl) ]

part_ahead : (d : Drilling) (ahead : List ℕ) (line : Line) (lines : List Line) (before now : Option (List ℕ)) → IsNext d ahead line lines →
    WritesPart (said_by (after_line (meaning d.line) d.made)) before now → WritesPart (text_ahead d ahead) before now
part_ahead d ahead line lines before now next w =
    let begins = text_begins line lines d.made in
    let text : said_by (after_line (meaning d.line) d.made) ++ begins.0 ≡ text_ahead d ahead =
    ap (λ (m : Option Done). said_by m ++ begins.0) (sym (next_does d ahead line lines next)) ∙ sym begins.1
    ∙ ap (λ (l : List Line). text_from l d.made) (sym next.ahead_is) in
    subst (λ (l : List ℕ). WritesPart l before now) text (part_of_more (said_by (after_line (meaning d.line) d.made)) begins.0 before now w)

outside_next : (d : Drilling) (ahead : List ℕ) (line : Line) (lines : List Line) → IsNext d ahead line lines → after_line (meaning d.line) d.made ≡ None
    → IsFirstOutside d.number (lines_ahead d ahead) d.made
outside_next d ahead line lines next none = record {
  outside = ap (λ (l : List Line). outside_from d.number l d.made) next.ahead_is
      ∙ outside_first d.number line lines d.made (next_does d ahead line lines next ∙ none);
  none = ap (λ (l : List Line). text_from l d.made) next.ahead_is ∙ outside_ends line lines d.made (next_does d ahead line lines next ∙ none);
}

pub answer_fails : (fail : DrillFail) (d : Drilling) (ahead : List ℕ) (line : Line) (lines : List Line) (before now : Option (List ℕ))
    → IsNext d ahead line lines →
    AnswerFails fail (after_line (meaning d.line) d.made) d.number before now → Fails fail d ahead before now
answer_fails (Outside n) d ahead line lines before now next p = first_fails n d ahead before now (outside_next d ahead line lines next p.1) p.0 p.2
answer_fails SourceFault d ahead line lines before now next p = absurd p
answer_fails SinkFault d ahead line lines before now next p = part_ahead d ahead line lines before now next p
answer_fails OutOfMemory d ahead line lines before now next p = part_ahead d ahead line lines before now next p

pub record Inside (d : Drilling) (new : State) (ahead : List ℕ) (lines : List Line) (does : Done) : Type 0 where
  pub text : does.text ++ text_from lines new ≡ text_ahead d ahead
  pub outside : outside_from (d.number + 1) lines new ≡ outside_ahead d ahead

pub inside : (d : Drilling) (new : State) (ahead : List ℕ) (line : Line) (lines : List Line) (before now : Option (List ℕ)) → IsNext d ahead line lines →
    (a : Answered (after_line (meaning d.line) d.made) new before now) → Inside d new ahead lines a.does
inside d new ahead line lines before now next a =
    let means = next_does d ahead line lines next ∙ a.after_is in
    record {
      text = ap (λ (s : State). a.does.text ++ text_from lines s) a.state ∙ sym (inside_text line lines d.made a.does means)
          ∙ ap (λ (l : List Line). text_from l d.made) (sym next.ahead_is);
      outside = ap (λ (s : State). outside_from (d.number + 1) lines s) a.state ∙ sym (inside_first d.number line lines d.made a.does means)
          ∙ ap (λ (l : List Line). outside_from d.number l d.made) (sym next.ahead_is);
    }

is_near : (line : List ℕ) (end : ℕ) → end ≤ 2 ^ 28 → line_says meaning (line_at line end) ≡ meaning line
is_near line end h = let near : nat_le end (2 ^ 28) ≡ true = grind (arith, nat_tests) in rw near refl

-- ---- at an LF

pub feed_next : (d : Drilling) (more : List ℕ) → d.place + 1 ≤ 2 ^ 28 → IsNext d (10 ∷ more) (line_at d.line (d.place + 1)) (lines_from (d.place + 1) [] more)
feed_next d more h = record { ahead_is = refl; meaning_is = is_near d.line (d.place + 1) h }

pub feed_fails : (fail : DrillFail) (d : Drilling) (more : List ℕ) (before now : Option (List ℕ)) → d.place + 1 ≤ 2 ^ 28 →
    AnswerFails fail (after_line (meaning d.line) d.made) d.number before now → Fails fail d (10 ∷ more) before now
feed_fails fail d more before now h p = answer_fails fail d (10 ∷ more) (line_at d.line (d.place + 1)) (lines_from (d.place + 1) [] more) before now
    (feed_next d more h) p

pub feed_goes : (d new : Drilling) (more : List ℕ) (before now : Option (List ℕ)) → d.place + 1 ≤ 2 ^ 28 → new.line ≡ [] → new.place ≡ d.place + 1
    → new.number ≡ d.number + 1
    → Answered (after_line (meaning d.line) d.made) new.made before now → Advances d (10 ∷ more) new more before now
feed_goes d new more before now h line place number a =
    let next = feed_next d more h in
    let rest = lines_from (d.place + 1) [] more in
    let i = inside d new.made (10 ∷ more) (line_at d.line (d.place + 1)) rest before now next a in
    let lines : lines_ahead new more ≡ rest = ap (λ (n : ℕ). lines_from n new.line more) place ∙ ap (λ (l : List ℕ). lines_from (d.place + 1) l more) line in
    record {
      writes = record { wrote = a.does.text; parts = ap (λ (l : List Line). a.does.text ++ text_from l new.made) lines ∙ i.text; grown = a.writes };
      outside = ap (λ (n : ℕ). outside_from n (lines_ahead new more) new.made) number
          ∙ ap (λ (l : List Line). outside_from (d.number + 1) l new.made) lines ∙ i.outside;
      counted = omega (arith, number, ap (λ (l : List Line). length l) lines);
    }

-- ---- at the script's end

pub one_left : (place : ℕ) (line : List ℕ) → 0 < length line → last_line place line ≡ line_at line place ∷ []
one_left place [] h = absurd (omega arith)
one_left place (c ∷ cs) h = refl

pub end_next : (d : Drilling) → Fit d → 0 < length d.line → IsNext d [] (line_at d.line d.place) []
end_next d fit some = record { ahead_is = one_left d.place d.line some; meaning_is = is_near d.line d.place fit.place }

pub end_said : (r : Result (Unit {0}) DrillFail) (d : Drilling) (new : State) (before now : Option (List ℕ)) → Fit d → 0 < length d.line →
    MatchResult r (λ _. Answered (after_line (meaning d.line) d.made) new before now)
    (λ fail. AnswerFails fail (after_line (meaning d.line) d.made) d.number before now)
    → MatchResult r (λ _. Writes (text_ahead d []) [] before now × (outside_ahead d [] ≡ None)) (λ fail. Fails fail d [] before now)
end_said (Ok x) d new before now fit some a =
    let i = inside d new [] (line_at d.line d.place) [] before now (end_next d fit some) a in
    (record { wrote = a.does.text; parts = i.text; grown = a.writes }, sym i.outside)
end_said (Err fail) d new before now fit some p = answer_fails fail d [] (line_at d.line d.place) [] before now (end_next d fit some) p

-- ---- a piece

-- what is left of a piece after a line's end
abbrev pub after_feed : List ℕ → ℕ → List ℕ
after_feed left i = take (length left - (i + 1)) (drop (i + 1) left)

pub after_feed_is : (left : List ℕ) (i : ℕ) → i < length left → after_feed left i ≡ drop (i + 1) left
after_feed_is left i h = take_all (length left - (i + 1)) (drop (i + 1) left) (omega (arith, length-drop (i + 1) left))

one_more : (i : ℕ) → suc i ≡ i + 1
one_more i = omega arith

-- the piece's rest is the line's rest, its LF and what follows
pub feed_parts : (left rest : List ℕ) (i : ℕ) → HasFeed left i → left ++ rest ≡ take i left ++ 10 ∷ (after_feed left i ++ rest)
feed_parts left rest i f =
    ap (λ (l : List ℕ). l ++ rest) f.parts ∙ append_assoc (take i left) (10 ∷ drop (suc i) left) rest
    ∙ ap (λ (n : ℕ). take i left ++ 10 ∷ (drop n left ++ rest)) (one_more i)
    ∙ ap (λ (l : List ℕ). take i left ++ 10 ∷ (l ++ rest)) (sym (after_feed_is left i f.within))

pub line_goes : (old new : Drilling) (left rest : List ℕ) (i : ℕ) (before now : Option (List ℕ)) → HasFeed left i →
    Advances old (take i left ++ 10 ∷ (after_feed left i ++ rest)) new (after_feed left i ++ rest) before now
    → Advances old (left ++ rest) new (after_feed left i ++ rest) before now
line_goes old new left rest i before now f p = subst (λ (l : List ℕ). Advances old l new (after_feed left i ++ rest) before now)
    (sym (feed_parts left rest i f)) p

pub line_fails : (fail : DrillFail) (old : Drilling) (left rest : List ℕ) (i : ℕ) (before now : Option (List ℕ)) → HasFeed left i →
    Fails fail old (take i left ++ 10 ∷ (after_feed left i ++ rest)) before now → Fails fail old (left ++ rest) before now
line_fails fail old left rest i before now f p = subst (λ (l : List ℕ). Fails fail old l before now) (sym (feed_parts left rest i f)) p

pub rest_ends : (r : Result (Unit {0}) DrillFail) (old new : Drilling) (left rest : List ℕ) (before : Option (List ℕ)) → Fit old → NoLineFeed left →
    MatchResult r (λ _. Extended old left new) (λ fail. ExtendFails fail old left)
    → MatchResult r (λ _. Advances old (left ++ rest) new rest before before) (λ fail. Fails fail old (left ++ rest) before before)
rest_ends (Ok x) old new left rest before fit clean e = run_goes old new left rest before clean e
rest_ends (Err fail) old new left rest before fit clean e = run_fails fail old left rest before fit clean e

-- a line's bytes are counted
pub feed_place : (left : List ℕ) (i old new start : ℕ) → i < length left → new ≡ old + length (take i left) + 1 → old + length left ≡ start
    → new + length (after_feed left i) ≡ start
feed_place left i old new start h e same =
    let rest : length (after_feed left i) ≡ length left - (i + 1) = ap length (after_feed_is left i h) ∙ length-drop (i + 1) left in
    omega (arith, length-take i left, rest, e, same)
