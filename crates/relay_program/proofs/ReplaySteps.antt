-- What the parts of a replay do to what is ahead.
use Rattle.std.proofs.Common.{◌≡◌, inl, inr, ℕ, take, ◌+◌, ◌<◌, ◌≤◌, ◌^◌, ◌==◌, nat_le, if◌then◌else◌, true, false, List, [], ◌∷◌, ◌++◌}
use Rattle.std.proofs.Common.{Option, None, Some, Result, Ok, Err, MatchResult, IfErr, length, refl, ap, sym, ◌∙◌, subst, append_assoc, arith}
use Rattle.std.proofs.lemmas.Bool.Decides.{nat_tests}
use Rattle.std.proofs.lemmas.List.{length-append}
use Rattle.std.specs.Io.KnownBytes.{prepend_known, IsAtEnd}
use Rattle.relay_script.specs.ReplayLines.{meaning}
use Rattle.relay_script.specs.declared.replay.ReplayLine.{ReplayLine}
use Rattle.relay_script.specs.Script.{NoLineFeed, Line, line_at, last_line, lines_from, line_says, lines}
use Rattle.relay_replay.specs.Stand.{Stand, after_line}
use Rattle.relay_replay.specs.Scenes.{SceneState, stand_of, start}
use Rattle.relay_program.specs.declared.replays.Replaying.{Replaying}
use Rattle.relay_program.specs.declared.drills.DrillFail.{DrillFail}
use Rattle.relay_program.specs.declared.drills.DrillFail.TheVariants.{Outside, SourceFault, SinkFault, OutOfMemory}
use Rattle.relay_program.specs.Parts.{IsOver, SourceFaults}
use Rattle.relay_program.specs.Replay.{DoesLine, Goes, Printed, outside_from, outside_line}
use Rattle.relay_program.specs.ReplayParts.{HasNoSink, Fit, lines_ahead, outside_ahead, Advances, StopsAt, Stops, Extended, ExtendFails, Obeyed, ObeyFails, Ahead, EndsIn, EndsPrinted}
use Rattle.relay_program.proofs.Script.{HasFeed, lines_of_run}
use Rattle.relay_program.proofs.Steps.{after_feed, feed_parts, one_left}

-- ---- one part after another

pub goes_then : (old mid new : Replaying) (a b c : List ℕ) → Advances old a mid b → Advances mid b new c → Advances old a new c
goes_then old mid new a b c p q = record { runs = λ t g. p.runs t (q.runs t g); outside = q.outside ∙ p.outside }

pub stops_then : (fail : DrillFail) (old mid : Replaying) (a b : List ℕ) → Advances old a mid b → Stops fail mid b → Stops fail old a
stops_then (Outside n) old mid a b p q = sym p.outside ∙ q
stops_then SourceFault old mid a b p q = q
stops_then SinkFault old mid a b p q = q
stops_then OutOfMemory old mid a b p q = tt

pub result_then : (r : Result (Unit {0}) DrillFail) (old mid new : Replaying) (a b c : List ℕ) → Advances old a mid b
    → MatchResult r (λ _. Advances mid b new c) (λ fail. Stops fail mid b) → MatchResult r (λ _. Advances old a new c) (λ fail. Stops fail old a)
result_then (Ok x) old mid new a b c p q = goes_then old mid new a b c p q
result_then (Err fail) old mid new a b c p q = stops_then fail old mid a b p q

-- ---- a line that is too long

too_long : (line : List ℕ) (end : ℕ) → IsOver (length line) end → line_says meaning (line_at line end) ≡ None
too_long line end (inl h) =
    let long : nat_le (length line) 65536 ≡ false = grind (arith, nat_tests) in
    let none : meaning line ≡ None = rw long refl in
    elim (nat_le end (2 ^ 28)) as (λ b. (if b then meaning line else None) ≡ None) [ true ↦ none | false ↦ refl ]
too_long line end (inr h) =
    let far : nat_le end (2 ^ 28) ≡ false = grind (arith, nat_tests) in
    rw far refl

first_is : (n : ℕ) (line : Line) (lines : List Line) (s : Stand) → line_says meaning line ≡ None → outside_from n (line ∷ lines) s ≡ Some n
first_is n line lines s none =
    let after : after_line (line_says meaning line) s ≡ None = rw none refl in
    rw after refl

later : (len place : ℕ) → IsOver len place → IsOver len (place + 1)
later len place (inl h) = inl h
later len place (inr h) = inr (omega arith)

longer : (line : List ℕ) (c place : ℕ) → IsOver (length line) place → IsOver (length (line ++ c ∷ [])) (place + 1)
longer line c place (inl h) = inl (omega (arith, length-append line (c ∷ [])))
longer line c place (inr h) = inr (omega arith)

over : (rest : List ℕ) (n place : ℕ) (line : List ℕ) (s : Stand) → 0 < length line → IsOver (length line) place
    → outside_from n (lines_from place line rest) s ≡ Some n
over [] n place [] s some h = absurd (omega arith)
over [] n place (c ∷ cs) s some h = first_is n (line_at (c ∷ cs) place) [] s (too_long (c ∷ cs) place h)
over (c ∷ rest) n place line s some h =
    elim (c == 10) as (λ b. outside_from n (if b then line_at line (place + 1) ∷ lines_from (place + 1) [] rest else lines_from (place + 1)
    (line ++ c ∷ []) rest) s ≡ Some n) [
      | true ↦ first_is n (line_at line (place + 1)) (lines_from (place + 1) [] rest) s (too_long line (place + 1) (later (length line) place h))
      | false ↦ over rest n (place + 1) (line ++ c ∷ []) s (omega (arith, length-append line (c ∷ []))) (longer line c place h)
    ]

-- ---- bytes without an LF

pub run_goes : (old new : Replaying) (run rest : List ℕ) → NoLineFeed run → Extended old run new → Advances old (run ++ rest) new rest
run_goes old new run rest clean e =
    let lines : lines_ahead old (run ++ rest) ≡ lines_ahead new rest =
    lines_of_run run rest old.place old.line clean ∙ ap (λ (l : List ℕ). lines_from (old.place + length run) l rest) (sym e.line)
    ∙ ap (λ (n : ℕ). lines_from n new.line rest) (sym e.place) in
    let ahead = lines_ahead old (run ++ rest) in
    record {
      runs = λ t g. subst (λ (l : List Line). Goes l old.scene t) (sym lines) (subst (λ (s : SceneState). Goes (lines_ahead new rest) s t) e.scene g);
      outside = ap (λ (l : List Line). outside_from new.number l (stand_of new.scene)) (sym lines)
          ∙ ap (λ (n : ℕ). outside_from n ahead (stand_of new.scene)) e.number ∙ ap (λ (s : SceneState). outside_from old.number ahead (stand_of s)) e.scene;
    }

some_bytes : (r : Replaying) (run : List ℕ) → Fit r → IsOver (length r.line + length run) (r.place + length run) → 0 < length (r.line ++ run)
some_bytes r run fit h = omega (arith, length-append r.line run, fit.line, fit.place)

over_appended : (line run : List ℕ) (place : ℕ) → IsOver (length line + length run) place → IsOver (length (line ++ run)) place
over_appended line run place h = subst (λ (n : ℕ). IsOver n place) (sym (length-append line run)) h

pub run_stops : (fail : DrillFail) (r : Replaying) (run rest : List ℕ) → Fit r → NoLineFeed run → ExtendFails fail r run → Stops fail r (run ++ rest)
run_stops (Outside n) r run rest fit clean e =
    let first = over rest r.number (r.place + length run) (r.line ++ run) (stand_of r.scene) (some_bytes r run fit e.1)
    (over_appended r.line run (r.place + length run) e.1) in
    ap (λ (l : List Line). outside_from r.number l (stand_of r.scene)) (lines_of_run run rest r.place r.line clean) ∙ first ∙ ap Some (sym e.0)
run_stops SourceFault r run rest fit clean e = absurd e
run_stops SinkFault r run rest fit clean e = absurd e
run_stops OutOfMemory r run rest fit clean e = tt

-- ---- a line that was obeyed, or not

-- what is ahead begins with the line that was read
pub record IsNext (r : Replaying) (ahead : List ℕ) (line : Line) (lines : List Line) : Type 0 where
  pub ahead_is : lines_ahead r ahead ≡ line ∷ lines
  pub meaning_is : line_says meaning line ≡ meaning r.line

after_is : (r : Replaying) (ahead : List ℕ) (line : Line) (lines : List Line) → IsNext r ahead line lines →
    after_line (line_says meaning line) (stand_of r.scene) ≡ after_line (meaning r.line) (stand_of r.scene)
after_is r ahead line lines next = ap (λ (m : Option ReplayLine). after_line m (stand_of r.scene)) next.meaning_is

outside_first : (n : ℕ) (line : Line) (lines : List Line) (s : Stand) → after_line (line_says meaning line) s ≡ None → outside_from n (line ∷ lines) s ≡ Some n
outside_first n line lines s none = rw none refl

inside_first : (n : ℕ) (line : Line) (lines : List Line) (s t : Stand) → after_line (line_says meaning line) s ≡ Some t
    → outside_from n (line ∷ lines) s ≡ outside_from (n + 1) lines t
inside_first n line lines s t e = rw e refl

pub obey_stops : (fail : DrillFail) (r : Replaying) (ahead : List ℕ) (line : Line) (lines : List Line) → IsNext r ahead line lines
    → ObeyFails fail r.line r.number r.scene → Stops fail r ahead
obey_stops (Outside n) r ahead line lines next p =
    ap (λ (l : List Line). outside_from r.number l (stand_of r.scene)) next.ahead_is
    ∙ outside_first r.number line lines (stand_of r.scene) (after_is r ahead line lines next ∙ p.1) ∙ ap Some (sym p.0)
obey_stops SourceFault r ahead line lines next p = absurd p
obey_stops SinkFault r ahead line lines next p = absurd p
obey_stops OutOfMemory r ahead line lines next p = tt

-- the line that was obeyed, and those after it
pub record Inside (r : Replaying) (new : SceneState) (ahead : List ℕ) (lines : List Line) : Type 0 where
  pub runs : (t : SceneState) → Goes lines new t → Goes (lines_ahead r ahead) r.scene t
  pub outside : outside_from (r.number + 1) lines (stand_of new) ≡ outside_ahead r ahead

pub inside : (r : Replaying) (new : SceneState) (ahead : List ℕ) (line : Line) (lines : List Line) → IsNext r ahead line lines
    → Obeyed r.line r.scene new → Inside r new ahead lines
inside r new ahead line lines next o =
    let does : DoesLine (line_says meaning line) r.scene new = subst (λ (m : Option ReplayLine). DoesLine m r.scene new) (sym next.meaning_is) o.does in
    record {
      runs = λ t g. subst (λ (l : List Line). Goes l r.scene t) (sym next.ahead_is) (new, (does, g));
      outside = sym (inside_first r.number line lines (stand_of r.scene) (stand_of new) (after_is r ahead line lines next ∙ o.after))
          ∙ ap (λ (l : List Line). outside_from r.number l (stand_of r.scene)) (sym next.ahead_is);
    }

is_near : (line : List ℕ) (end : ℕ) → end ≤ 2 ^ 28 → line_says meaning (line_at line end) ≡ meaning line
is_near line end h = let near : nat_le end (2 ^ 28) ≡ true = grind (arith, nat_tests) in rw near refl

-- ---- at an LF

feed_next : (r : Replaying) (more : List ℕ) → r.place + 1 ≤ 2 ^ 28 → IsNext r (10 ∷ more) (line_at r.line (r.place + 1)) (lines_from (r.place + 1) [] more)
feed_next r more h = record { ahead_is = refl; meaning_is = is_near r.line (r.place + 1) h }

pub feed_stops : (fail : DrillFail) (r : Replaying) (more : List ℕ) → r.place + 1 ≤ 2 ^ 28 → ObeyFails fail r.line r.number r.scene → Stops fail r (10 ∷ more)
feed_stops fail r more h p = obey_stops fail r (10 ∷ more) (line_at r.line (r.place + 1)) (lines_from (r.place + 1) [] more) (feed_next r more h) p

pub feed_goes : (r new : Replaying) (more : List ℕ) → r.place + 1 ≤ 2 ^ 28 → new.line ≡ [] → new.place ≡ r.place + 1 → new.number ≡ r.number + 1
    → Obeyed r.line r.scene new.scene → Advances r (10 ∷ more) new more
feed_goes r new more h line place number o =
    let rest = lines_from (r.place + 1) [] more in
    let i = inside r new.scene (10 ∷ more) (line_at r.line (r.place + 1)) rest (feed_next r more h) o in
    let lines : lines_ahead new more ≡ rest = ap (λ (n : ℕ). lines_from n new.line more) place ∙ ap (λ (l : List ℕ). lines_from (r.place + 1) l more) line in
    record {
      runs = λ t g. i.runs t (subst (λ (l : List Line). Goes l new.scene t) lines g);
      outside = ap (λ (n : ℕ). outside_from n (lines_ahead new more) (stand_of new.scene)) number
          ∙ ap (λ (l : List Line). outside_from (r.number + 1) l (stand_of new.scene)) lines ∙ i.outside;
    }

-- ---- at the script's end

end_next : (r : Replaying) → Fit r → 0 < length r.line → IsNext r [] (line_at r.line r.place) []
end_next r fit some = record { ahead_is = one_left r.place r.line some; meaning_is = is_near r.line r.place fit.place }

-- nothing is left
pub ends_here : (r : Replaying) → r.line ≡ [] → EndsIn r r.scene
ends_here r e =
    let none : lines_ahead r [] ≡ [] = ap (λ (l : List ℕ). last_line r.place l) e in
    record {
      goes = subst (λ (l : List Line). Goes l r.scene r.scene) (sym none) refl;
      inside = ap (λ (l : List Line). outside_from r.number l (stand_of r.scene)) none;
    }

pub ends_after : (q : Result (Unit {0}) DrillFail) (r : Replaying) (new : SceneState) → Fit r → 0 < length r.line
    → MatchResult q (λ _. Obeyed r.line r.scene new) (λ fail. ObeyFails fail r.line r.number r.scene)
    → MatchResult q (λ _. EndsIn r new) (λ fail. Stops fail r [])
ends_after (Ok x) r new fit some o =
    let i = inside r new [] (line_at r.line r.place) [] (end_next r fit some) o in
    record { goes = i.runs new refl; inside = sym i.outside }
ends_after (Err fail) r new fit some p = obey_stops fail r [] (line_at r.line r.place) [] (end_next r fit some) p

-- ---- a piece

pub line_goes : (old new : Replaying) (left rest : List ℕ) (i : ℕ) → HasFeed left i → Advances old (take i left ++ 10 ∷ (after_feed left i ++ rest)) new
    (after_feed left i ++ rest) → Advances old (left ++ rest) new (after_feed left i ++ rest)
line_goes old new left rest i f p = subst (λ (l : List ℕ). Advances old l new (after_feed left i ++ rest)) (sym (feed_parts left rest i f)) p

pub line_stops : (fail : DrillFail) (old : Replaying) (left rest : List ℕ) (i : ℕ) → HasFeed left i
    → Stops fail old (take i left ++ 10 ∷ (after_feed left i ++ rest)) → Stops fail old (left ++ rest)
line_stops fail old left rest i f p = subst (λ (l : List ℕ). Stops fail old l) (sym (feed_parts left rest i f)) p

pub rest_ends : (q : Result (Unit {0}) DrillFail) (old new : Replaying) (left rest : List ℕ) → Fit old → NoLineFeed left
    → MatchResult q (λ _. Extended old left new) (λ fail. ExtendFails fail old left)
    → MatchResult q (λ _. Advances old (left ++ rest) new rest) (λ fail. Stops fail old (left ++ rest))
rest_ends (Ok x) old new left rest fit clean e = run_goes old new left rest clean e
rest_ends (Err fail) old new left rest fit clean e = run_stops fail old left rest fit clean e

-- ---- the whole script

pub begin : (r : Replaying) (left : Option (List ℕ)) (text : List ℕ) → left ≡ Some text → r.scene ≡ start → r.line ≡ [] → r.place ≡ 0 → r.number ≡ 1
    → Ahead r left text
begin r left text e scene line place number =
    let same : (more : List ℕ) → lines_ahead r more ≡ lines more =
    λ more. ap (λ (n : ℕ). lines_from n r.line more) place ∙ ap (λ (l : List ℕ). lines_from 0 l more) line in
    record {
      read = [];
      rest = text;
      script_is = refl;
      left_is = e;
      runs = λ more t g. subst (λ (s : SceneState). Goes (lines more) s t) scene (subst (λ (l : List Line). Goes l r.scene t) (same more) g);
      outside = λ more. ap (λ (l : List Line). outside_from r.number l (stand_of r.scene)) (same more)
          ∙ ap (λ (n : ℕ). outside_from n (lines more) (stand_of r.scene)) number
          ∙ ap (λ (s : SceneState). outside_from 1 (lines more) (stand_of s)) scene;
    }

-- the bytes that were read stood first of what was left
record Front (bytes : List ℕ) (now : Option (List ℕ)) (rest : List ℕ) : Type 0 where
  next : List ℕ
  now_is : now ≡ Some next
  rest_is : rest ≡ bytes ++ next

front : (bytes : List ℕ) (now : Option (List ℕ)) (rest : List ℕ) → prepend_known bytes now ≡ Some rest → Front bytes now rest
front bytes None rest e = absurd (cc)
front bytes (Some xs) rest e = record { next = xs; now_is = refl; rest_is = cc }

read_more : (read bytes next rest : List ℕ) → rest ≡ bytes ++ next → read ++ rest ≡ (read ++ bytes) ++ next
read_more read bytes next rest e = ap (λ (l : List ℕ). read ++ l) e ∙ sym (append_assoc read bytes next)

pub piece_ahead : (r new : Replaying) (bytes : List ℕ) (left now : Option (List ℕ)) (text : List ℕ) → Ahead r left text → left ≡ prepend_known bytes now
    → ((rest : List ℕ) → Advances r (bytes ++ rest) new rest) → Ahead new now text
piece_ahead r new bytes left now text a read goes =
    let f = front bytes now a.rest (sym read ∙ a.left_is) in
    let same : (more : List ℕ) → a.read ++ (bytes ++ more) ≡ (a.read ++ bytes) ++ more = λ more. sym (append_assoc a.read bytes more) in
    record {
      read = a.read ++ bytes;
      rest = f.next;
      script_is = a.script_is ∙ read_more a.read bytes f.next a.rest f.rest_is;
      left_is = f.now_is;
      runs = λ more t g. subst (λ (l : List ℕ). Goes (lines l) start t) (same more) (a.runs (bytes ++ more) t ((goes more).runs t g));
      outside = λ more. (goes more).outside ∙ a.outside (bytes ++ more) ∙ ap outside_line (same more);
    }

stops_at : (fail : DrillFail) (r : Replaying) (ahead text : List ℕ) → outside_ahead r ahead ≡ outside_line text → Stops fail r ahead → StopsAt fail (outside_line text)
stops_at (Outside n) r ahead text e p = sym e ∙ p
stops_at SourceFault r ahead text e p = absurd p
stops_at SinkFault r ahead text e p = p
stops_at OutOfMemory r ahead text e p = tt

pub piece_stops : (fail : DrillFail) (r : Replaying) (bytes : List ℕ) (left now : Option (List ℕ)) (text : List ℕ) → Ahead r left text
    → left ≡ prepend_known bytes now → ((rest : List ℕ) → Stops fail r (bytes ++ rest)) → StopsAt fail (outside_line text)
piece_stops fail r bytes left now text a read stops =
    let f = front bytes now a.rest (sym read ∙ a.left_is) in
    let whole : a.read ++ (bytes ++ f.next) ≡ text = ap (λ (l : List ℕ). a.read ++ l) (sym f.rest_is) ∙ sym a.script_is in
    stops_at fail r (bytes ++ f.next) text (a.outside (bytes ++ f.next) ∙ ap outside_line whole) (stops f.next)

-- at the end nothing is left
empty : (left : Option (List ℕ)) (rest : List ℕ) → left ≡ Some rest → IsAtEnd left → rest ≡ []
empty None rest e h = absurd (cc)
empty (Some xs) rest e h = cc

at_end : (r : Replaying) (left : Option (List ℕ)) (text : List ℕ) → (a : Ahead r left text) → IsAtEnd left → a.read ++ [] ≡ text
at_end r left text a h = ap (λ (l : List ℕ). a.read ++ l) (sym (empty left a.rest a.left_is h)) ∙ sym a.script_is

pub script_ends : (q : Result (List ℕ) DrillFail) (r : Replaying) (left : Option (List ℕ)) (text : List ℕ) → Ahead r left text → IsAtEnd left
    → MatchResult q (λ printed. EndsPrinted r printed) (λ fail. Stops fail r [])
    → MatchResult q (λ printed. Printed text printed × (outside_line text ≡ None)) (λ fail. StopsAt fail (outside_line text))
script_ends (Ok printed) r left text a h e =
    let whole = at_end r left text a h in (
      record {
        state = e.state;
        run = subst (λ (l : List ℕ). Goes (lines l) start e.state) whole (a.runs [] e.state e.ends.goes);
        prints = e.prints;
      },
      sym (a.outside [] ∙ ap outside_line whole) ∙ e.ends.inside,
    )
script_ends (Err fail) r left text a h p = stops_at fail r [] text (a.outside [] ∙ ap outside_line (at_end r left text a h)) p

-- ---- faults

-- a part that has no source leaves its faults
pub source_kept : (fail : DrillFail) (r : Replaying) (bytes : List ℕ) (before now : ℕ) → Stops fail r (bytes ++ []) → now ≡ before → SourceFaults fail before now
source_kept (Outside n) r bytes before now p e = e
source_kept SourceFault r bytes before now p e = absurd p
source_kept SinkFault r bytes before now p e = absurd p
source_kept OutOfMemory r bytes before now p e = e

pub source_kept_by : (q : Result (List ℕ) DrillFail) (r : Replaying) (before now : ℕ)
    → MatchResult q (λ printed. EndsPrinted r printed) (λ fail. Stops fail r []) → now ≡ before
    → MatchResult q (λ _. now ≡ before) (λ fail. SourceFaults fail before now)
source_kept_by (Ok printed) r before now p e = e
source_kept_by (Err fail) r before now p e = source_kept fail r [] before now p e

pub stops_without_sink : (fail : DrillFail) (r : Replaying) (bytes : List ℕ) → Stops fail r (bytes ++ []) → HasNoSink fail
stops_without_sink (Outside n) r bytes p = tt
stops_without_sink SourceFault r bytes p = tt
stops_without_sink SinkFault r bytes p = absurd p
stops_without_sink OutOfMemory r bytes p = tt

pub ends_without_sink : (q : Result (List ℕ) DrillFail) (r : Replaying) → MatchResult q (λ printed. EndsPrinted r printed) (λ fail. Stops fail r [])
    → IfErr q HasNoSink
ends_without_sink (Ok printed) r p = tt
ends_without_sink (Err fail) r p = stops_without_sink fail r [] p
