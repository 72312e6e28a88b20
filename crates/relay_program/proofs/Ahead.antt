-- A drill in the middle of its script.
use Rattle.std.proofs.Common.{◌≡◌, ℕ, List, [], ◌++◌, Option, None, Some, Result, Ok, Err, MatchResult, refl, ap, sym, ◌∙◌, subst, append_assoc, length, ◌+◌}
use Rattle.std.proofs.lemmas.List.{append-nil, append_cancel_right}
use Rattle.std.specs.Io.KnownBytes.{prepend_known, IsAtEnd}
use Rattle.relay_program.specs.declared.drills.Drilling.{Drilling}
use Rattle.relay_program.specs.declared.drills.DrillFail.{DrillFail}
use Rattle.relay_program.specs.declared.drills.DrillFail.TheVariants.{Outside, SourceFault, SinkFault, OutOfMemory}
use Rattle.relay_script.specs.Script.{Line, lines_from, lines}
use Rattle.relay_program.specs.Drill.{State, fresh, text_from, outside_from, drill_text, outside_line}
use Rattle.put_text.specs.Written.{Writes, WritesPart}
use Rattle.relay_program.specs.Parts.{lines_ahead, text_ahead, outside_ahead, Advances, FailsAt, Fails}
use Rattle.relay_program.specs.Ends.{Ahead}
use Rattle.put_text.proofs.Writing.{nothing_written, write_then, write_part_then}
use Rattle.relay_program.proofs.Fails.{fail_part, result_part}

pub start : (d : Drilling) (left held : Option (List ℕ)) (text : List ℕ) → left ≡ Some text → d.made ≡ fresh → d.line ≡ [] → d.place ≡ 0 → d.number ≡ 1
    → Ahead d left held text held
start d left held text e made line place number =
    let same : (more : List ℕ) → lines_ahead d more ≡ lines more =
    λ more. ap (λ (n : ℕ). lines_from n d.line more) place ∙ ap (λ (l : List ℕ). lines_from 0 l more) line in
    let all : (more : List ℕ) → text_ahead d more ≡ drill_text more =
    λ more. ap (λ (l : List Line). text_from l d.made) (same more) ∙ ap (λ (s : State). text_from (lines more) s) made in
    record {
      read = [];
      rest = text;
      script_is = refl;
      left_is = e;
      writes = λ more. subst (λ (l : List ℕ). Writes (drill_text more) l held held) (sym (all more)) (nothing_written (drill_text more) held);
      outside = λ more. ap (λ (l : List Line). outside_from d.number l d.made) (same more) ∙ ap (λ (n : ℕ). outside_from n (lines more) d.made) number
          ∙ ap (λ (s : State). outside_from 1 (lines more) s) made;
      counted = λ more. ap (λ (n : ℕ). n + length (lines_ahead d more)) number ∙ ap (λ (l : List Line). 1 + length l) (same more);
    }

-- the bytes that were read stood first of what was left
record Front (bytes : List ℕ) (now : Option (List ℕ)) (rest : List ℕ) : Type 0 where
  next : List ℕ
  now_is : now ≡ Some next
  rest_is : rest ≡ bytes ++ next

front : (bytes : List ℕ) (now : Option (List ℕ)) (rest : List ℕ) → prepend_known bytes now ≡ Some rest → Front bytes now rest
front bytes None rest e = absurd (cc)
front bytes (Some next) rest e = record { next = next; now_is = refl; rest_is = cc }

fails_ahead : (fail : DrillFail) (d : Drilling) (rest text : List ℕ) (outside : Option ℕ) (before held now : Option (List ℕ))
    → Writes text (text_ahead d rest) before held → outside_ahead d rest ≡ outside →
    Fails fail d rest held now → FailsAt fail text outside before now
fails_ahead (Outside n) d rest text outside before held now w o p = (write_then text (text_ahead d rest) [] before held now w p.0, sym o ∙ p.1)
fails_ahead SourceFault d rest text outside before held now w o p = write_part_then text (text_ahead d rest) before held now w p
fails_ahead SinkFault d rest text outside before held now w o p = write_part_then text (text_ahead d rest) before held now w p
fails_ahead OutOfMemory d rest text outside before held now w o p = write_part_then text (text_ahead d rest) before held now w p

-- more was read
read_more : (read bytes next rest : List ℕ) → rest ≡ bytes ++ next → read ++ rest ≡ (read ++ bytes) ++ next
read_more read bytes next rest e = ap (λ (l : List ℕ). read ++ l) e ∙ sym (append_assoc read bytes next)

pub piece_ahead : (d new : Drilling) (bytes : List ℕ) (left now held after : Option (List ℕ)) (text : List ℕ) (before : Option (List ℕ))
    → Ahead d left held text before →
    left ≡ prepend_known bytes now → ((rest : List ℕ) → Advances d (bytes ++ rest) new rest held after) → Ahead new now after text before
piece_ahead d new bytes left now held after text before a read goes =
    let f = front bytes now a.rest (sym read ∙ a.left_is) in
    let same : (more : List ℕ) → a.read ++ (bytes ++ more) ≡ (a.read ++ bytes) ++ more = λ more. sym (append_assoc a.read bytes more) in
    record {
      read = a.read ++ bytes;
      rest = f.next;
      script_is = a.script_is ∙ read_more a.read bytes f.next a.rest f.rest_is;
      left_is = f.now_is;
      writes = λ more. subst (λ (l : List ℕ). Writes (drill_text l) (text_ahead new more) before after) (same more)
          (write_then (drill_text (a.read ++ (bytes ++ more))) (text_ahead d (bytes ++ more)) (text_ahead new more) before held after
          (a.writes (bytes ++ more)) (goes more).writes);
      outside = λ more. (goes more).outside ∙ a.outside (bytes ++ more) ∙ ap outside_line (same more);
      counted = λ more. (goes more).counted ∙ a.counted (bytes ++ more) ∙ ap (λ (l : List ℕ). 1 + length (lines l)) (same more);
    }

-- whatever follows the piece
fails_for : (fail : DrillFail) (d : Drilling) (bytes : List ℕ) (left held after : Option (List ℕ)) (text : List ℕ) (before : Option (List ℕ))
    → (a : Ahead d left held text before) →
    ((rest : List ℕ) → Fails fail d (bytes ++ rest) held after) → (more : List ℕ)
    → FailsAt fail (drill_text (a.read ++ (bytes ++ more))) (outside_line (a.read ++ (bytes ++ more))) before after
fails_for fail d bytes left held after text before a fails more =
    fails_ahead fail d (bytes ++ more) (drill_text (a.read ++ (bytes ++ more))) (outside_line (a.read ++ (bytes ++ more))) before held after
    (a.writes (bytes ++ more)) (a.outside (bytes ++ more)) (fails more)

pub piece_fails : (fail : DrillFail) (d : Drilling) (bytes : List ℕ) (left now held after : Option (List ℕ)) (text : List ℕ) (before : Option (List ℕ))
    → Ahead d left held text before →
    left ≡ prepend_known bytes now → ((rest : List ℕ) → Fails fail d (bytes ++ rest) held after)
    → FailsAt fail (drill_text text) (outside_line text) before after
piece_fails fail d bytes left now held after text before a read fails =
    let f = front bytes now a.rest (sym read ∙ a.left_is) in
    let whole : a.read ++ (bytes ++ f.next) ≡ text = ap (λ (l : List ℕ). a.read ++ l) (sym f.rest_is) ∙ sym a.script_is in
    subst (λ (l : List ℕ). FailsAt fail (drill_text l) (outside_line l) before after) whole (fails_for fail d bytes left held after text before a fails f.next)

-- at the end nothing is left
empty : (left : Option (List ℕ)) (rest : List ℕ) → left ≡ Some rest → IsAtEnd left → rest ≡ []
empty None rest e h = absurd (cc)
empty (Some xs) rest e h = cc

-- ---- what was read

some_same : (xs ys : List ℕ) → Some xs ≡ Some ys → xs ≡ ys
some_same xs ys e = cc

-- what was read is told by the script and by what is left of it
pub read_is : (read rest other next : List ℕ) (left : Option (List ℕ)) → read ++ rest ≡ other ++ next → left ≡ Some rest → left ≡ Some next → read ≡ other
read_is read rest other next left e p q =
    let same : rest ≡ next = some_same rest next (sym p ∙ q) in
    append_cancel_right read other next (ap (λ (l : List ℕ). read ++ l) (sym same) ∙ e)

-- a source that didn't give leaves what was read as it was
pub stays_read : (d : Drilling) (left now held : Option (List ℕ)) (read rest : List ℕ) (before : Option (List ℕ)) → Ahead d left held (read ++ rest) before
    → now ≡ left → now ≡ Some rest →
    WritesPart (drill_text read) before held
stays_read d left now held read rest before a same p =
    let e = read_is read rest a.read a.rest now a.script_is p (same ∙ a.left_is) in
    subst (λ (l : List ℕ). WritesPart (drill_text l) before held) (append-nil a.read ∙ sym e) (text_ahead d [], a.writes [])

pub piece_read : (fail : DrillFail) (d : Drilling) (bytes : List ℕ) (left now held after : Option (List ℕ)) (read rest : List ℕ) (before : Option (List ℕ))
    → Ahead d left held (read ++ rest) before →
    left ≡ prepend_known bytes now → now ≡ Some rest → ((rest : List ℕ) → Fails fail d (bytes ++ rest) held after) → WritesPart (drill_text read) before after
piece_read fail d bytes left now held after read rest before a gave p fails =
    let f = front bytes now a.rest (sym gave ∙ a.left_is) in
    let e = read_is read rest (a.read ++ bytes) f.next now (a.script_is ∙ read_more a.read bytes f.next a.rest f.rest_is) p f.now_is in
    let same : a.read ++ (bytes ++ []) ≡ read = ap (λ (l : List ℕ). a.read ++ l) (append-nil bytes) ∙ sym e in
    subst (λ (l : List ℕ). WritesPart (drill_text l) before after) same
    (fail_part fail (drill_text (a.read ++ (bytes ++ []))) (outside_line (a.read ++ (bytes ++ []))) before after
    (fails_for fail d bytes left held after (read ++ rest) before a fails []))

-- of a script that was read to its end
pub end_read : (r : Result (Unit {0}) DrillFail) (left now : Option (List ℕ)) (read rest : List ℕ) (before after : Option (List ℕ)) → now ≡ left
    → IsAtEnd left → now ≡ Some rest →
    MatchResult r (λ _. Writes (drill_text (read ++ rest)) [] before after × (outside_line (read ++ rest) ≡ None))
    (λ fail. FailsAt fail (drill_text (read ++ rest)) (outside_line (read ++ rest)) before after) → WritesPart (drill_text read) before after
end_read r left now read rest before after same h p ends =
    let none = empty left rest (sym same ∙ p) h in
    let whole : read ++ rest ≡ read = ap (λ (l : List ℕ). read ++ l) none ∙ append-nil read in
    subst (λ (l : List ℕ). WritesPart (drill_text l) before after) whole
    (result_part r (drill_text (read ++ rest)) (outside_line (read ++ rest)) before after ends)

at_end : (d : Drilling) (left held : Option (List ℕ)) (text : List ℕ) (before : Option (List ℕ)) → (a : Ahead d left held text before) → IsAtEnd left
    → a.read ++ [] ≡ text
at_end d left held text before a h = ap (λ (l : List ℕ). a.read ++ l) (sym (empty left a.rest a.left_is h)) ∙ sym a.script_is

pub script_ends : (r : Result (Unit {0}) DrillFail) (d : Drilling) (left held after : Option (List ℕ)) (text : List ℕ) (before : Option (List ℕ))
    → Ahead d left held text before → IsAtEnd left →
    MatchResult r (λ _. Writes (text_ahead d []) [] held after × (outside_ahead d [] ≡ None)) (λ fail. Fails fail d [] held after) →
    MatchResult r (λ _. Writes (drill_text text) [] before after × (outside_line text ≡ None))
    (λ fail. FailsAt fail (drill_text text) (outside_line text) before after)
script_ends (Ok x) d left held after text before a h p =
    let whole = at_end d left held text before a h in
    subst (λ (l : List ℕ). Writes (drill_text l) [] before after × (outside_line l ≡ None)) whole
    (write_then (drill_text (a.read ++ [])) (text_ahead d []) [] before held after (a.writes []) p.0, sym (a.outside []) ∙ p.1)
script_ends (Err fail) d left held after text before a h p =
    let whole = at_end d left held text before a h in
    subst (λ (l : List ℕ). FailsAt fail (drill_text l) (outside_line l) before after) whole
    (fails_ahead fail d [] (drill_text (a.read ++ [])) (outside_line (a.read ++ [])) before held after (a.writes []) (a.outside []) p)

pub part_written : (d : Drilling) (left held : Option (List ℕ)) (text : List ℕ) (before : Option (List ℕ)) → Ahead d left held text before
    → WritesPart (drill_text text) before held
part_written d left held text before a = subst (λ (l : List ℕ). WritesPart (drill_text l) before held) (sym a.script_is) (text_ahead d a.rest, a.writes a.rest)
