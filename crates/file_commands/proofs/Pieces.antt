-- What a piece gives.
use Rattle.std.proofs.Common.{◌≡◌, inl, inr, Result, Ok, Err, MatchResult, ℕ, ◌-◌, ◌≤◌, ◌<◌, ◌+◌, Bool, List, [], ◌++◌, Option, length, take, drop, refl, ap, sym, ◌∙◌, subst, append_assoc, arith, length-append}
use Rattle.std.proofs.lemmas.List.{take-append-drop, append-nil, take_all, length-drop, length-take}
use Rattle.std.specs.Io.KnownBytes.{append_known}
use Rattle.file_commands.specs.declared.fail.Fail.{Fail}
use Rattle.file_commands.specs.declared.fail.Fail.TheVariants.{Refused, SourceFault, SinkFault, OutOfMemory}
use Rattle.put_text.specs.Written.{Writes}
use Rattle.file_commands.specs.Outcome.{GivenBy, WritesAll, most_bytes}
use Rattle.file_commands.specs.Parts.{Steps, StepFails, Finishes, PutFails, PieceFails, TakeFails, EndFails}
use Rattle.put_text.proofs.Writing.{write_part_then, write_rest, write_more}

pub given_all : (Gives : List ℕ → List ℕ → Type 0) (read text : List ℕ) → Gives read text → GivenBy Gives read text
given_all Gives read text h = record { front = read; behind = []; parts = sym (append-nil read); gives = h }

-- ---- a step in a piece

-- the bytes behind those that were taken
abbrev pub left_after : List ℕ → ℕ → List ℕ
left_after left used = take (length left - used) (drop used left)

pub left_parts : (left : List ℕ) (used : ℕ) → take used left ++ left_after left used ≡ left
left_parts left used =
    ap (λ (l : List ℕ). take used left ++ l) (take_all (length left - used) (drop used left) (omega (arith, length-drop used left)))
    ∙ take-append-drop used left

pub fed_on : (fed fed' left all : List ℕ) (used : ℕ) → fed' ≡ fed ++ take used left → fed ++ left ≡ all → fed' ++ left_after left used ≡ all
fed_on fed fed' left all used e is =
    ap (λ (l : List ℕ). l ++ left_after left used) e ∙ append_assoc fed (take used left) (left_after left used)
    ∙ ap (λ (l : List ℕ). fed ++ l) (left_parts left used) ∙ is

pub step_writes : (fed given left : List ℕ) (used : ℕ) (text fed' given' text' : List ℕ) (before held : Option (List ℕ))
    → Steps fed given left used text fed' given' text' → Writes given text before held → Writes given' text' before held
step_writes fed given left used text fed' given' text' before held s w = write_more given text s.more given' text' before held w s.given_is s.out_is

pub step_fails : (Gives : List ℕ → List ℕ → Type 0) (Stops : List ℕ → ℕ → List ℕ → Type 0) (fail : Fail) (fed given left all text text' : List ℕ)
    (before held : Option (List ℕ)) → Gives fed given → fed ++ left ≡ all → Writes given text before held
    → StepFails Stops fail (fed ++ left) given text text' → PieceFails Gives Stops fail all text' before held
step_fails Gives Stops (Refused at) fed given left all text text' before held gives is w h = record {
  given = given;
  by = record { front = fed; behind = left; parts = sym is; gives = gives };
  stops = subst (λ (l : List ℕ). Stops l at given) is h.0;
  writes = subst (λ (l : List ℕ). Writes given l before held) (sym h.1) w;
}
step_fails Gives Stops SourceFault fed given left all text text' before held gives is w h = absurd h
step_fails Gives Stops SinkFault fed given left all text text' before held gives is w h = absurd h
step_fails Gives Stops OutOfMemory fed given left all text text' before held gives is w h =
    (given, record { front = fed; behind = left; parts = sym is; gives = gives }, (text, w))

pub put_fails : (Gives : List ℕ → List ℕ → Type 0) (Stops : List ℕ → ℕ → List ℕ → Type 0) (fail : Fail) (fed given left all text : List ℕ)
    (before now : Option (List ℕ)) → Gives fed given → fed ++ left ≡ all → PutFails fail given before now
    → PieceFails Gives Stops fail all text before now
put_fails Gives Stops (Refused at) fed given left all text before now gives is h = absurd h
put_fails Gives Stops SourceFault fed given left all text before now gives is h = absurd h
put_fails Gives Stops SinkFault fed given left all text before now gives is h =
    (given, record { front = fed; behind = left; parts = sym is; gives = gives }, h)
put_fails Gives Stops OutOfMemory fed given left all text before now gives is h =
    (given, record { front = fed; behind = left; parts = sym is; gives = gives }, h)

-- of a text that is pending in part, the pending part isn't put
pub put_part : (fail : Fail) (given text : List ℕ) (before held now : Option (List ℕ)) → Writes given text before held → PutFails fail text held now
    → PutFails fail given before now
put_part (Refused at) given text before held now w h = h
put_part SourceFault given text before held now w h = h
put_part SinkFault given text before held now w h = write_part_then given text before held now w h
put_part OutOfMemory given text before held now w h = write_part_then given text before held now w h

-- ---- a piece within the bytes that are read

pub take_fails : (Gives : List ℕ → List ℕ → Type 0) (Stops : List ℕ → ℕ → List ℕ → Type 0) (fail : Fail) (bytes more text : List ℕ)
    (before now : Option (List ℕ)) → length bytes ≤ most_bytes → PieceFails Gives Stops fail bytes text before now
    → TakeFails Gives Stops fail (bytes ++ more) text before now
take_fails Gives Stops (Refused at) bytes more text before now within h = record {
  given = h.given;
  by = record { front = h.by.front; behind = h.by.behind ++ more; parts = ap (λ (l : List ℕ). l ++ more) h.by.parts ∙ append_assoc h.by.front h.by.behind more; gives = h.by.gives };
  refused = inl (record { front = bytes; behind = more; parts = refl; within = within; stops = h.stops });
  writes = h.writes;
}
take_fails Gives Stops SourceFault bytes more text before now within h = absurd h
take_fails Gives Stops SinkFault bytes more text before now within h =
    (h.0, record { front = h.1.front; behind = h.1.behind ++ more; parts = ap (λ (l : List ℕ). l ++ more) h.1.parts ∙ append_assoc h.1.front h.1.behind more; gives = h.1.gives }, h.2)
take_fails Gives Stops OutOfMemory bytes more text before now within h =
    (h.0, record { front = h.1.front; behind = h.1.behind ++ more; parts = ap (λ (l : List ℕ). l ++ more) h.1.parts ∙ append_assoc h.1.front h.1.behind more; gives = h.1.gives }, h.2)

pub take_fails_all : (Gives : List ℕ → List ℕ → Type 0) (Stops : List ℕ → ℕ → List ℕ → Type 0) (fail : Fail) (bytes text : List ℕ)
    (before now : Option (List ℕ)) → length bytes ≤ most_bytes → PieceFails Gives Stops fail bytes text before now
    → TakeFails Gives Stops fail bytes text before now
take_fails_all Gives Stops fail bytes text before now within h =
    subst (λ (l : List ℕ). TakeFails Gives Stops fail l text before now) (append-nil bytes) (take_fails Gives Stops fail bytes [] text before now within h)

-- the first bytes of the piece, and those behind
pub front_fails : (Gives : List ℕ → List ℕ → Type 0) (Stops : List ℕ → ℕ → List ℕ → Type 0) (fail : Fail) (fed piece : List ℕ) (n : ℕ) (text : List ℕ)
    (before now : Option (List ℕ)) → length fed + n ≤ most_bytes → PieceFails Gives Stops fail (fed ++ take n piece) text before now
    → TakeFails Gives Stops fail (fed ++ piece) text before now
front_fails Gives Stops fail fed piece n text before now within h =
    let near : length (fed ++ take n piece) ≤ most_bytes = omega (arith, length-append fed (take n piece), length-take n piece, within) in
    let all : (fed ++ take n piece) ++ drop n piece ≡ fed ++ piece = append_assoc fed (take n piece) (drop n piece) ∙ ap (λ (l : List ℕ). fed ++ l) (take-append-drop n piece) in
    subst (λ (l : List ℕ). TakeFails Gives Stops fail l text before now) all (take_fails Gives Stops fail (fed ++ take n piece) (drop n piece) text before now near h)

-- all bytes that are read were taken, and there are more
pub too_long : (Gives : List ℕ → List ℕ → Type 0) (Stops : List ℕ → ℕ → List ℕ → Type 0) (fed fed' piece given text : List ℕ) (n : ℕ)
    (before now : Option (List ℕ)) → length fed + n ≡ most_bytes → n < length piece → fed' ≡ fed ++ take n piece → Gives fed' given → Writes given text before now
    → TakeFails Gives Stops (Refused most_bytes) (fed ++ piece) text before now
too_long Gives Stops fed fed' piece given text n before now full more is gives w =
    let all : fed ++ piece ≡ fed' ++ drop n piece =
    ap (λ (l : List ℕ). fed ++ l) (sym (take-append-drop n piece)) ∙ sym (append_assoc fed (take n piece) (drop n piece)) ∙ ap (λ (l : List ℕ). l ++ drop n piece) (sym is) in
    record {
      given = given;
      by = record { front = fed'; behind = drop n piece; parts = all; gives = gives };
      refused = inr (record {
        front = fed';
        behind = drop n piece;
        parts = all;
        full = omega (arith, ap length is, length-append fed (take n piece), length-take n piece, full, more);
        more = omega (arith, length-drop n piece, more);
        place = refl;
        gives = gives;
      });
      writes = w;
    }

-- ---- the end

pub finish_fails : (Gives : List ℕ → List ℕ → Type 0) (Cut : List ℕ → ℕ → List ℕ → Type 0) (Whole : List ℕ → Bool → List ℕ → Type 0) (fail : Fail)
    (fed given text text' : List ℕ) (before held : Option (List ℕ)) → Gives fed given → Writes given text before held
    → StepFails Cut fail fed given text text' → EndFails Gives Cut Whole fail fed text' before held
finish_fails Gives Cut Whole (Refused at) fed given text text' before held gives w h = record {
  given = given;
  by = given_all Gives fed given gives;
  cut = h.0;
  writes = subst (λ (l : List ℕ). Writes given l before held) (sym h.1) w;
}
finish_fails Gives Cut Whole SourceFault fed given text text' before held gives w h = absurd h
finish_fails Gives Cut Whole SinkFault fed given text text' before held gives w h = absurd h
finish_fails Gives Cut Whole OutOfMemory fed given text text' before held gives w h = inl (given, given_all Gives fed given gives, (text, w))

pub last_fails : (Gives : List ℕ → List ℕ → Type 0) (Cut : List ℕ → ℕ → List ℕ → Type 0) (Whole : List ℕ → Bool → List ℕ → Type 0) (fail : Fail)
    (fed given text text' pending : List ℕ) (some_out : Bool) (before held now : Option (List ℕ)) → Writes given text before held
    → Finishes Whole fed given some_out text text' → PutFails fail text' held now → EndFails Gives Cut Whole fail fed pending before now
last_fails Gives Cut Whole (Refused at) fed given text text' pending some_out before held now w f h = absurd h
last_fails Gives Cut Whole SourceFault fed given text text' pending some_out before held now w f h = absurd h
last_fails Gives Cut Whole SinkFault fed given text text' pending some_out before held now w f h =
    inr (
      some_out,
      (
        given ++ f.more,
        f.whole,
        write_part_then (given ++ f.more) text' before held now
            (write_more given text f.more (given ++ f.more) text' before held w refl f.out_is) h,
      ),
    )
last_fails Gives Cut Whole OutOfMemory fed given text text' pending some_out before held now w f h =
    inr (
      some_out,
      (
        given ++ f.more,
        f.whole,
        write_part_then (given ++ f.more) text' before held now
            (write_more given text f.more (given ++ f.more) text' before held w refl f.out_is) h,
      ),
    )

pub ends : (Whole : List ℕ → Bool → List ℕ → Type 0) (fed given text text' : List ℕ) (some_out : Bool) (before held now : Option (List ℕ))
    → length fed ≤ most_bytes → Writes given text before held → Finishes Whole fed given some_out text text' → now ≡ append_known held text'
    → WritesAll Whole fed some_out before now
ends Whole fed given text text' some_out before held now within w f e =
    let all = write_rest (given ++ f.more) text' before held now (write_more given text f.more (given ++ f.more) text' before held w refl f.out_is) e in
    record { text = given ++ f.more; within = within; whole = f.whole; written = all.grown ∙ ap (append_known before) (sym (append-nil all.wrote) ∙ all.parts) }

-- the same of a result
pub take_result : (Gives : List ℕ → List ℕ → Type 0) (Stops : List ℕ → ℕ → List ℕ → Type 0) (r : Result (Unit {0}) Fail) (given bytes text : List ℕ)
    (before now : Option (List ℕ)) → length bytes ≤ most_bytes →
    MatchResult r (λ _. Writes given text before now) (λ fail. PieceFails Gives Stops fail bytes text before now)
    → MatchResult r (λ _. Writes given text before now) (λ fail. TakeFails Gives Stops fail bytes text before now)
take_result Gives Stops (Ok x) given bytes text before now within h = h
take_result Gives Stops (Err fail) given bytes text before now within h = take_fails_all Gives Stops fail bytes text before now within h
