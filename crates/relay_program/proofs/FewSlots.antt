-- A line that asks for a pool asks for at most 64 slots.
use Rattle.std.proofs.Common.{◌≡◌, ℕ, ◌==◌, nat_le, Bool, true, false, if◌then◌else◌, List, [], ◌∷◌, Option, None, Some, length, refl, subst, arith}
use Rattle.std.specs.Prelude.{codes}
use Rattle.std.specs.Option.{option_and_then, option_map}
use Rattle.stream_model.specs.declared.calls.Call.{Call}
use Rattle.stream_model.specs.declared.calls.Call.TheVariants as call
use Rattle.relay_script.specs.declared.line.DrillLine.{DrillLine}
use Rattle.relay_script.specs.Lines.{is_text, first_word, next, last, ring_line, pool_line, push_line, take_line, leave_line, who_line, named_line}
use Rattle.relay_script.specs.Lines.{step, call_named, maybe_name, plain_line, worded_line, form, meaning}
use Rattle.relay_program.specs.Parts.{HasFewSlots}
use Rattle.relay_program.proofs.Counts.{count_below}

abbrev Few : Option DrillLine → Type 0
Few None = Unit {0}
Few (Some line) = HasFewSlots line

read_few : {A : Type 0} → (o : Option A) (rest : Option (List ℕ)) (f : A → Option (List ℕ) → Option DrillLine) → ((x : A) → o ≡ Some x → Few (f x rest))
    → Few (option_and_then (λ x. f x rest) o)
read_few None rest f h = tt
read_few (Some x) rest f h = h x refl

next_few : {A : Type 0} → (words : Option (List ℕ)) (read : List ℕ → Option A) (f : A → Option (List ℕ) → Option DrillLine)
    → ((word : List ℕ) (x : A) (rest : Option (List ℕ)) → read word ≡ Some x → Few (f x rest)) → Few (next words read f)
next_few None read f h = tt
next_few (Some text) read f h = read_few (read (first_word text).word) (first_word text).rest f (λ x e. h (first_word text).word x (first_word text).rest e)

last_few : (rest : Option (List ℕ)) (line : DrillLine) → HasFewSlots line → Few (last rest line)
last_few None line h = h
last_few (Some text) line h = tt

either_few : (b : Bool) (x y : Option DrillLine) → Few x → Few y → Few (if b then x else y)
either_few true x y p q = p
either_few false x y p q = q

named_few : (who : ℕ) (call : Call) (with_name : List ℕ → Call) (name : Option (Option (List ℕ)))
    → Few (option_map (λ n. step who (call_named call with_name n)) name)
named_few who call with_name None = tt
named_few who call with_name (Some name) = tt

pool_few : (words : Option (List ℕ)) → Few (pool_line words)
pool_few words = next_few words _ _ (λ word slots rest e. last_few rest _ (let h = count_below 65 slots word e in omega (arith, h)))

ring_few : (words : Option (List ℕ)) → Few (ring_line words)
ring_few words = next_few words _ _ (λ w b rest e. next_few rest _ _ (λ w i rest e. next_few rest _ _ (λ w p rest e. last_few rest _ tt)))

push_few : (words : Option (List ℕ)) → Few (push_line words)
push_few words = next_few words _ _ (λ w who rest e. next_few rest _ _ (λ w kind rest e. next_few rest _ _ (λ w time rest e.
    next_few rest _ _ (λ w len rest e. last_few rest _ tt))))

take_few : (words : Option (List ℕ)) → Few (take_line words)
take_few words = next_few words _ _ (λ w who rest e. next_few rest _ _ (λ w player rest e. next_few rest _ _ (λ w want rest e. last_few rest _ tt)))

leave_few : (words : Option (List ℕ)) → Few (leave_line words)
leave_few words = next_few words _ _ (λ w who rest e. next_few rest _ _ (λ w player rest e. last_few rest _ tt))

who_few : (call : Call) (words : Option (List ℕ)) → Few (who_line call words)
who_few call words = next_few words _ _ (λ w who rest e. last_few rest _ tt)

either_named : (call : Call) (with_name : List ℕ → Call) (words : Option (List ℕ)) → Few (named_line call with_name words)
either_named call with_name words = next_few words _ _ (λ w who rest e. named_few who call with_name (maybe_name rest))

plain_few : (word : List ℕ) (rest : Option (List ℕ)) → Few (plain_line word rest)
plain_few word rest =
    either_few (is_text word (codes "ring")) _ _ (ring_few rest)
    (either_few (is_text word (codes "pool")) _ _ (pool_few rest)
    (either_few (is_text word (codes "held")) _ _ (last_few rest _ tt)
    (either_few (is_text word (codes "end")) _ _ (who_few call.End rest)
    (either_few (is_text word (codes "take")) _ _ (take_few rest)
    (either_few (is_text word (codes "leave")) _ _ (leave_few rest)
    (either_few (is_text word (codes "count")) _ _ (last_few rest _ tt) tt))))))

worded_few : (word : List ℕ) (rest : Option (List ℕ)) → Few (worded_line word rest)
worded_few word rest =
    either_few (is_text word (codes "push")) _ _ (push_few rest)
    (either_few (is_text word (codes "begin")) _ _ (either_named call.Begin call.BeginAs rest)
    (either_few (is_text word (codes "join")) _ _ (either_named call.Join call.JoinAs rest) (plain_few word rest)))

form_few : (line : List ℕ) → Few (form line)
form_few [] = tt
form_few (c ∷ cs) = either_few (c == 35) _ _ tt (worded_few (first_word (c ∷ cs)).word (first_word (c ∷ cs)).rest)

meaning_few : (text : List ℕ) → Few (meaning text)
meaning_few text = either_few (nat_le (length text) 65536) _ _ (form_few text) tt

pub few_slots : (text : List ℕ) (line : DrillLine) → meaning text ≡ Some line → HasFewSlots line
few_slots text line e = subst (λ (o : Option DrillLine). Few o) e (meaning_few text)
