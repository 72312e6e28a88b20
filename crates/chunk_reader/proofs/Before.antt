-- The bytes before the last of a message
use Rattle.std.proofs.Common.{◌≡◌, ℕ, ◌+◌, ◌-◌, ◌<◌, ◌≤◌, List, ◌∷◌, [], ◌++◌, length, take, Option, Some, None, refl, sym, ap, ◌∙◌, subst, arith, append-nil, append_assoc, length-append}
use Rattle.std.specs.List.{concat}
use Rattle.std.proofs.lemmas.List.{append_cancel_left, length-take, take-append-le, take-take, take_all}
use Rattle.chunk_wire.specs.declared.message.Message.{Message}
use Rattle.chunk_wire.specs.State.{State, fresh_state}
use Rattle.chunk_wire.specs.Chunk.{message_of}
use Rattle.chunk_reader.specs.Control.{next}
use Rattle.chunk_reader.specs.Reads.{Reads, ended, messages}
use Rattle.chunk_reader.specs.Sound.{IsRead}
use Rattle.chunk_reader.proofs.Once.{one_reading}
use Rattle.chunk_reader.proofs.Parts.{reads_part}

-- each place is that of a byte that is there
abbrev AreIn : ℕ → List (ℕ × Message) → Type 0
AreIn most [] = Unit {0}
AreIn most (m ∷ ms) = (m.0 ≤ most) × AreIn most ms

ended_in : (most n : ℕ) (m : Option Message) (ms : List (ℕ × Message)) → n ≤ most → AreIn most ms → AreIn most (ended n m ++ ms)
ended_in most n None ms le a = a
ended_in most n (Some m) ms le a = (le, a)

messages_in : (n most : ℕ) (s : State) (cs : List (List ℕ)) → n + length (concat cs) ≤ most → AreIn most (messages n s cs)
messages_in n most s [] le = tt
messages_in n most s (c ∷ cs) le =
    let both = length-append c (concat cs) in
    ended_in most (n + length c) (message_of s c) (messages (n + length c) (next s c) cs) (omega (arith, le, both)) (messages_in (n + length c) most (next s c) cs (omega (arith, le, both)))

reads_in : (max : ℕ) (b : List ℕ) (ms : List (ℕ × Message)) (s : State) (r : List ℕ) → Reads max b ms s r → AreIn (length b) ms
reads_in max b ms s r q =
    let le : 0 + length (concat q.chunks) ≤ length b = omega (arith, ap length q.whole, length-append (concat q.chunks) r) in
    subst (λ (l : List (ℕ × Message)). AreIn (length b) l) (sym q.given) (messages_in 0 (length b) fresh_state q.chunks le)

there_in : (most : ℕ) (ms ns : List (ℕ × Message)) (m : ℕ × Message) → AreIn most (ms ++ m ∷ ns) → m.0 ≤ most
there_in most [] ns m a = a.0
there_in most (x ∷ ms) ns m a = there_in most ms ns m a.1

-- of one message that ends later, none is among these
none_of_one : (most : ℕ) (ms a b : List (ℕ × Message)) (x : ℕ × Message) → AreIn most (ms ++ a) → most < x.0 → a ++ b ≡ x ∷ [] → a ≡ []
none_of_one most ms [] b x in_ less e = refl
none_of_one most ms (y ∷ a) b x in_ less e =
    let same : y ≡ x = cc in
    let le : y.0 ≤ most = there_in most ms a y in_ in
    let at : y.0 ≡ x.0 = ap (λ (m : ℕ × Message). m.0) same in
    absurd (omega (arith, le, at, less))

-- where bytes end a message, all but the last read as the messages before it
pub before_last : (max : ℕ) (a c : List ℕ) (ms : List (ℕ × Message)) (m : Message) (s t : State) (q r : List ℕ) → 0 < length c → Reads max a ms s q → Reads max (a ++ c) (ms ++ (length (a ++ c), m) ∷ []) t r
    → IsRead max (take (length (a ++ c) - 1) (a ++ c)) ms
before_last max a c ms m s t q r some x y =
    let b = a ++ c in
    let n = length b - 1 in
    let all = ms ++ (length b, m) ∷ [] in
    let len = length-append a c in
    let p = reads_part max b n all t r y in
    let o = reads_part max (take n b) (length a) p.first p.s p.r p.reads in
    let front : take (length a) (take n b) ≡ a = take-take (length a) n b (omega (arith, len, some)) ∙ take-append-le (length a) a c (omega arith) ∙ take_all (length a) a (omega arith) in
    let old : Reads max a o.first o.s o.r = subst (λ (l : List ℕ). Reads max l o.first o.s o.r) front o.reads in
    let same : ms ≡ o.first = (one_reading max a ms o.first s o.s q o.r x old).messages_same in
    let first : p.first ≡ ms ++ o.later = o.begins ∙ ap (λ (l : List (ℕ × Message)). l ++ o.later) (sym same) in
    let whole : ms ++ (o.later ++ p.later) ≡ all = sym (append_assoc ms o.later p.later) ∙ ap (λ (l : List (ℕ × Message)). l ++ p.later) (sym first) ∙ sym p.begins in
    let rest : o.later ++ p.later ≡ (length b, m) ∷ [] = append_cancel_left ms (o.later ++ p.later) ((length b, m) ∷ []) whole in
    let in_ : AreIn (length (take n b)) (ms ++ o.later) = subst (λ (l : List (ℕ × Message)). AreIn (length (take n b)) l) first (reads_in max (take n b) p.first p.s p.r p.reads) in
    let none : o.later ≡ [] = none_of_one (length (take n b)) ms o.later p.later (length b, m) in_ (omega (arith, length-take n b, len, some)) rest in
    let is : p.first ≡ ms = first ∙ ap (λ (l : List (ℕ × Message)). ms ++ l) none ∙ append-nil ms in
    record { s = p.s; r = p.r; reads = subst (λ (l : List (ℕ × Message)). Reads max (take n b) l p.s p.r) is p.reads }
