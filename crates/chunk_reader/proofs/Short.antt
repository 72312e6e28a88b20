-- No message is longer than the longest
use Rattle.std.proofs.Common.{◌≡◌, ℕ, ◌+◌, ◌≤◌, Bool, true, false, cond, nat_eq, List, ◌∷◌, [], ◌++◌, length, take, Option, Some, None, refl, sym, ap, ◌∙◌, subst, arith}
use Rattle.std.proofs.lemmas.Bool.Decides.{nat_tests}
use Rattle.chunk_wire.specs.declared.message.Message.{Message}
use Rattle.chunk_wire.specs.State.{State, fresh_state}
use Rattle.chunk_wire.specs.Chunk.{filled, header_size, is_done, message_of, opened}
use Rattle.chunk_reader.specs.Control.{next}
use Rattle.chunk_reader.specs.Feeds.{IsFedTo}
use Rattle.chunk_reader.specs.Laws.{AreShort}
use Rattle.chunk_reader.specs.ReaderKnown.{ReaderKnown}
use Rattle.chunk_reader.specs.Reads.{AreChunks, IsChunkWithin, Reads, ended, messages}
use Rattle.chunk_reader.specs.Sound.{IsRead}

done_case : (t : Bool) (max n : ℕ) (m body : Message) → cond t (Some m) None ≡ Some body → (t ≡ true → length m.body ≤ max) → length body.body ≤ max
done_case true max n m body e le = let same : m ≡ body = cc in subst (λ (x : Message). length x.body ≤ max) same (le refl)
done_case false max n m body e le = absurd (cc)

-- a message that a chunk completes
chunk_short : (max : ℕ) (s : State) (c : List ℕ) (m : Message) → IsChunkWithin max s c → message_of s c ≡ Some m → length m.body ≤ max
unfolding message_of
chunk_short max s c m i e =
    let header : header_size s c ≤ length c = omega (arith, i.chunk.whole) in
    let fits : (opened s c).terms.length ≤ max = i.admitted.length header in
    done_case (is_done s c) max 0 (record { kind = (opened s c).terms.kind; stream = (opened s c).terms.stream; time = (opened s c).terms.time; body = filled s c }) m e (λ t. (grind (arith, nat_tests, t, fits)))

ended_short : (max n : ℕ) (o : Option Message) (ms : List (ℕ × Message)) → ((m : Message) → o ≡ Some m → length m.body ≤ max) → AreShort max ms → AreShort max (ended n o ++ ms)
ended_short max n None ms le a = a
ended_short max n (Some m) ms le a = (le m refl, a)

messages_short : (max n : ℕ) (s : State) (cs : List (List ℕ)) → AreChunks max s cs → AreShort max (messages n s cs)
messages_short max n s [] a = tt
messages_short max n s (c ∷ cs) a = ended_short max (n + length c) (message_of s c) (messages (n + length c) (next s c) cs) (λ m e. chunk_short max s c m a.0 e) (messages_short max (n + length c) (next s c) cs a.1)

pub reads_short : (max : ℕ) (b : List ℕ) (ms : List (ℕ × Message)) (s : State) (r : List ℕ) → Reads max b ms s r → AreShort max ms
reads_short max b ms s r q = subst (λ (l : List (ℕ × Message)). AreShort max l) (sym q.given) (messages_short max 0 fresh_state q.chunks q.are_chunks)

last_short : (max : ℕ) (ms : List (ℕ × Message)) (m : ℕ × Message) → AreShort max (ms ++ m ∷ []) → length m.1.body ≤ max
last_short max [] m a = a.0
last_short max (x ∷ ms) m a = last_short max ms m a.1

-- a message that a feed gives
pub fed_short : (old new : ReaderKnown) (piece : List ℕ) (used : ℕ) (m : Message) → IsFedTo old piece used (Some m) new → length m.body ≤ old.max
fed_short old new piece used m f =
    let r : IsRead old.max (old.fed ++ take used piece) (old.given ++ (length (old.fed ++ take used piece), m) ∷ []) = subst (λ (k : ReaderKnown). IsRead k.max k.fed k.given) f.now f.read in
    last_short old.max old.given (length (old.fed ++ take used piece), m) (reads_short old.max (old.fed ++ take used piece) (old.given ++ (length (old.fed ++ take used piece), m) ∷ []) r.s r.r r.reads)
