-- What is written stops no reader, and each message that is read stands among those that were written
use Rattle.std.proofs.Common.{◌≡◌, ℕ, ◌+◌, ◌≤◌, ◌^◌, List, [], ◌∷◌, ◌++◌, length, take, drop, sym, ap, ◌∙◌, refl, subst, arith, append_assoc}
use Rattle.std.proofs.lemmas.List.{length-take, take-append-drop}
use Rattle.chunk_law.proofs.Messages.{read_back}
use Rattle.chunk_law.specs.ReadBack.{AreReadable, placed}
use Rattle.chunk_reader.proofs.Apart.{refused_not_read}
use Rattle.chunk_reader.specs.Reads.{Reads}
use Rattle.chunk_reader.specs.Sound.{IsRead}
use Rattle.chunk_reader.specs.Stops.{Stops}
use Rattle.chunk_reader.specs.declared.fail.ReadCause.{ReadCause}
use Rattle.chunk_wire.specs.State as wire
use Rattle.chunk_wire.specs.declared.message.Message.{Message}
use Rattle.chunk_writer.specs.WriterKnown.{fresh}
use Rattle.chunk_writer.specs.Written.{written}
use Rattle.client_law.proofs.Bytes.{read_first}
use Rattle.client_law.specs.Loud.{bare}
use Rattle.refusal_law.proofs.Cuts.{enough}

pub never_stops : (max : ℕ) (M : List Message) (b rest : List ℕ) (cause : ReadCause) (place : ℕ) → b ++ rest ≡ written fresh M → AreReadable max M
    → length b ≤ 2 ^ 61 → Stops max b cause place → ⊥
never_stops max M b rest cause place e a few st =
    let c = take (place + 1) b in
    let d = drop (place + 1) b in
    let whole : c ++ (d ++ rest) ≡ written fresh M = sym (append_assoc c d rest) ∙ ap (λ (x : List ℕ). x ++ rest) (take-append-drop (place + 1) b) ∙ e in
    let k = enough max fresh M c (d ++ rest) whole a in
    let back = read_back max k.first k.readable (omega (arith, k.few, few, length-take (place + 1) b)) in
    refused_not_read max b k.rest cause place (placed 0 fresh k.first) back.s [] st
    (subst (λ (x : List ℕ). Reads max x (placed 0 fresh k.first) back.s []) (sym k.bytes) back.reads)

-- the messages read begin those that were written
pub begun : (max : ℕ) (M : List Message) (b rest : List ℕ) (ms : List (ℕ × Message)) → b ++ rest ≡ written fresh M → AreReadable max M → length b ≤ 2 ^ 61
    → IsRead max b ms → (later : List Message) × (bare ms ++ later ≡ M)
begun max M b rest ms e a few i =
    let k = enough max fresh M b rest e a in
    let f = read_first max b k.rest ms k.first i k.bytes k.readable (omega (arith, k.few, few)) in
    (f.0 ++ k.later, sym (append_assoc (bare ms) f.0 k.later) ∙ ap (λ (x : List Message). x ++ k.later) f.1 ∙ k.parts)

bare_more : (ms : List (ℕ × Message)) (n : ℕ) (m : Message) → bare (ms ++ (n, m) ∷ []) ≡ bare ms ++ m ∷ []
unfolding bare
bare_more [] n m = refl
bare_more (x ∷ ms) n m = ap (λ (l : List Message). x.1 ∷ l) (bare_more ms n m)

-- and so does the last of them
pub among : (max : ℕ) (M : List Message) (b rest : List ℕ) (ms : List (ℕ × Message)) (n : ℕ) (m : Message) (s : wire.State) (r : List ℕ)
    → b ++ rest ≡ written fresh M → AreReadable max M → length b ≤ 2 ^ 61 → Reads max b (ms ++ (n, m) ∷ []) s r
    → (later : List Message) × (bare ms ++ m ∷ later ≡ M)
among max M b rest ms n m s r e a few reads =
    let f = begun max M b rest (ms ++ (n, m) ∷ []) e a few (record { s = s; r = r; reads = reads }) in
    (f.0, sym (append_assoc (bare ms) (m ∷ []) f.0) ∙ ap (λ (x : List Message). x ++ f.0) (sym (bare_more ms n m)) ∙ f.1)
