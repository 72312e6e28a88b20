-- What each has read, from the bytes that came to it
use Rattle.std.proofs.Common.{◌≡◌, ℕ, ◌+◌, ◌-◌, ◌≤◌, ◌^◌, if◌then◌else◌, List, [], ◌∷◌, ◌++◌, length, map, take, drop, replicate, Option, Some, None, refl, sym, ap, ◌∙◌, subst, arith, append_assoc, length-append}
use Rattle.std.specs.List.{concat}
use Rattle.std.proofs.lemmas.Bool.{le-leb}
use Rattle.std.proofs.lemmas.List.{drop-append-le, length-drop, length-replicate, length-take}
use Rattle.std.proofs.Math.Seq.{drop-append_seam, take-append_seam}
use Rattle.chunk_wire.specs.declared.message.Message.{Message}
use Rattle.chunk_wire.specs.State.{State, fresh_state}
use Rattle.chunk_wire.specs.Chunk.{message_of}
use Rattle.chunk_reader.specs.Control.{next}
use Rattle.chunk_reader.specs.Laws.{ReadsPart}
use Rattle.chunk_reader.specs.Reads.{Reads, ended, messages}
use Rattle.chunk_reader.specs.Sound.{IsRead}
use Rattle.chunk_reader.proofs.Once.{one_reading}
use Rattle.chunk_reader.proofs.Parts.{reads_part}
use Rattle.chunk_writer.specs.WriterKnown.{fresh}
use Rattle.chunk_writer.specs.Written.{written}
use Rattle.chunk_law.specs.ReadBack.{AreReadable, placed}
use Rattle.chunk_law.proofs.Messages.{read_back}
use Rattle.rtmp_handshake.specs.Answer.{answer_of, answered}
use Rattle.rtmp_handshake.proofs.Places.{answer_length}
use Rattle.command_dialog.specs.State as dialog
use Rattle.session_owed.specs.Dialogue.{Dialogue}
use Rattle.session_owed.specs.Owed as session
use Rattle.session_owed.specs.Talk.{Own, hand_bytes}
use Rattle.client_owed.specs.declared.types.Asked.{Asked}
use Rattle.client_owed.specs.declared.types.Gave.{Gave}
use Rattle.client_owed.specs.Owed.{c2, hello, out, owed, s1}
use Rattle.client_law.specs.Laws.{HaveRead, HaveSent}
use Rattle.client_law.specs.Loud.{Rise, bare}
use Rattle.client_law.proofs.Readable.{owed_readable}

-- ---- messages end one after another

rise_lower : (lo lo' hi : ℕ) (ms : List (ℕ × Message)) → lo ≤ lo' → Rise lo' hi ms → Rise lo hi ms
rise_lower lo lo' hi [] l r = r
rise_lower lo lo' hi (m ∷ ms) l r = (omega (arith, l, r.0), r.1, r.2)

rise_ended : (n m hi : ℕ) (o : Option Message) (ms : List (ℕ × Message)) → n ≤ m → m ≤ hi → Rise m hi ms → Rise n hi (ended m o ++ ms)
rise_ended n m hi None ms l u r = rise_lower n m hi ms l r
rise_ended n m hi (Some x) ms l u r = (l, u, r)

concat_length : (c : List ℕ) (cs : List (List ℕ)) → length (concat (c ∷ cs)) ≡ length c + length (concat cs)
concat_length c cs = length-append c (concat cs)

rise_messages : (n hi : ℕ) (s : State) (cs : List (List ℕ)) → n + length (concat cs) ≤ hi → Rise n hi (messages n s cs)
rise_messages n hi s [] l = tt
rise_messages n hi s (c ∷ cs) l =
    rise_ended n (n + length c) hi (message_of s c) (messages (n + length c) (next s c) cs) (omega arith) (omega (arith, l, concat_length c cs)) (rise_messages (n + length c) hi (next s c) cs (omega (arith, l, concat_length c cs)))

pub rise_read : (max : ℕ) (b : List ℕ) (ms : List (ℕ × Message)) (s : State) (r : List ℕ) → Reads max b ms s r → Rise 0 (length b) ms
rise_read max b ms s r q =
    let whole : length b ≡ length (concat q.chunks) + length r = ap length q.whole ∙ length-append (concat q.chunks) r in
    subst (λ (l : List (ℕ × Message)). Rise 0 (length b) l) (sym q.given) (rise_messages 0 (length b) fresh_state q.chunks (omega (arith, whole)))

-- ---- what was written is what is read

bare_map : (ms : List (ℕ × Message)) → bare ms ≡ map (λ p. p.1) ms
unfolding bare
bare_map [] = refl
bare_map (m ∷ ms) = ap (λ l. m.1 ∷ l) (bare_map ms)

bare_joined : (a b : List (ℕ × Message)) → bare (a ++ b) ≡ bare a ++ bare b
unfolding bare
bare_joined [] b = refl
bare_joined (m ∷ a) b = ap (λ l. m.1 ∷ l) (bare_joined a b)

-- all of it
pub read_whole : (max : ℕ) (b : List ℕ) (ms : List (ℕ × Message)) (M : List Message) → IsRead max b ms → b ≡ written fresh M → AreReadable max M → bare ms ≡ M
read_whole max b ms M i e a =
    let near : length (written fresh M) ≤ 2 ^ 62 = subst (λ (l : List ℕ). length l ≤ 2 ^ 62) e i.reads.near in
    let back = read_back max M a near in
    let same = one_reading max b ms (placed 0 fresh M) i.s back.s i.r [] i.reads (subst (λ (l : List ℕ). Reads max l (placed 0 fresh M) back.s []) (sym e) back.reads) in
    ap bare same.messages_same ∙ bare_map (placed 0 fresh M) ∙ back.messages

-- the first of it
pub read_first : (max : ℕ) (b rest : List ℕ) (ms : List (ℕ × Message)) (M : List Message) → IsRead max b ms → b ++ rest ≡ written fresh M → AreReadable max M → length (written fresh M) ≤ 2 ^ 62
    → (later : List Message) × (bare ms ++ later ≡ M)
read_first max b rest ms M i e a near =
    let back = read_back max M a near in
    let part : ReadsPart max (written fresh M) (length b) (placed 0 fresh M) = reads_part max (written fresh M) (length b) (placed 0 fresh M) back.s [] back.reads in
    let front : take (length b) (written fresh M) ≡ b = ap (take (length b)) (sym e) ∙ take-append_seam b rest in
    let same = one_reading max b ms part.first i.s part.s i.r part.r i.reads (subst (λ (l : List ℕ). Reads max l part.first part.s part.r) front part.reads) in
    (bare part.later, ap (λ l. bare l ++ bare part.later) same.messages_same ∙ sym (bare_joined part.first part.later) ∙ ap bare (sym part.begins) ∙ bare_map (placed 0 fresh M) ∙ back.messages)

-- ---- the handshakes

pub hello_length : length hello ≡ 1537
hello_length = omega (arith, length-replicate {A = ℕ} 1536 0)

c2_length : (y : List ℕ) → hand_bytes ≤ length y → length (c2 y) ≡ 1536
c2_length y l =
    let a = length-drop 1 y in
    let b = length-take 1536 (drop 1 y) in
    let c = length-take 4 (s1 y) in
    let e = length-drop 8 (s1 y) in
    length-append (take 4 (s1 y)) (replicate 4 0 ++ drop 8 (s1 y)) ∙ omega (arith, a, b, c, e, l, length-append (replicate 4 0) (drop 8 (s1 y)), length-replicate {A = ℕ} 4 0)

out_greeted : (k : Asked) (y : List ℕ) (ns : List (ℕ × Message)) (T : List Gave) → hand_bytes ≤ length y → out k y ns T ≡ hello ++ (c2 y ++ written fresh (owed k (length y - hand_bytes) ns T))
unfolding out
out_greeted k y ns T l = ap (λ b. hello ++ (if b then c2 y ++ written fresh (owed k (length y - hand_bytes) ns T) else [])) (le-leb hand_bytes (length y) l)

drop_at : (a w : List ℕ) (n : ℕ) → length a ≡ n → drop n (a ++ w) ≡ w
drop_at a w n e = ap (λ (i : ℕ). drop i (a ++ w)) (sym e) ∙ drop-append_seam a w

pub client_chunks : (k : Asked) (x y : List ℕ) (ns : List (ℕ × Message)) (T : List Gave) → hand_bytes ≤ length y → x ≡ out k y ns T → drop hand_bytes x ≡ written fresh (owed k (length y - hand_bytes) ns T)
client_chunks k x y ns T l e =
    let w = written fresh (owed k (length y - hand_bytes) ns T) in
    let front : length (hello ++ c2 y) ≡ hand_bytes = length-append hello (c2 y) ∙ omega (arith, hello_length, c2_length y l) in
    ap (drop hand_bytes) (e ∙ out_greeted k y ns T l ∙ sym (append_assoc hello (c2 y) w)) ∙ drop_at (hello ++ c2 y) w hand_bytes front

client_long : (k : Asked) (x y : List ℕ) (ns : List (ℕ × Message)) (T : List Gave) → hand_bytes ≤ length y → x ≡ out k y ns T → 1537 ≤ length x
client_long k x y ns T l e =
    let w = c2 y ++ written fresh (owed k (length y - hand_bytes) ns T) in
    omega (arith, ap length (e ∙ out_greeted k y ns T l), length-append hello w, hello_length)

pub answered_length : (x : List ℕ) → 1537 ≤ length x → length (answered x) ≡ hand_bytes
unfolding answered
answered_length x l = ap (λ b. length (if b then answer_of x else [])) (le-leb 1537 (length x) l) ∙ answer_length x l

pub session_chunks : (d : Dialogue dialog.State) (x y rest : List ℕ) (ms : List (ℕ × Message)) (C : List Own) → 1537 ≤ length x → hand_bytes ≤ length y → y ++ rest ≡ session.out d x ms C
    → drop hand_bytes y ++ rest ≡ written fresh (session.owed d (session.count_of d x) ms C)
unfolding session.out
session_chunks d x y rest ms C lx ly e =
    sym (drop-append-le hand_bytes y rest ly) ∙ ap (drop hand_bytes) e ∙ drop_at (answered x) (written fresh (session.owed d (session.count_of d x) ms C)) hand_bytes (answered_length x lx)

-- THEY HAVE READ EACH OTHER
pub have_read : (k : Asked) (d : Dialogue dialog.State) (max : ℕ) (x y : List ℕ) (ms ns : List (ℕ × Message)) (T : List Gave) (C : List Own) → HaveSent k d max x y ms ns T C
    → HaveRead k d max (length y - hand_bytes) (session.count_of d x) ns ms T C
have_read k d max x y ms ns T C h =
    let first = read_first max (drop hand_bytes y) h.rest ns (session.owed d (session.count_of d x) ms C) h.client_read (session_chunks d x y h.rest ms C (client_long k x y ns T h.greeted h.sent) h.greeted h.told) h.session_says h.near in
    record {
      named = h.named;
      rise = subst (λ (n : ℕ). Rise 0 n ns) (length-drop hand_bytes y) (rise_read max (drop hand_bytes y) ns h.client_read.s h.client_read.r h.client_read.reads);
      given = h.given;
      heard = read_whole max (drop hand_bytes x) ms (owed k (length y - hand_bytes) ns T) h.session_read (client_chunks k x y ns T h.greeted h.sent) (owed_readable max h.least h.most k h.named (length y - hand_bytes) ns T h.given);
      later = first.0;
      told = first.1;
      made = h.made;
    }
