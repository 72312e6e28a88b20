-- THE LAW OF PULL, over the bytes that came to each
use Rattle.std.proofs.Common.{◌≡◌, ℕ, ◌-◌, ◌<◌, ◌≤◌, ◌⊎◌, inl, inr, if◌then◌else◌, List, [], ◌∷◌, ◌++◌, length, drop, refl, sym, ap, ◌∙◌, subst, arith, append-nil, length-append}
use Rattle.std.proofs.lemmas.Bool.{cases_lt, lt-leb}
use Rattle.std.proofs.lemmas.List.{drop-append-le, length-drop}
use Rattle.chunk_wire.specs.declared.message.Message.{Message}
use Rattle.chunk_reader.specs.Sound.{IsRead}
use Rattle.chunk_writer.specs.WriterKnown.{fresh}
use Rattle.chunk_writer.specs.Written.{written}
use Rattle.rtmp_handshake.specs.Answer.{answer_of, answered}
use Rattle.command_dialog.specs.State as dialog
use Rattle.command_dialog.specs.declared.types.Ask.{Ask}
use Rattle.command_dialog.specs.declared.types.Grant.{Grant}
use Rattle.session_owed.specs.Acks.{acks_at}
use Rattle.session_owed.specs.Dialogue.{Dialogue}
use Rattle.session_owed.specs.Owed as session
use Rattle.session_owed.specs.Talk.{Own, hand_bytes, items_at, says_at, walk}
use Rattle.relay_session.specs.Session as relay
use Rattle.client_owed.specs.declared.types.Asked.{Asked}
use Rattle.client_owed.specs.declared.types.Gave.{Gave}
use Rattle.client_owed.specs.declared.types.Wish.TheVariants as wish
use Rattle.client_owed.specs.declared.types.Phase.TheVariants.{Connecting}
use Rattle.client_owed.specs.Owed.{owed}
use Rattle.client_owed.specs.Pulled.{pulled}
use Rattle.client_law.specs.Loud.{Rise, bare}
use Rattle.client_law.specs.Pull.{HaveHeard, HavePlayed, IsTold, gifts_of, items_sent}
use Rattle.client_law.proofs.Bytes.{answered_length, client_chunks, read_first, read_whole, rise_read, session_chunks}
use Rattle.client_law.proofs.Pulling.{pull_told}
use Rattle.client_law.proofs.Readable.{owed_readable}
use Rattle.client_law.proofs.Telling.{told_bare, told_from}

-- ---- where nothing has come

pub none_within : (n : ℕ) (b : List ℕ) → length b ≤ n → drop n b ≡ []
none_within n b l = by_length (drop n b) (length-drop n b ∙ omega (arith, l))
  where
    by_length : (c : List ℕ) → length c ≡ 0 → c ≡ []
    by_length [] e = refl
    by_length (x ∷ c) e = absurd (omega (arith, e))

pub bare_none : (ms : List (ℕ × Message)) → bare ms ≡ [] → ms ≡ []
unfolding bare
bare_none [] e = refl
bare_none (m ∷ ms) e = absurd cc

pub read_none : (max : ℕ) (b : List ℕ) (ms : List (ℕ × Message)) → IsRead max b ms → b ≡ [] → bare ms ≡ []
unfolding written
read_none max b ms i e = read_whole max b ms [] i e tt

told_none : (k : Asked) (ns : List (ℕ × Message)) → bare ns ≡ [] → pulled k ns ≡ []
unfolding told_from
told_none k ns e = told_bare k Connecting ns ∙ ap (told_from k Connecting) e

answered_most : (x : List ℕ) → length (answered x) ≤ hand_bytes
unfolding answered
answered_most x = by_length (cases_lt (length x) 1537)
  where
    by_length : (length x < 1537) ⊎ (1537 ≤ length x) → length (answered x) ≤ hand_bytes
    by_length (inl l) = omega (arith, ap (λ b. length (if b then answer_of x else [])) (lt-leb 1537 (length x) l))
    by_length (inr l) = omega (arith, answered_length x l)

owes_none : (d : Dialogue dialog.State) → session.owed d 0 [] [] ≡ []
unfolding session.owed session.upto session.at_count session.talk_at acks_at says_at items_at walk
owes_none d = refl

-- before its input has the handshake a session owes no more than that
early_most : (d : Dialogue dialog.State) (max : ℕ) (x y left : List ℕ) (ms : List (ℕ × Message)) (C : List Own) → length x < hand_bytes → C ≡ [] → IsRead max (drop hand_bytes x) ms → y ++ left ≡ session.out d x ms C → length y ≤ hand_bytes
unfolding session.out written
early_most d max x y left ms C l e i o =
    let none : ms ≡ [] = bare_none ms (read_none max (drop hand_bytes x) ms i (none_within hand_bytes x (omega (arith, l)))) in
    let count : session.count_of d x ≡ 0 = omega (arith, l) in
    let says : session.owed d (session.count_of d x) ms C ≡ [] =
    ap (λ (n : ℕ). session.owed d n ms C) count ∙ ap (λ (l : List (ℕ × Message)). session.owed d 0 l C) none ∙ ap (λ (l : List Own). session.owed d 0 [] l) e ∙ owes_none d in
    let whole : y ++ left ≡ answered x = o ∙ ap (λ (l : List Message). answered x ++ written fresh l) says ∙ append-nil (answered x) in
    omega (arith, length-append y left, ap length whole, answered_most x)

-- THEY HAVE READ EACH OTHER so far
have_heard : (k : Asked) (d : Dialogue dialog.State) (max : ℕ) (x y : List ℕ) (ms ns : List (ℕ × Message)) (T : List Gave) (C : List Own) → HavePlayed k d max x y ms ns T C → hand_bytes ≤ length x → hand_bytes ≤ length y
    → HaveHeard k d max (length y - hand_bytes) (session.count_of d x) ns ms T C
have_heard k d max x y ms ns T C h lx ly =
    let mine = owed k (length y - hand_bytes) ns T in
    let first : drop hand_bytes x ++ h.rest ≡ written fresh mine = sym (drop-append-le hand_bytes x h.rest lx) ∙ client_chunks k (x ++ h.rest) y ns T ly h.sent in
    let a = read_first max (drop hand_bytes x) h.rest ms mine h.session_read first (owed_readable max h.least h.most k h.named (length y - hand_bytes) ns T h.given) h.client_near in
    let b = read_first max (drop hand_bytes y) h.left ns (session.owed d (session.count_of d x) ms C) h.client_read (session_chunks d x y h.left ms C (omega (arith, lx)) ly h.told) h.session_says h.session_near in
    record {
      named = h.named;
      rise = subst (λ (n : ℕ). Rise 0 n ns) (length-drop hand_bytes y) (rise_read max (drop hand_bytes y) ns h.client_read.s h.client_read.r h.client_read.reads);
      rose = subst (λ (n : ℕ). Rise 0 n ms) (length-drop hand_bytes x) (rise_read max (drop hand_bytes x) ms h.session_read.s h.session_read.r h.session_read.reads);
      given = h.given;
      rest = a.0;
      heard = a.1;
      later = b.0;
      told = b.1;
      plays = h.plays;
    }

-- THE LAW
pub pull_bytes : (k : Asked) (who window max : ℕ) (desk : Ask → Grant) (x y : List ℕ) (ms ns : List (ℕ × Message)) (T : List Gave) (C : List Own) → k.wish ≡ wish.Pull → HavePlayed k (relay.session who window desk) max x y ms ns T C → IsTold k ns C
pull_bytes k who window max desk x y ms ns T C p h = by_greeted (cases_lt hand_bytes (length y))
  where
    d : Dialogue dialog.State
    d = relay.session who window desk

    none : drop hand_bytes y ≡ [] → IsTold k ns C
    none e = (gifts_of (items_sent C), ap (λ l. l ++ gifts_of (items_sent C)) (told_none k ns (read_none max (drop hand_bytes y) ns h.client_read e)))

    by_input : (length x < hand_bytes) ⊎ (hand_bytes ≤ length x) → hand_bytes < length y → IsTold k ns C
    by_input (inl l) ly = none (none_within hand_bytes y (early_most d max x y h.left ms C l (h.early l) h.session_read h.told))
    by_input (inr l) ly = pull_told k who window max desk p (length y - hand_bytes) (session.count_of d x) ns ms T C (have_heard k d max x y ms ns T C h l (omega (arith, ly)))

    by_greeted : (hand_bytes < length y) ⊎ (length y ≤ hand_bytes) → IsTold k ns C
    by_greeted (inl l) = by_input (cases_lt (length x) hand_bytes) l
    by_greeted (inr l) = none (none_within hand_bytes y l)
