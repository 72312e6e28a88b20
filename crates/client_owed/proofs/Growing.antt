-- What a client owes grows by what each step says
use Rattle.std.proofs.Common.{◌≡◌, ℕ, zero, suc, ◌+◌, ◌-◌, ◌<◌, ◌≤◌, ◌⊎◌, inl, inr, List, [], ◌∷◌, ◌++◌, map, refl, sym, ap, ◌∙◌, subst, arith, append_assoc, append-nil, add-zero, add-suc, if◌then◌else◌, Some, None}
use Rattle.std.proofs.lemmas.Bool.{ne_eqb, lt-ltb, eq-eqb}
use Rattle.chunk_wire.specs.declared.message.Message.{Message}
use Rattle.ack_window.specs.Inbound.{ack_of, room_of, number_of}
use Rattle.session_owed.specs.Acks.{acks_at, ack_messages, inbound, window_after, window_at, window_by, window_if}
use Rattle.session_owed.specs.Owed.{upto}
use Rattle.session_owed.specs.Talk.{hand_bytes, said_if, says_at}
use Rattle.session_owed.proofs.Counting.{upto_last, upto_new, says_else, says_here, says_more}
use Rattle.session_owed.proofs.Windows.{acks_same, acks_between, acks_there, inbound_pos, window_before}
use Rattle.client_owed.specs.declared.types.Asked.{Asked}
use Rattle.client_owed.specs.declared.types.Gave.{Gave}
use Rattle.client_owed.specs.declared.types.Phase.{Phase}
use Rattle.client_owed.specs.declared.types.Phase.TheVariants.{Connecting}
use Rattle.client_owed.specs.Client.{does}
use Rattle.client_owed.specs.Growth.{EndBy, GivenBy, Reaches}
use Rattle.client_owed.specs.Owed.{at_count, first_window, gave_on, id_of, owed, phase_after, phase_of, said_after, sent_on}
use Rattle.client_owed.specs.Pulled.{gift_for, pulled_from}

-- ---- the lists grow at their ends

pub phase_more : (k : Asked) (p : Phase) (ms : List (ℕ × Message)) (m : ℕ × Message) → phase_after k p (ms ++ m ∷ []) ≡ (does k (phase_after k p ms) m.1).phase
unfolding phase_after
phase_more k p [] m = refl
phase_more k p (x ∷ ms) m = phase_more k (does k p x.1).phase ms m

pub said_more : (k : Asked) (p : Phase) (ms : List (ℕ × Message)) (m : ℕ × Message) → said_after k p (ms ++ m ∷ []) ≡ said_after k p ms ++ (m.0, (does k (phase_after k p ms) m.1).says) ∷ []
unfolding said_after phase_after
said_more k p [] m = refl
said_more k p (x ∷ ms) m = ap (λ t. (x.0, (does k p x.1).says) ∷ t) (said_more k (does k p x.1).phase ms m)

pub pulled_more : (k : Asked) (p : Phase) (ms : List (ℕ × Message)) (m : ℕ × Message) → pulled_from k p (ms ++ m ∷ []) ≡ pulled_from k p ms ++ gift_for k.wish (phase_after k p ms) m.1
unfolding pulled_from phase_after
pulled_more k p [] m = append-nil (gift_for k.wish p m.1)
pulled_more k p (x ∷ ms) m = ap (λ t. gift_for k.wish p x.1 ++ t) (pulled_more k (does k p x.1).phase ms m) ∙ sym (append_assoc (gift_for k.wish p x.1) (pulled_from k (does k p x.1).phase ms) (gift_for k.wish (phase_after k (does k p x.1).phase ms) m.1))

pub gave_more : (id : ℕ) (T : List Gave) (g : Gave) → map (gave_on id) (T ++ g ∷ []) ≡ map (gave_on id) T ++ gave_on id g ∷ []
gave_more id [] g = refl
gave_more id (h ∷ T) g = ap (λ t. gave_on id h ∷ t) (gave_more id T g)

-- ---- beyond a count nothing is said or given

pub later_window : (w n j : ℕ) (ms : List (ℕ × Message)) → EndBy n ms → n < j → window_at w ms j ≡ window_after w ms
unfolding window_at window_after
later_window w n j [] e l = refl
later_window w n j (m ∷ ms) e l =
    ap (λ b. window_at (window_if b w m.1) ms j) (lt-ltb m.0 j (omega (arith, e.0, l))) ∙ later_window (window_by w m.1) n j ms e.1 l

pub later_says : (k : Asked) (p : Phase) (n j : ℕ) (ms : List (ℕ × Message)) → EndBy n ms → n < j → says_at j (said_after k p ms) ≡ []
unfolding says_at said_after
later_says k p n j [] e l = refl
later_says k p n j (m ∷ ms) e l =
    ap (λ b. said_if b (does k p m.1).says ++ says_at j (said_after k (does k p m.1).phase ms)) (ne_eqb m.0 j (λ q. omega (arith, e.0, l, q))) ∙ later_says k (does k p m.1).phase n j ms e.1 l

pub later_gave : (id n j : ℕ) (T : List Gave) → GivenBy n T → n < j → says_at j (map (gave_on id) T) ≡ []
unfolding says_at
later_gave id n j [] e l = refl
later_gave id n j (g ∷ T) e l =
    ap (λ b. said_if b (sent_on id g.given ∷ []) ++ says_at j (map (gave_on id) T)) (ne_eqb (g.at - hand_bytes) j (λ q. omega (arith, e.0, e.1, l, q))) ∙ later_gave id n j T e.2 l

-- ---- what is owed at a count, by its three parts

parts : (k : Asked) (ms : List (ℕ × Message)) (T : List Gave) (j : ℕ) (a s i : List Message) → acks_at first_window ms j ≡ a → says_at j (said_after k Connecting ms) ≡ s
    → says_at j (map (gave_on (id_of (phase_of k ms))) T) ≡ i → at_count k ms T j ≡ a ++ (s ++ i)
unfolding at_count
parts k ms T j a s i x y z =
    ap (λ w. w ++ (says_at j (said_after k Connecting ms) ++ says_at j (map (gave_on (id_of (phase_of k ms))) T))) x ∙ ap (λ w. a ++ (w ++ says_at j (map (gave_on (id_of (phase_of k ms))) T))) y ∙ ap (λ w. a ++ (s ++ w)) z

quiet_between : (n i j : ℕ) (ms : List (ℕ × Message)) → EndBy n ms → i < room_of (inbound first_window n ms) → n < j → j ≤ n + i → acks_at first_window ms j ≡ []
quiet_between n i j ms e r l u = acks_between first_window (window_after first_window ms) n j ms (later_window first_window n j ms e l) (inbound_pos first_window ms) l (omega (arith, r, l, u))

no_room : (n : ℕ) (ms : List (ℕ × Message)) → ack_messages (ack_of (inbound first_window n ms) 0) ≡ []
no_room n ms = ap (λ b. ack_messages (if◌then◌else◌ b (Some (number_of (n + 0))) None)) (ne_eqb 0 (room_of (inbound first_window n ms)) (λ e. omega (arith, e, inbound_pos first_window ms)))

-- BYTES THAT END NO MESSAGE
pub owed_fed : (k : Asked) (n j : ℕ) (ms : List (ℕ × Message)) (T : List Gave) → Reaches n ms T → j ≤ room_of (inbound first_window n ms)
    → owed k (n + j) ms T ≡ owed k n ms T ++ ack_messages (ack_of (inbound first_window n ms) j)
unfolding owed
owed_fed k n zero ms T t r =
    ap (λ i. owed k i ms T) (add-zero n) ∙ sym (append-nil (owed k n ms T)) ∙ ap (λ w. owed k n ms T ++ w) (sym (no_room n ms))
owed_fed k n (suc i) ms T t r =
    let f = at_count k ms T in
    let a = ack_messages (ack_of (inbound first_window n ms) (suc i)) in
    let o : n + suc i ≡ suc (n + i) = add-suc n i in
    let id = id_of (phase_of k ms) in
    let here : f (n + suc i) ≡ a =
    parts k ms T (n + suc i) a [] [] (acks_there first_window (window_after first_window ms) n i ms (later_window first_window n (n + suc i) ms t.read (omega arith)) (inbound_pos first_window ms) r) (later_says k Connecting n (n + suc i) ms t.read (omega arith)) (later_gave id n (n + suc i) T t.given (omega arith))
    ∙ append-nil a in
    ap (λ w. connect_then k w) (ap (upto f) o ∙ upto_new f f n i a
    (λ j l u. parts k ms T j [] [] [] (quiet_between n i j ms t.read (omega (arith, r)) l u) (later_says k Connecting n j ms t.read l) (later_gave id n j T t.given l))
    (λ j l. refl)
    (subst (λ (q : ℕ). f q ≡ a) o here))
  where
    connect_then : Asked → List Message → List Message
    connect_then k w = Rattle.client_owed.specs.Client.connect k ∷ w

-- the same at a count, where nothing changed for it
at_same : (k : Asked) (ms ns : List (ℕ × Message)) (T U : List Gave) (j : ℕ) → window_at first_window ms j ≡ window_at first_window ns j → says_at j (said_after k Connecting ms) ≡ says_at j (said_after k Connecting ns)
    → says_at j (map (gave_on (id_of (phase_of k ms))) T) ≡ says_at j (map (gave_on (id_of (phase_of k ns))) U) → at_count k ms T j ≡ at_count k ns U j
at_same k ms ns T U j w s i =
    parts k ms T j (acks_at first_window ns j) (says_at j (said_after k Connecting ns)) (says_at j (map (gave_on (id_of (phase_of k ns))) U)) (acks_same first_window ms ns j w) s i
    ∙ sym (parts k ns U j (acks_at first_window ns j) (says_at j (said_after k Connecting ns)) (says_at j (map (gave_on (id_of (phase_of k ns))) U)) refl refl refl)

same_gave : (i j n : ℕ) (T : List Gave) → (T ≡ []) ⊎ (i ≡ j) → says_at n (map (gave_on i) T) ≡ says_at n (map (gave_on j) T)
same_gave i j n T (inl e) = ap (λ u. says_at n (map (gave_on i) u)) e ∙ sym (ap (λ u. says_at n (map (gave_on j) u)) e)
same_gave i j n T (inr e) = ap (λ u. says_at n (map (gave_on u) T)) e

-- A MESSAGE THAT ENDS
pub owed_message : (k : Asked) (n i : ℕ) (ms : List (ℕ × Message)) (T : List Gave) (m : Message) → Reaches n ms T → suc i ≤ room_of (inbound first_window n ms)
    → (T ≡ []) ⊎ (id_of (phase_of k (ms ++ (n + suc i, m) ∷ [])) ≡ id_of (phase_of k ms))
    → owed k (n + suc i) (ms ++ (n + suc i, m) ∷ []) T ≡ owed k n ms T ++ (ack_messages (ack_of (inbound first_window n ms) (suc i)) ++ (does k (phase_of k ms) m).says)
unfolding owed
owed_message k n i ms T m t r d =
    let o = n + suc i in
    let ns = ms ++ (o, m) ∷ [] in
    let b = (does k (phase_of k ms) m).says in
    let a = ack_messages (ack_of (inbound first_window n ms) (suc i)) in
    let e : o ≡ suc (n + i) = add-suc n i in
    let sd : said_after k Connecting ns ≡ said_after k Connecting ms ++ (o, b) ∷ [] = said_more k Connecting ms (o, m) in
    let same : (j : ℕ) → (o ≡ j → ⊥) → says_at j (said_after k Connecting ns) ≡ says_at j (said_after k Connecting ms) = λ j ne. ap (says_at j) sd ∙ says_else j o (said_after k Connecting ms) b ne in
    let id = id_of (phase_of k ns) in
    let f = at_count k ms T in
    let g = at_count k ns T in
    let here : g o ≡ a ++ b =
    parts k ns T o a b []
    (acks_same first_window ns ms o (window_before first_window ms o o m (omega arith)) ∙ acks_there first_window (window_after first_window ms) n i ms (later_window first_window n o ms t.read (omega arith)) (inbound_pos first_window ms) r)
    (ap (says_at o) sd ∙ says_here o (said_after k Connecting ms) b ∙ ap (λ w. w ++ b) (later_says k Connecting n o ms t.read (omega arith)))
    (later_gave id n o T t.given (omega arith)) ∙ ap (λ w. a ++ w) (append-nil b) in
    ap (λ w. Rattle.client_owed.specs.Client.connect k ∷ w) (ap (upto g) e ∙ upto_new f g n i (a ++ b)
    (λ j l u. parts k ns T j [] [] [] (acks_same first_window ns ms j (window_before first_window ms o j m (omega (arith, u))) ∙ quiet_between n i j ms t.read (omega (arith, r)) l u) (same j (λ w. omega (arith, w, u)) ∙ later_says k Connecting n j ms t.read l) (later_gave id n j T t.given l))
    (λ j l. at_same k ns ms T T j (window_before first_window ms o j m (omega (arith, l))) (same j (λ w. omega (arith, w, l))) (same_gave id (id_of (phase_of k ms)) j T d))
    (subst (λ (q : ℕ). g q ≡ a ++ b) e here))

pub owed_some : (k : Asked) (n i : ℕ) (ms : List (ℕ × Message)) (T : List Gave) (m : Message) → Reaches n ms T → 0 < i → i ≤ room_of (inbound first_window n ms)
    → (T ≡ []) ⊎ (id_of (phase_of k (ms ++ (n + i, m) ∷ [])) ≡ id_of (phase_of k ms))
    → owed k (n + i) (ms ++ (n + i, m) ∷ []) T ≡ owed k n ms T ++ (ack_messages (ack_of (inbound first_window n ms) i) ++ (does k (phase_of k ms) m).says)
owed_some k n zero ms T m t l r d = absurd (omega (arith, l))
owed_some k n (suc i) ms T m t l r d = owed_message k n i ms T m t r d

-- WHAT IS GIVEN
pub owed_gave : (k : Asked) (n : ℕ) (ms : List (ℕ × Message)) (T : List Gave) (g : Gave) → Reaches n ms T → g.at ≡ hand_bytes + n
    → owed k n ms (T ++ g ∷ []) ≡ owed k n ms T ++ sent_on (id_of (phase_of k ms)) g.given ∷ []
unfolding owed
owed_gave k n ms T g t h =
    let id = id_of (phase_of k ms) in
    let b = sent_on id g.given ∷ [] in
    let U = T ++ g ∷ [] in
    let p : g.at - hand_bytes ≡ n = omega (arith, h) in
    let there : says_at n (map (gave_on id) U) ≡ says_at n (map (gave_on id) T) ++ b =
    ap (says_at n) (gave_more id T g) ∙ says_more n (map (gave_on id) T) (gave_on id g) ∙ ap (λ c. says_at n (map (gave_on id) T) ++ said_if c b) (eq-eqb (g.at - hand_bytes) n p) in
    let a = acks_at first_window ms n in
    let s = says_at n (said_after k Connecting ms) in
    let i = says_at n (map (gave_on id) T) in
    ap (λ w. Rattle.client_owed.specs.Client.connect k ∷ w) (upto_last (at_count k ms T) (at_count k ms U) n b
    (λ j l. at_same k ms ms U T j refl refl (ap (says_at j) (gave_more id T g) ∙ says_else j (g.at - hand_bytes) (map (gave_on id) T) b (λ q. omega (arith, q, p, l))))
    (parts k ms U n a s (i ++ b) refl refl there ∙ ap (λ w. a ++ w) (sym (append_assoc s i b)) ∙ sym (append_assoc a (s ++ i) b) ∙ ap (λ w. w ++ b) (sym (parts k ms T n a s i refl refl refl))))
