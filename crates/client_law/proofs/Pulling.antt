-- THE LAW OF PULL, over the messages that a client and a session have read of each other
use Rattle.std.proofs.Common.{◌≡◌, ℕ, ◌+◌, ◌<◌, ◌^◌, List, [], ◌∷◌, ◌++◌, Option, Some, None, refl, sym, ap, ◌∙◌, subst, arith, append_assoc, append-nil}
use Rattle.amf0_value.specs.Pattern.{pattern}
use Rattle.chunk_wire.specs.declared.message.Message.{Message}
use Rattle.ack_window.specs.Window.{window_of}
use Rattle.command_dialog.specs.declared.types.Ask.{Ask}
use Rattle.command_dialog.specs.declared.types.Grant.{Grant}
use Rattle.command_dialog.specs.State.{State}
use Rattle.session_owed.specs.Acks.{acks_at}
use Rattle.session_owed.specs.Dialogue.{Dialogue}
use Rattle.session_owed.specs.Owed.{at_count, talk_at, upto}
use Rattle.session_owed.specs.Owed as owing
use Rattle.session_owed.specs.Talk.{Own, Talk, hand_bytes, items_at, says_at, state_at, talk}
use Rattle.session_owed.proofs.Counting.{upto_same}
use Rattle.relay_session.specs.Session.{session}
use Rattle.client_owed.specs.declared.types.Asked.{Asked}
use Rattle.client_owed.specs.declared.types.Gave.{Gave}
use Rattle.client_owed.specs.declared.types.Given.{Given}
use Rattle.client_owed.specs.declared.types.Given.TheVariants.{Finish, Send}
use Rattle.client_owed.specs.declared.types.Phase.{Phase}
use Rattle.client_owed.specs.declared.types.Phase.TheVariants.{Connecting, Creating, Asking, Started}
use Rattle.client_owed.specs.declared.types.Wish.{Wish}
use Rattle.client_owed.specs.declared.types.Wish.TheVariants as wish
use Rattle.client_owed.specs.Client.{ask, connect, create_stream, delete_stream}
use Rattle.client_owed.specs.Owed.{AreGiven, EndsAt, Follow, MayGive, id_of, phase_of, sent_on}
use Rattle.client_law.specs.Loud.{Rise, asked_by, bare, flat, loud, louds, sents}
use Rattle.client_law.specs.Pull.{HaveHeard, IsTold, gifts_of, items_sent}
use Rattle.client_law.proofs.Answered.{Known}
use Rattle.client_law.proofs.Items.{ArePlays, flat_loud, items_placed, never_sent, placed, placed_before, placed_told, rise_placed}
use Rattle.client_law.proofs.Louds.{acks_quiet, loud_joined, loud_owed, loud_says, loud_upto, start_phase}
use Rattle.client_law.proofs.Push.{after_small, pattern_low}
use Rattle.client_law.proofs.SoFar.{PlaysFrom, SoFar, plays_at}
use Rattle.client_law.proofs.Stages.{not_some, sends_all, walk_found}
use Rattle.client_law.proofs.Steps.{url_short}
use Rattle.client_law.proofs.Telling.{phase_in, told_bare, told_from, told_joined, told_loud, told_started}
use Rattle.client_law.proofs.Uptos.{says_above, upto_says, upto_split}

-- ---- what a client that plays sends begins its four commands

abbrev Begins : List Message → List Message → Type 0
Begins a b = (more : List Message) × (a ++ more ≡ b)

sent_by : (max id : ℕ) (x : Given) (T : List Gave) → MayGive wish.Pull max x → EndsAt x T → Begins (sent_on id x ∷ sents id T) (delete_stream id ∷ [])
unfolding sents
sent_by max id (Send t) T m e = absurd (let f : wish.Pull ≡ wish.Push = m.0 in cc)
sent_by max id Finish T m e = ([], ap (λ (l : List Gave). delete_stream id ∷ (sents id l ++ [])) e)

sent_pull : (w : Wish) (max from to id : ℕ) (T : List Gave) → w ≡ wish.Pull → Follow w max from to T → Begins (sents id T) (delete_stream id ∷ [])
unfolding sents
sent_pull w max from to id [] p f = (delete_stream id ∷ [], refl)
sent_pull w max from to id (g ∷ T) p f = sent_by max id g.given T (subst (λ (v : Wish). MayGive v max g.given) p f.1) f.2

asked_none : (k : Asked) (p : Phase) → Begins (asked_by k p ++ []) (sends_all k (id_of p))
asked_none k Connecting = (create_stream ∷ ask k 0 ∷ delete_stream 0 ∷ [], refl)
asked_none k Creating = (ask k 0 ∷ delete_stream 0 ∷ [], refl)
asked_none k (Asking id) = (delete_stream id ∷ [], refl)
asked_none k (Started id) = (delete_stream id ∷ [], refl)

sends_by : (k : Asked) (max n : ℕ) (ns : List (ℕ × Message)) (T : List Gave) → k.wish ≡ wish.Pull → AreGiven k max n ns T → Begins (asked_by k (phase_of k ns) ++ sents (id_of (phase_of k ns)) T) (sends_all k (id_of (phase_of k ns)))
unfolding sents
sends_by k max n ns [] p g = asked_none k (phase_of k ns)
sends_by k max n ns (t ∷ T) p g =
    let s = start_phase k Connecting g.0 ns g.1 in
    let b = sent_pull k.wish max (hand_bytes + g.0) (hand_bytes + n) s.0 (t ∷ T) p g.2 in
    subst (λ (q : Phase). Begins (asked_by k q ++ sents (id_of q) (t ∷ T)) (sends_all k (id_of q))) (sym s.1) (b.0, ap (λ l. connect k ∷ create_stream ∷ ask k s.0 ∷ l) b.1)

begins_join : (a r b c : List Message) → a ++ r ≡ b → Begins b c → Begins a c
begins_join a r b c e h = (r ++ h.0, sym (append_assoc a r h.0) ∙ ap (λ t. t ++ h.0) e ∙ h.1)

module _ (k : Asked) (who window max : ℕ) (desk : Ask → Grant) (pull : k.wish ≡ wish.Pull) where
  abbrev d : Dialogue State
  d = session who window desk

  sends : (n o : ℕ) (ns ms : List (ℕ × Message)) (T : List Gave) (C : List Own) → HaveHeard k d max n o ns ms T C → Begins (loud (bare ms)) (sends_all k (id_of (phase_of k ns)))
  sends n o ns ms T C h =
      begins_join (loud (bare ms)) (loud h.rest) (asked_by k (phase_of k ns) ++ sents (id_of (phase_of k ns)) T) (sends_all k (id_of (phase_of k ns)))
      (sym (loud_joined (bare ms) h.rest) ∙ ap loud h.heard ∙ loud_owed k max n ns T h.rise h.given) (sends_by k max n ns T pull h.given)

  -- ---- what a session owes, but for control messages

  -- the answers stand before the items
  at_parts : (t : Talk State) (ms : List (ℕ × Message)) (C : List Own) (j : ℕ) → items_at d (state_at j d.start t.states) j C ≡ says_at j (placed C) → loud (at_count d t ms C j) ≡ says_at j (louds t.said) ++ says_at j (louds (placed C))
  unfolding at_count talk_at
  at_parts t ms C j e =
      let a = says_at j t.said in
      let b = items_at d (state_at j d.start t.states) j C in
      loud_joined (acks_at (window_of d.window) ms j) (a ++ b) ∙ ap (λ x. x ++ loud (a ++ b)) (acks_quiet (window_of d.window) ms j) ∙ loud_joined a b ∙ ap (λ x. x ++ loud b) (loud_says j t.said)
      ∙ ap (λ x. says_at j (louds t.said) ++ loud x) e ∙ ap (λ x. says_at j (louds t.said) ++ x) (loud_says j (placed C))

  parts : (o s : ℕ) (ms : List (ℕ × Message)) (C : List Own) (F : List Message) → flat (louds (talk d C ms).said) ≡ F → Rise 0 o (louds (talk d C ms).said) → Rise 0 o (louds (placed C))
      → ((j : ℕ) → items_at d (state_at j d.start (talk d C ms).states) j C ≡ says_at j (placed C)) → ((j : ℕ) → s < j → says_at j (louds (talk d C ms).said) ≡ []) → ((j : ℕ) → j < s → says_at j (louds (placed C)) ≡ [])
      → loud (owing.owed d o ms C) ≡ F ++ loud (flat (placed C))
  unfolding owing.owed
  parts o s ms C F e ra rb i a b =
      let t = talk d C ms in
      let A = louds t.said in
      let B = louds (placed C) in
      loud_upto (at_count d t ms C) o ∙ upto_same (λ j. loud (at_count d t ms C j)) (λ j. says_at j A ++ says_at j B) o (λ j l. at_parts t ms C j (i j))
      ∙ upto_split (λ j. says_at j A) (λ j. says_at j B) s o a b ∙ ap (λ x. x ++ upto (λ j. says_at j B) o) (upto_says 0 o A ra ∙ e) ∙ ap (λ x. F ++ x) (upto_says 0 o B rb ∙ flat_loud (placed C))

  -- ---- what it tells

  abbrev Tells : ℕ → List (ℕ × Message) → List Own → Type 0
  Tells o ms C = told_from k Connecting (loud (owing.owed d o ms C)) ≡ gifts_of (items_sent C)

  -- none plays
  told_never : (o : ℕ) (ms : List (ℕ × Message)) (C : List Own) (F : List Message) → Known k F None → loud (owing.owed d o ms C) ≡ F ++ loud (flat (placed C)) → items_sent C ≡ [] → flat (placed C) ≡ [] → Tells o ms C
  unfolding gifts_of loud
  told_never o ms C F w e none shown = ap (told_from k Connecting) (e ∙ ap (λ x. F ++ loud x) shown ∙ append-nil F) ∙ w ∙ sym (ap gifts_of none)

  -- it plays
  told_playing : (o f : ℕ) (ms : List (ℕ × Message)) (C : List Own) (F : List Message) → Known k F (Some f) → loud (owing.owed d o ms C) ≡ F ++ loud (flat (placed C)) → Tells o ms C
  told_playing o f ms C F w e =
      let l = flat (placed C) in
      ap (told_from k Connecting) e ∙ told_joined k Connecting F (loud l) ∙ ap (λ x. x ++ told_from k (phase_in k Connecting F) (loud l)) w.0 ∙ ap (λ (p : Phase). told_from k p (loud l)) w.1 ∙ told_loud k (Started 1) l
      ∙ told_started k pull 1 l ∙ placed_told C

  tells_by : (o : ℕ) (ms : List (ℕ × Message)) (C : List Own) (F : List Message) (f : Option ℕ) → Known k F f → SoFar F f o (talk d C ms).said (talk d C ms).states (talk d C ms).state
      → ArePlays (λ j. state_at j d.start (talk d C ms).states) hand_bytes (hand_bytes + o) C → Tells o ms C
  unfolding loud
  tells_by o ms C F None w s p =
      let t = talk d C ms in
      let start : PlaysFrom None 0 d.start = not_some in
      let none = never_sent d.start t.states hand_bytes (hand_bytes + o) C start s.states_play p in
      told_never o ms C F w (parts o o ms C F s.answers s.rise (rise_placed (λ j. state_at j d.start t.states) 0 o hand_bytes (hand_bytes + o) C (omega arith) (omega arith) p)
      (λ j. items_placed desk who window None d.start t.states j hand_bytes (hand_bytes + o) C start (λ n. plays_at None n d.start t.states start s.states_play) (omega arith) p)
      (λ j l. says_above 0 o j (louds t.said) s.rise l)
      (λ j l. sym (loud_says j (placed C)) ∙ ap loud (placed_before o j d.start t.states hand_bytes (hand_bytes + o) C (λ n q. absurd (plays_at None n d.start t.states start s.states_play q)) l p))) none.0 none.1
  tells_by o ms C F (Some f) w s p =
      let t = talk d C ms in
      let start : (n : ℕ) → PlaysFrom (Some f) n d.start = λ n q. absurd (not_some q) in
      told_playing o f ms C F w (parts o f ms C F s.answers s.rise (rise_placed (λ j. state_at j d.start t.states) 0 o hand_bytes (hand_bytes + o) C (omega arith) (omega arith) p)
      (λ j. items_placed desk who window (Some f) d.start t.states j hand_bytes (hand_bytes + o) C (start 0) (λ n. plays_at (Some f) n d.start t.states (start n) s.states_play) (omega arith) p)
      s.ceases
      (λ j l. sym (loud_says j (placed C)) ∙ ap loud (placed_before f j d.start t.states hand_bytes (hand_bytes + o) C (λ n. plays_at (Some f) n d.start t.states (start n) s.states_play) l p)))

  -- THE LAW
  pub pull_told : (n o : ℕ) (ns ms : List (ℕ × Message)) (T : List Gave) (C : List Own) → HaveHeard k d max n o ns ms T C → IsTold k ns C
  pull_told n o ns ms T C h =
      let id = id_of (phase_of k ns) in
      let small = after_small k Connecting ns (omega arith) in
      let low : pattern id < 2 ^ 64 = pattern_low id (omega (arith, small)) in
      let b = sends n o ns ms T C h in
      let f = walk_found desk who window k C id (url_short k h.named) (omega (arith, h.named.name)) low pull o ms h.rose b.0 b.1 in
      let later = told_from k (phase_in k Connecting (bare ns)) h.later in (
        later,
        ap (λ x. x ++ later) (told_bare k Connecting ns) ∙ sym (told_joined k Connecting (bare ns) h.later) ∙ ap (told_from k Connecting) h.told ∙ sym (told_loud k Connecting (owing.owed d o ms C))
            ∙ tells_by o ms C f.answers f.from f.known f.now h.plays,
      )
