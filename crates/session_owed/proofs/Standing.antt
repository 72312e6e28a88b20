-- A session stands for its past after each of its steps
use Rattle.std.proofs.Common.{◌≡◌, ℕ, suc, ◌+◌, ◌-◌, ◌<◌, ◌≤◌, true, List, [], ◌∷◌, ◌++◌, length, refl, sym, ap, ◌∙◌, subst, arith, append_assoc, append-nil, length-append, drop, Option, Some, None}
use Rattle.chunk_wire.specs.declared.message.Message.{Message}
use Rattle.chunk_writer.specs.WriterKnown.{WriterKnown}
use Rattle.chunk_writer.specs.WriterKnown as writer
use Rattle.chunk_writer.specs.Written.{written, after_all}
use Rattle.stream_model.specs.declared.calls.Entry.{Entry}
use Rattle.stream_model.specs.declared.replies.Reply.{Reply}
use Rattle.ack_window.specs.Inbound.{InWindow, ack_of, in_took, room_of}
use Rattle.ack_window.specs.Window.{window_of}
use Rattle.rtmp_handshake.specs.Answer.{answered}
use Rattle.chunk_reader.proofs.Once.{one_reading}
use Rattle.chunk_reader.specs.Reads.{Reads}
use Rattle.chunk_wire.specs.State.{State}
use Rattle.rtmp_handshake.proofs.Whole.{answer_alone, answered_all, answered_not}
use Rattle.session_owed.specs.Dialogue.{Dialogue, Step}
use Rattle.session_owed.specs.Acks.{ack_messages, acks_at, inbound, window_by}
use Rattle.session_owed.specs.Talk.{Own, Talk, walk, talk, hand_bytes, is_take, item_of, says_at, items_at, state_at}
use Rattle.session_owed.specs.Owed.{upto, at_count, talk_at, owed, count_of, out, writer_after}
use Rattle.session_owed.specs.Talks.{Talks, NeverTakes, kept_by, step_of}
use Rattle.session_owed.specs.Standing.{Past, Keeps, Stands, new_past, sent_more, fed_more, with_message, with_call, says_more, took, stepped, answered_so, pending_now, new_keeps}
use Rattle.session_owed.proofs.Windows.{after_more}
use Rattle.session_owed.proofs.Growing.{owed_fed, owed_message, owed_reply, owed_item, talk_message, state_of}
use Rattle.session_owed.proofs.Walking.{walk_stays}
use Rattle.session_owed.proofs.Together.{talks_start, talks_fed, talks_take, talks_reply, talks_message}
use Rattle.chunk_writer.proofs.Going.{after_joined, written_joined}
use Rattle.session_owed.proofs.Writing.{written_none, after_none, out_more, writer_more}

-- the handshake is answered once
pub answered_once : (x q : List ℕ) → hand_bytes ≤ length x → answered (x ++ q) ≡ answered x
answered_once x q h =
    let l = length-append x q in
    answered_all (x ++ q) (omega arith) ∙ answer_alone x q (omega arith) ∙ sym (answered_all x (omega arith))

module _ {S : Type 0} (d : Dialogue S) where
  count_more : (x q : List ℕ) → hand_bytes ≤ length x → count_of d (x ++ q) ≡ count_of d x + length q
  count_more x q h = let l = length-append x q in omega arith

  count_early : (x : List ℕ) → length x ≤ hand_bytes → count_of d x ≡ 0
  count_early x h = omega arith

  owed_start : owed d 0 [] [] ≡ []
  unfolding owed upto at_count talk_at walk acks_at says_at items_at
  owed_start = refl

  owed_early : (x : List ℕ) → length x ≤ hand_bytes → owed d (count_of d x) [] [] ≡ []
  owed_early x h = ap (λ n. owed d n [] []) (count_early x h) ∙ owed_start

  out_early : (x : List ℕ) → length x ≤ hand_bytes → out d x [] [] ≡ answered x
  unfolding out
  out_early x h = ap (λ l. answered x ++ written writer.fresh l) (owed_early x h) ∙ ap (λ l. answered x ++ l) (written_none writer.fresh) ∙ append-nil (answered x)

  writer_early : (x : List ℕ) → length x ≤ hand_bytes → writer_after d x [] [] ≡ writer.fresh
  unfolding writer_after
  writer_early x h = ap (after_all writer.fresh) (owed_early x h) ∙ after_none writer.fresh

  start_state : (talk d [] []).state ≡ d.start
  unfolding walk
  start_state = refl

  pub stands_new : Stands d new_past (new_keeps d)
  stands_new = record {
    early = λ l. record { messages = refl; calls = refl; kept = refl };
    talks = talks_start d;
    owes = sym (out_early [] (omega arith) ∙ answered_not [] (omega arith));
    writer = sym (writer_early [] (omega arith));
    window = refl;
    state = sym start_state;
  }

  -- the first pending bytes were sent
  pub stands_sent : (p : Past) (k : Keeps S) (b rest : List ℕ) → Stands d p k → k.pending ≡ b ++ rest → Stands d (sent_more p b) (pending_now k rest)
  stands_sent p k b rest s e = record {
    early = λ l. let y = s.early l in record { messages = y.messages; calls = y.calls; kept = y.kept };
    talks = s.talks;
    owes = append_assoc p.sent b rest ∙ ap (λ l. p.sent ++ l) (sym e) ∙ s.owes;
    writer = s.writer;
    window = s.window;
    state = s.state;
  }

  -- the first bytes of the handshake
  hand_by : (x q : List ℕ) (sent pending more : List ℕ) (w : WriterKnown) (v : InWindow) (st : S) → length x < hand_bytes → length (x ++ q) ≤ hand_bytes → answered x ++ more ≡ answered (x ++ q)
      → Stands d (record { x = x; ms = []; calls = []; kept = None; sent = sent }) (record { pending = pending; writer = w; window = v; state = st })
      → Stands d (record { x = x ++ q; ms = []; calls = []; kept = None; sent = sent }) (record { pending = pending ++ more; writer = w; window = v; state = st })
  hand_by x q sent pending more w v st h m a s =
      let zx : count_of d x ≡ 0 = count_early x (omega arith) in
      let zy : count_of d (x ++ q) ≡ 0 = count_early (x ++ q) m in
      record {
        early = λ l. record { messages = refl; calls = refl; kept = refl };
        talks = subst (λ n. Talks d n [] [] None) (sym zy) (talks_start d);
        owes = sym (append_assoc sent pending more) ∙ ap (λ l. l ++ more) (s.owes ∙ out_early x (omega arith)) ∙ a ∙ sym (out_early (x ++ q) m);
        writer = s.writer ∙ writer_early x (omega arith) ∙ sym (writer_early (x ++ q) m);
        window = s.window ∙ ap (λ n. inbound d.window n []) (zx ∙ sym zy);
        state = s.state;
      }

  -- BYTES OF CHUNKS THAT END NO MESSAGE
  pub stands_fed : (p : Past) (k : Keeps S) (q : List ℕ) → hand_bytes ≤ length p.x → p.kept ≡ None → length q ≤ room_of k.window → Stands d p k → Stands d (fed_more p q) (took k (length q))
  stands_fed p k q h kn r s =
      let n = count_of d p.x in
      let t : Talks d n p.ms p.calls None = subst (λ e. Talks d n p.ms p.calls e) kn s.talks in
      let c : count_of d (p.x ++ q) ≡ n + length q = count_more p.x q h in
      let a = ack_messages (ack_of (inbound d.window n p.ms) (length q)) in
      let b = ack_messages (ack_of k.window (length q)) in
      let ab : a ≡ b = ap (λ (w : InWindow). ack_messages (ack_of w (length q))) (sym s.window) in
      let room : length q ≤ room_of (inbound d.window n p.ms) = subst (λ (w : InWindow). length q ≤ room_of w) s.window r in
      let o : owed d (count_of d (p.x ++ q)) p.ms p.calls ≡ owed d n p.ms p.calls ++ b =
      ap (λ i. owed d i p.ms p.calls) c ∙ owed_fed d n (length q) p.ms p.calls None t room ∙ ap (λ l. owed d n p.ms p.calls ++ l) ab in
      record {
        early = λ l. let y = length-append p.x q in absurd (omega arith);
        talks = subst (λ i. Talks d i p.ms p.calls p.kept) (sym c) (subst (λ e. Talks d (n + length q) p.ms p.calls e) (sym kn) (talks_fed d n (length q) p.ms p.calls t));
        owes = sym (append_assoc p.sent k.pending (written k.writer b)) ∙ ap (λ l. l ++ written k.writer b) s.owes ∙ ap (λ w. out d p.x p.ms p.calls ++ written w b) s.writer
            ∙ sym (out_more d p.x (p.x ++ q) p.ms p.ms p.calls p.calls b (answered_once p.x q h) o);
        writer = ap (λ w. after_all w b) s.writer ∙ sym (writer_more d p.x (p.x ++ q) p.ms p.ms p.calls p.calls b o);
        window = ap (λ (w : InWindow). in_took w (length q)) s.window ∙ ap (λ i. inbound d.window i p.ms) (sym c);
        state = s.state;
      }

  -- BYTES OF THE HANDSHAKE
  pub stands_hand : (p : Past) (k : Keeps S) (q more : List ℕ) → length p.x < hand_bytes → length (p.x ++ q) ≤ hand_bytes → answered p.x ++ more ≡ answered (p.x ++ q) → Stands d p k
      → Stands d (fed_more p q) (pending_now k (k.pending ++ more))
  stands_hand p k q more h m a s =
      let y = s.early h in
      let z : record { x = p.x; ms = []; calls = []; kept = None; sent = p.sent } ≡ p =
      ap (λ (l : List (ℕ × Message)). record { x = p.x; ms = l; calls = []; kept = None; sent = p.sent }) (sym y.messages)
      ∙ ap (λ (l : List Own). record { x = p.x; ms = p.ms; calls = l; kept = None; sent = p.sent }) (sym y.calls)
      ∙ ap (λ (e : Option Entry). record { x = p.x; ms = p.ms; calls = p.calls; kept = e; sent = p.sent }) (sym y.kept) in
      subst (λ (r : Past). Stands d (fed_more r q) (pending_now k (k.pending ++ more))) z
      (hand_by p.x q p.sent k.pending more k.writer k.window k.state h m a (subst (λ (r : Past). Stands d r k) (sym z) s))

  -- the window after a message, which counts from the next byte on
  window_next : (n o : ℕ) (ms : List (ℕ × Message)) (m : Message) → record { window = window_by (inbound d.window n ms).window m; taken = o } ≡ inbound d.window o (ms ++ (o, m) ∷ [])
  window_next n o ms m = ap (λ (w : ℕ). record { window = w; taken = o }) (sym (after_more (window_of d.window) ms (o, m)))

  -- A MESSAGE ENDS with these bytes
  pub stands_message : (p : Past) (k : Keeps S) (q : List ℕ) (m : Message) → NeverTakes d → hand_bytes ≤ length p.x → p.kept ≡ None → 0 < length q → length q ≤ room_of k.window → Stands d p k
      → Stands d (with_message p q (count_of d (p.x ++ q)) m (kept_by d (count_of d (p.x ++ q)) (d.does k.state m).makes)) (stepped (took k (length q)) m (d.does k.state m))
  stands_message p k q m nt h kn some r s =
      let n = count_of d p.x in
      let o = count_of d (p.x ++ q) in
      let T = talk d p.calls p.ms in
      let t : Talks d n p.ms p.calls None = subst (λ e. Talks d n p.ms p.calls e) kn s.talks in
      let c : o ≡ n + length q = count_more p.x q h in
      let l1 : suc (length q - 1) ≡ length q = omega arith in
      let a = ack_messages (ack_of (inbound d.window n p.ms) (length q)) in
      let b = ack_messages (ack_of k.window (length q)) in
      let ab : a ≡ b = ap (λ (w : InWindow). ack_messages (ack_of w (length q))) (sym s.window) in
      let st : Step S = d.does k.state m in
      let se : step_of d p.calls p.ms m ≡ st = ap (λ v. d.does v m) (sym s.state) in
      let room : length q ≤ room_of (inbound d.window n p.ms) = subst (λ (w : InWindow). length q ≤ room_of w) s.window r in
      let ns = p.ms ++ (o, m) ∷ [] in
      let grows : owed d (n + length q) (p.ms ++ (n + length q, m) ∷ []) p.calls ≡ owed d n p.ms p.calls ++ (a ++ (step_of d p.calls p.ms m).says) =
      subst (λ (i : ℕ). owed d (n + i) (p.ms ++ (n + i, m) ∷ []) p.calls ≡ owed d n p.ms p.calls ++ (ack_messages (ack_of (inbound d.window n p.ms) i) ++ (step_of d p.calls p.ms m).says)) l1
      (owed_message d n (length q - 1) p.ms p.calls m t (omega arith)) in
      let more = b ++ st.says in
      let e : owed d o ns p.calls ≡ owed d n p.ms p.calls ++ more =
      ap (λ (i : ℕ). owed d i (p.ms ++ (i, m) ∷ []) p.calls) c ∙ grows ∙ ap (λ l. owed d n p.ms p.calls ++ (l ++ (step_of d p.calls p.ms m).says)) ab
      ∙ ap (λ (v : Step S). owed d n p.ms p.calls ++ (b ++ v.says)) se in
      let wr : written k.writer b ++ written (after_all k.writer b) st.says ≡ written k.writer more = sym (written_joined k.writer b st.says) in
      record {
        early = λ l. let y = length-append p.x q in absurd (omega arith);
        talks = subst (λ (v : Step S). Talks d o ns p.calls (kept_by d o v.makes)) se (talks_message d n o p.ms p.calls m nt t (omega arith));
        owes = ap (λ l. p.sent ++ l) (append_assoc k.pending (written k.writer b) (written (after_all k.writer b) st.says)) ∙ ap (λ l. p.sent ++ (k.pending ++ l)) wr
            ∙ sym (append_assoc p.sent k.pending (written k.writer more)) ∙ ap (λ l. l ++ written k.writer more) s.owes ∙ ap (λ w. out d p.x p.ms p.calls ++ written w more) s.writer
            ∙ sym (out_more d p.x (p.x ++ q) p.ms ns p.calls p.calls more (answered_once p.x q h) e);
        writer = sym (after_joined k.writer b st.says) ∙ ap (λ w. after_all w more) s.writer ∙ sym (writer_more d p.x (p.x ++ q) p.ms ns p.calls p.calls more e);
        window = ap (λ (w : InWindow). record { window = window_by w.window m; taken = w.taken + length q }) s.window
            ∙ ap (λ (i : ℕ). record { window = window_by (inbound d.window n p.ms).window m; taken = i }) (sym c) ∙ window_next n o p.ms m;
        state = sym (ap (λ (v : Talk S). v.state) (talk_message d n o p.ms p.calls m t (omega arith)) ∙ state_of d o T (step_of d p.calls p.ms m) ∙ ap (λ (v : Step S). v.state) se);
      }

  -- THE REPLY COMES to the call that waits
  pub stands_reply : (p : Past) (k : Keeps S) (e : Entry) (r : Reply) → hand_bytes ≤ length p.x → p.kept ≡ Some e → Stands d p k → Stands d (with_call p e r) (answered_so k (d.told k.state r))
  stands_reply p k e r h kn s =
      let n = count_of d p.x in
      let t : Talks d n p.ms p.calls (Some e) = subst (λ v. Talks d n p.ms p.calls v) kn s.talks in
      let D = p.calls ++ (e, r) ∷ [] in
      let more = (d.told k.state r).says in
      let o : owed d n p.ms D ≡ owed d n p.ms p.calls ++ more = owed_reply d n p.ms p.calls e r t ∙ ap (λ v. owed d n p.ms p.calls ++ (d.told v r).says) (sym s.state) in
      record {
        early = λ l. absurd (omega arith);
        talks = talks_reply d n p.ms p.calls e r t;
        owes = sym (append_assoc p.sent k.pending (written k.writer more)) ∙ ap (λ l. l ++ written k.writer more) s.owes ∙ ap (λ w. out d p.x p.ms p.calls ++ written w more) s.writer
            ∙ sym (out_more d p.x p.x p.ms p.ms p.calls D more refl o);
        writer = ap (λ w. after_all w more) s.writer ∙ sym (writer_more d p.x p.x p.ms p.ms p.calls D more o);
        window = s.window;
        state = ap (λ v. (d.told v r).state) s.state ∙ sym (ap (λ (v : Talk S). v.state) ((t.waits e refl).answer r));
      }

  -- A TAKE IS ANSWERED
  pub stands_take : (p : Past) (k : Keeps S) (e : Entry) (r : Reply) → hand_bytes ≤ length p.x → p.kept ≡ None → e.at ≡ length p.x → is_take e.call ≡ true → d.plays k.state ≡ true → Stands d p k
      → Stands d (with_call p e r) (says_more k (item_of d k.state (e, r)))
  stands_take p k e r h kn a tk pl s =
      let n = count_of d p.x in
      let t : Talks d n p.ms p.calls None = subst (λ v. Talks d n p.ms p.calls v) kn s.talks in
      let D = p.calls ++ (e, r) ∷ [] in
      let c : Own = (e, r) in
      let at : e.at ≡ hand_bytes + n = omega arith in
      let more = item_of d k.state c in
      let u : talk d D p.ms ≡ talk d p.calls p.ms = walk_stays d p.calls c (Rattle.session_owed.specs.Talk.fresh d) p.ms t.stuck in
      let o : owed d n p.ms D ≡ owed d n p.ms p.calls ++ more = owed_item d n p.ms p.calls c t at ∙ ap (λ v. owed d n p.ms p.calls ++ item_of d v c) (sym s.state) in
      record {
        early = λ l. absurd (omega arith);
        talks = talks_take d n p.ms p.calls c t at tk (ap d.plays (sym s.state) ∙ pl);
        owes = sym (append_assoc p.sent k.pending (written k.writer more)) ∙ ap (λ l. l ++ written k.writer more) s.owes ∙ ap (λ w. out d p.x p.ms p.calls ++ written w more) s.writer
            ∙ sym (out_more d p.x p.x p.ms p.ms p.calls D more refl o);
        writer = ap (λ w. after_all w more) s.writer ∙ sym (writer_more d p.x p.x p.ms p.ms p.calls D more o);
        window = s.window;
        state = s.state ∙ sym (ap (λ (v : Talk S). v.state) u);
      }

  -- the messages of the input are one list
  pub out_once : (max : ℕ) (x : List ℕ) (ms ns : List (ℕ × Message)) (s t : State) (q r : List ℕ) (C : List Own)
      → Reads max (drop hand_bytes x) ms s q → Reads max (drop hand_bytes x) ns t r → out d x ms C ≡ out d x ns C
  out_once max x ms ns s t q r C a b = ap (λ l. out d x l C) (one_reading max (drop hand_bytes x) ms ns s t q r a b).messages_same
