-- Why a byte of what the other owes ends a client or a session
use Rattle.std.proofs.Common.{◌≡◌, ◌⊎◌, inl, inr, ℕ, ◌+◌, ◌-◌, ◌<◌, ◌≤◌, ◌^◌, Bool, true, false, ◌==◌, if◌then◌else◌, List, [], ◌∷◌, ◌++◌, length, take}
use Rattle.std.proofs.Common.{drop, Option, Some, None, is_some, refl, sym, ap, ◌∙◌, subst, arith, append_assoc, append-nil, length-append}
use Rattle.std.proofs.lemmas.Bool.{cases_lt, le-leb, lt-leb}
use Rattle.std.proofs.lemmas.List.{drop-append-le, length-drop, length-replicate, length-take, take-append-drop}
use Rattle.ack_window.specs.declared.control.Control.TheVariants.{Acknowledgement}
use Rattle.chunk_law.specs.ReadBack.{AreReadable}
use Rattle.chunk_reader.proofs.Once.{one_reading}
use Rattle.chunk_reader.proofs.Reading.{reads_nothing}
use Rattle.chunk_reader.specs.Reads.{Reads}
use Rattle.chunk_wire.specs.State.{State as WireState, fresh_state}
use Rattle.chunk_wire.specs.declared.message.Message.{Message}
use Rattle.chunk_writer.specs.WriterKnown.{fresh}
use Rattle.chunk_writer.specs.Written.{written}
use Rattle.client_law.proofs.Alike.{said_join}
use Rattle.client_law.proofs.Bytes.{client_chunks, rise_read, session_chunks}
use Rattle.client_law.proofs.Push.{every_front}
use Rattle.client_law.proofs.Push as push
use Rattle.client_law.proofs.Readable.{owed_readable}
use Rattle.client_law.proofs.Louds.{loud_joined, loud_owed}
use Rattle.client_law.proofs.Steps.{url_short}
use Rattle.client_law.specs.Loud.{Every, EverySaid, Rise, asked_by, bare, loud, sents}
use Rattle.client_owed.specs.Client.{create_stream}
use Rattle.client_owed.specs.Owed.{AreGiven, Follow, hello, id_of, owed, phase_of}
use Rattle.client_owed.specs.Owed as client
use Rattle.client_owed.specs.declared.types.Asked.{Asked}
use Rattle.client_owed.specs.declared.types.Gave.{Gave}
use Rattle.client_owed.specs.declared.types.Phase.TheVariants.{Connecting}
use Rattle.client_owed.specs.declared.types.Wish.{Wish}
use Rattle.command_dialog.specs.State.{State}
use Rattle.command_dialog.specs.declared.types.Ask.{Ask}
use Rattle.command_dialog.specs.declared.types.Grant.{Grant}
use Rattle.command_dialog.specs.declared.types.Grant.TheVariants as grant
use Rattle.refusal_law.specs.Refusals.{AreGranted, AreOpened, Begins, ClientWants, HaveTalked, IsRefusal, IsWant, asking_of, role_of}
use Rattle.refusal_law.proofs.Asking.{every_owed}
use Rattle.refusal_law.proofs.Calm.{Calm, Strict, control_calm, control_strict, shows_calm, shows_strict, told_calm}
use Rattle.refusal_law.proofs.Creating.{none_open}
use Rattle.refusal_law.proofs.Granting.{IsOther, Planned, first_granted, given_other, planned_all, planned_front, talk_ends, told_good}
use Rattle.refusal_law.proofs.Heeding.{IsHeeded, SmallFree, ask_heeded, connect_heeded, control_heeded, create_heeds, create_says, given_heeded, not_some}
use Rattle.refusal_law.proofs.Never.{among, begun, never_stops}
use Rattle.relay_session.specs.Decided.{IsDecided}
use Rattle.relay_session.specs.Feeding as session_feeding
use Rattle.relay_session.specs.Session.{does, refused, session, told}
use Rattle.relay_session.specs.declared.end.End.{End}
use Rattle.relay_session.specs.declared.end.End.TheVariants as session_end
use Rattle.rtmp_client.specs.Feeding as client_feeding
use Rattle.rtmp_client.specs.declared.end.ClientEnd.{ClientEnd}
use Rattle.rtmp_client.specs.declared.end.ClientEnd.TheVariants as client_end
use Rattle.rtmp_handshake.specs.Answer.{answer_of, answered, bad_version}
use Rattle.session_owed.specs.Acks.{acks_at}
use Rattle.session_owed.specs.Dialogue.{Dialogue, Step}
use Rattle.session_owed.specs.Owed as owing
use Rattle.session_owed.specs.Talk.{Own, Talk, calling, does_at, goes, hand_bytes, is_take, items_at, one, reply_at, resumed, says_at, started, state_at, talk}
use Rattle.session_owed.specs.Talk.{walk}
use Rattle.session_owed.specs.Talks.{Talks, entries_of}
use Rattle.session_owed.specs.Talk as talking
use Rattle.stream_model.specs.declared.calls.Call.{Call}
use Rattle.stream_model.specs.declared.calls.Entry.{Entry}
use Rattle.stream_model.specs.declared.replies.Reply.{Reply}

-- ---- of bytes

abbrev bad_first : ℕ → Option ℕ
bad_first n = if n == 3 then None else Some n

-- the first byte is 3
three : (b r t : List ℕ) → b ++ r ≡ 3 ∷ t → is_some (bad_version b) ≡ true → ⊥
three [] r t e f = cc
three (x ∷ b) r t e f =
    let g : x ≡ 3 = cc in
    let h : is_some (bad_first 3) ≡ true = subst (λ (n : ℕ). is_some (bad_first n) ≡ true) g f in
    cc

none_first : (b r : List ℕ) → b ++ r ≡ [] → is_some (bad_version b) ≡ true → ⊥
none_first [] r e f = cc
none_first (x ∷ b) r e f = absurd cc

none_within : (n : ℕ) (b : List ℕ) → length b ≤ n → drop n b ≡ []
none_within n b l = by_length (drop n b) (length-drop n b ∙ omega (arith, l))
  where
    by_length : (c : List ℕ) → length c ≡ 0 → c ≡ []
    by_length [] e = refl
    by_length (x ∷ c) e = absurd (omega (arith, e))

none_read : (max : ℕ) (b : List ℕ) (ms : List (ℕ × Message)) (s : WireState) (r : List ℕ) → length b ≤ hand_bytes → Reads max (drop hand_bytes b) ms s r
    → ms ≡ []
none_read max b ms s r l q =
    (one_reading max [] ms [] s fresh_state r [] (subst (λ (c : List ℕ). Reads max c ms s r) (none_within hand_bytes b l) q) (reads_nothing max)).messages_same

some_last : (ms : List (ℕ × Message)) (m : ℕ × Message) → ms ++ m ∷ [] ≡ [] → ⊥
some_last [] m e = cc
some_last (x ∷ ms) m e = cc

-- a message that ends with the last of them ends behind the handshake
greeted : (max : ℕ) (b : List ℕ) (ms : List (ℕ × Message)) (m : ℕ × Message) (s : WireState) (r : List ℕ) → Reads max (drop hand_bytes b) (ms ++ m ∷ []) s r
    → hand_bytes < length b
greeted max b ms m s r q = by_length (cases_lt hand_bytes (length b))
  where
    by_length : (hand_bytes < length b) ⊎ (length b ≤ hand_bytes) → hand_bytes < length b
    by_length (inl l) = l
    by_length (inr l) = absurd (some_last ms m (none_read max b (ms ++ m ∷ []) s r l q))

whole : (b more later rest all : List ℕ) → more ++ later ≡ rest → b ++ rest ≡ all → (b ++ more) ++ later ≡ all
whole b more later rest all e f = append_assoc b more later ∙ ap (λ (x : List ℕ). b ++ x) e ∙ f

front : (n : ℕ) (b later all : List ℕ) → b ++ later ≡ all → take n b ++ (drop n b ++ later) ≡ all
front n b later all e = sym (append_assoc (take n b) (drop n b) later) ∙ ap (λ (x : List ℕ). x ++ later) (take-append-drop n b) ∙ e

-- ---- what a client owes

module _ (k : Asked) (who window max : ℕ) (desk : Ask → Grant) where
  abbrev d : Dialogue State
  d = session who window desk

  hello_most : (b later y : List ℕ) (ns : List (ℕ × Message)) (T : List Gave) → length y < hand_bytes → b ++ later ≡ client.out k y ns T → length b < hand_bytes
  unfolding client.out
  hello_most b later y ns T l e =
      let w = client.c2 y ++ written fresh (owed k (length y - hand_bytes) ns T) in
      let f : b ++ later ≡ hello ++ [] = e ∙ ap (λ (t : Bool). hello ++ (if t then w else [])) (lt-leb hand_bytes (length y) l) in
      omega (arith, ap length f, length-append b later, length-append hello [], length-replicate {A = ℕ} 1536 0)

  -- behind a handshake it has come from the other
  answers : (b later y : List ℕ) (ns : List (ℕ × Message)) (T : List Gave) → hand_bytes ≤ length b → b ++ later ≡ client.out k y ns T → hand_bytes ≤ length y
  answers b later y ns T l e = by_length (cases_lt (length y) hand_bytes)
    where
      by_length : (length y < hand_bytes) ⊎ (hand_bytes ≤ length y) → hand_bytes ≤ length y
      by_length (inl s) = absurd (omega (arith, l, hello_most b later y ns T s e))
      by_length (inr s) = s

  chunks : (b later y : List ℕ) (ns : List (ℕ × Message)) (T : List Gave) → hand_bytes ≤ length b → b ++ later ≡ client.out k y ns T
      → drop hand_bytes b ++ later ≡ written fresh (owed k (length y - hand_bytes) ns T)
  chunks b later y ns T l e = sym (drop-append-le hand_bytes b later l) ∙ client_chunks k (b ++ later) y ns T (answers b later y ns T l e) e

  module _ (x y : List ℕ) (ms ns : List (ℕ × Message)) (T : List Gave) (C : List Own) (h : HaveTalked k d max x y ms ns T C) where
    abbrev n : ℕ
    n = length y - hand_bytes

    abbrev mine : List Message
    mine = owed k n ns T

    readable : AreReadable max mine
    readable = owed_readable max h.least h.most k h.named n ns T h.given

    rise : Rise 0 n ns
    rise = subst (λ (j : ℕ). Rise 0 j ns) (length-drop hand_bytes y) (rise_read max (drop hand_bytes y) ns h.client_read.s h.client_read.r h.client_read.reads)

    -- ---- a session at a message

    abbrev Heeds : Message → Type 0
    Heeds m = (m ≡ create_stream) ⊎ IsHeeded desk m

    heeds : Every Heeds mine
    heeds =
        every_owed Heeds k max (λ c. inr (control_heeded desk c)) (inr (connect_heeded desk k (url_short k h.named))) (inl refl)
        (λ id s. inr (ask_heeded desk k id (omega (arith, h.named.name)))) (λ w id g s m. inr (given_heeded desk w max id g s m)) n ns T h.given

    every_at : (Q : Message → Type 0) (a b : List Message) (m : Message) → Every Q (a ++ m ∷ b) → Q m
    every_at Q [] b m q = q.0
    every_at Q (z ∷ a) b m q = every_at Q a b m q.1

    heeds_one : (at : ℕ) (m : Message) (later : List Message) (e : End) → bare ms ++ m ∷ later ≡ mine → Heeds m
        → refused at (talk d C ms).state m ≡ Some e → IsWant e
    heeds_one at m later e among (inr i) r = i.heeds at (talk d C ms).state e r
    heeds_one at m later e among (inl c) r =
        let ids = none_open desk who window k max n ms ns T C later h.named rise h.given (ap (λ (z : Message). bare ms ++ z ∷ later) (sym c) ∙ among) in
        absurd (not_some e (sym (ap (λ (z : Message). refused at (talk d C ms).state z) c ∙ create_heeds desk at (talk d C ms).state ids) ∙ r))

    message_wants : (b later : List ℕ) (e : End) (heard : session_feeding.Heard) → b ++ later ≡ client.out k y ns T → length b ≤ 2 ^ 61 → heard.given ≡ ms
        → heard.state ≡ (talk d C ms).state → session_feeding.IsRefused max heard b e → IsWant e
    message_wants b later e heard came few given state r =
        let reads : Reads max (drop hand_bytes b) (ms ++ (length (drop hand_bytes b), r.m) ∷ []) r.s r.r =
        subst (λ (l : List (ℕ × Message)). Reads max (drop hand_bytes b) (l ++ (length (drop hand_bytes b), r.m) ∷ []) r.s r.r) given r.reads in
        let l = greeted max b ms (length (drop hand_bytes b), r.m) r.s r.r reads in
        let a = among max mine (drop hand_bytes b) later ms (length (drop hand_bytes b)) r.m r.s r.r (chunks b later y ns T (omega (arith, l)) came) readable
        (omega (arith, few, length-drop hand_bytes b)) reads in
        heeds_one (length b - 1) r.m a.0 e a.1 (every_at Heeds (bare ms) a.0 r.m (subst (Every Heeds) (sym a.1) heeds))
        (subst (λ (s : State). refused (length b - 1) s r.m ≡ Some e) state r.why)

    -- A SESSION ENDS BY NO BYTE of it
    pub session_wants : (at : ℕ) (more : List ℕ) (e : End) → Begins more h.rest → length (x ++ more) ≤ 2 ^ 61
        → IsDecided who window desk ms C max (x ++ more) at e → IsWant e
    unfolding client.out
    session_wants at more e b few i = by_end e i.decides
      where
        came : (x ++ more) ++ b.0 ≡ client.out k y ns T
        came = whole x more b.0 h.rest (client.out k y ns T) b.1 h.sent

        first : (c : End) → session_feeding.IsRefused max i.heard (take (at + 1) (x ++ more)) c → IsWant c
        first c r =
            message_wants (take (at + 1) (x ++ more)) (drop (at + 1) (x ++ more) ++ b.0) c i.heard (front (at + 1) (x ++ more) b.0 (client.out k y ns T) came)
            (omega (arith, few, length-take (at + 1) (x ++ more))) i.given i.state r

        by_end : (c : End) → session_feeding.Decides max i.heard (x ++ more) at c → IsWant c
        by_end session_end.PeerClosed q = q
        by_end session_end.LinkFault q = q
        by_end (session_end.BadVersion p) q = three (x ++ more) b.0 _ came q.2
        by_end (session_end.BadChunk cause p) q =
            never_stops max mine (drop hand_bytes (x ++ more)) b.0 cause (at - hand_bytes)
            (chunks (x ++ more) b.0 y ns T (omega (arith, q.1, q.2.there, length-drop hand_bytes (x ++ more))) came) readable
            (omega (arith, few, length-drop hand_bytes (x ++ more))) q.2
        by_end (session_end.BadControl p) q = first (session_end.BadControl p) q.1
        by_end (session_end.BadCommand p) q = first (session_end.BadCommand p) q.1
        by_end (session_end.TooManyStreams p) q = first (session_end.TooManyStreams p) q.1
        by_end session_end.Quit q = q
        by_end session_end.Worn q = q
        by_end session_end.OutOfMemory q = tt

    -- ---- what a session owes

    module _ (says_readable : AreReadable max (owing.owed d (owing.count_of d x) ms C)) (free : SmallFree desk) where
      abbrev theirs : List Message
      theirs = owing.owed d (owing.count_of d x) ms C

      abbrev Says : Message → Type 0
      Says m = (s : State) → Every Calm (does desk s m).says

      said_goes : (n : ℕ) (t : Talk State) (o : Option Call) → EverySaid Calm t.said → EverySaid Calm (goes d C n t o).said
      said_goes n t None q = q
      said_goes n t (Some c) q = by_reply (reply_at n C)
        where
          by_reply : (o : Option Reply) → EverySaid Calm (resumed d n (calling d n t c) o).said
          by_reply None = q
          by_reply (Some r) = said_join Calm t.said (n, (told t.state r).says) q (told_calm t.state r)

      said_one : (t : Talk State) (m : ℕ × Message) → Says m.1 → EverySaid Calm t.said → EverySaid Calm (one d C t m).said
      unfolding one
      said_one t m s q = by_stuck t.stuck
        where
          v : Step State
          v = does desk t.state m.1

          by_stuck : (b : Bool) → EverySaid Calm (if b then t else does_at d C m.0 t v).said
          by_stuck true = q
          by_stuck false = said_goes m.0 (started d m.0 t v) v.makes (said_join Calm t.said (m.0, v.says) q (s t.state))

      said_walk : (t : Talk State) (l : List (ℕ × Message)) → Every Says (bare l) → EverySaid Calm t.said → EverySaid Calm (walk d C t l).said
      unfolding walk bare
      said_walk t [] s q = q
      said_walk t (m ∷ l) s q = said_walk (one d C t m) l s.1 (said_one t m s.0 q)

      all_say : Every Says mine
      all_say =
          every_owed Says k max (λ c. (control_heeded desk c).says) (connect_heeded desk k (url_short k h.named)).says (create_says desk free)
          (λ id s. (ask_heeded desk k id (omega (arith, h.named.name))).says) (λ w id g s m. (given_heeded desk w max id g s m).says) n ns T h.given

      heard_say : Every Says (bare ms)
      unfolding bare
      heard_say = by_length (cases_lt (length x) hand_bytes)
        where
          by_length : (length x < hand_bytes) ⊎ (hand_bytes ≤ length x) → Every Says (bare ms)
          by_length (inl l) = subst (λ (z : List (ℕ × Message)). Every Says (bare z))
              (sym (none_read max x ms h.session_read.s h.session_read.r (omega (arith, l)) h.session_read.reads)) tt
          by_length (inr l) =
              let g = begun max mine (drop hand_bytes x) h.rest ms (chunks x h.rest y ns T l h.sent) readable
              (omega (arith, h.few, length-drop hand_bytes x)) h.session_read in
              every_front Says (bare ms) g.0 (subst (Every Says) (sym g.1) all_say)

      calm : Every Calm theirs
      calm =
          push.every_owed Calm d (λ j. control_calm (Acknowledgement j)) (λ s i. shows_calm s i) (owing.count_of d x) ms C
          (said_walk (talking.fresh d) ms heard_say tt)

      -- before its input has the handshake a session makes no call
      no_calls : (D : List Own) (kept : Option Entry) → Talks d (owing.count_of d x) ms D kept → ms ≡ [] → D ≡ []
      unfolding walk state_at talking.makes
      no_calls [] kept t e = refl
      no_calls (c ∷ D) kept t e = by_take (is_take c.0.call) refl
        where
          u : Talks d (owing.count_of d x) [] (c ∷ D) kept
          u = subst (λ (l : List (ℕ × Message)). Talks d (owing.count_of d x) l (c ∷ D) kept) e t

          by_take : (b : Bool) → is_take c.0.call ≡ b → c ∷ D ≡ []
          by_take true q = absurd (let f : false ≡ true = u.rise.1 q in cc)
          by_take false q =
              let f : [] ≡ c.0 ∷ (talking.makes D ++ entries_of kept) =
              u.made ∙ ap (λ (t : Bool). (if t then talking.makes D else c.0 ∷ talking.makes D) ++ entries_of kept) q in
              absurd cc

      -- and owes no more than that
      owes_none : (e : Dialogue State) → owing.owed e 0 [] [] ≡ []
      unfolding owing.owed owing.upto owing.at_count owing.talk_at acks_at says_at items_at walk
      owes_none e = refl

      early : length x < hand_bytes → owing.out d x ms C ≡ answered x
      unfolding owing.out written
      early l =
          let none : ms ≡ [] = none_read max x ms h.session_read.s h.session_read.r (omega (arith, l)) h.session_read.reads in
          let count : owing.count_of d x ≡ 0 = omega (arith, l) in
          let says : theirs ≡ [] =
          ap (λ (j : ℕ). owing.owed d j ms C) count ∙ ap (λ (z : List (ℕ × Message)). owing.owed d 0 z C) none
          ∙ ap (λ (z : List Own). owing.owed d 0 [] z) (no_calls C h.kept h.talks none) ∙ owes_none d in
          ap (λ (z : List Message). answered x ++ written fresh z) says ∙ append-nil (answered x)

      answered_most : length (answered x) ≤ hand_bytes
      unfolding answered
      answered_most = by_length (cases_lt (length x) 1537)
        where
          by_length : (length x < 1537) ⊎ (1537 ≤ length x) → length (answered x) ≤ hand_bytes
          by_length (inl l) = omega (arith, ap (λ (t : Bool). length (if t then answer_of x else [])) (lt-leb 1537 (length x) l))
          by_length (inr l) = omega (arith, Rattle.client_law.proofs.Bytes.answered_length x l)

      -- behind the answer to a handshake that has come
      comes : (b later : List ℕ) → hand_bytes < length b → b ++ later ≡ owing.out d x ms C → hand_bytes ≤ length x
      comes b later l e = by_length (cases_lt (length x) hand_bytes)
        where
          by_length : (length x < hand_bytes) ⊎ (hand_bytes ≤ length x) → hand_bytes ≤ length x
          by_length (inl s) = absurd (omega (arith, l, answered_most, ap length (e ∙ early s), length-append b later))
          by_length (inr s) = s

      their_chunks : (b later : List ℕ) → hand_bytes < length b → b ++ later ≡ owing.out d x ms C → drop hand_bytes b ++ later ≡ written fresh theirs
      their_chunks b later l e = session_chunks d x b later ms C (omega (arith, comes b later l e)) (omega (arith, l)) e

      version : (b later : List ℕ) → b ++ later ≡ owing.out d x ms C → is_some (bad_version b) ≡ true → ⊥
      unfolding owing.out answered answer_of
      version b later e f = by_length (cases_lt (length x) 1537)
        where
          by_length : (length x < 1537) ⊎ (1537 ≤ length x) → ⊥
          by_length (inl l) =
              none_first b later (e ∙ early (omega (arith, l)) ∙ ap (λ (t : Bool). if t then answer_of x else []) (lt-leb 1537 (length x) l)) f
          by_length (inr l) = three b later _ (e ∙ ap (λ (t : Bool). (if t then answer_of x else []) ++ written fresh theirs) (le-leb 1537 (length x) l)) f

      message_refuses : (b later : List ℕ) (e : ClientEnd) → b ++ later ≡ owing.out d x ms C → length b ≤ 2 ^ 61 → client_feeding.IsRefused max ns b e
          → IsRefusal e
      message_refuses b later e came few r =
          let l = greeted max b ns (length (drop hand_bytes b), r.m) r.s r.r r.reads in
          let a = among max theirs (drop hand_bytes b) later ns (length (drop hand_bytes b)) r.m r.s r.r (their_chunks b later l came) says_readable
          (omega (arith, few, length-drop hand_bytes b)) r.reads in
          every_at Calm (bare ns) a.0 r.m (subst (Every Calm) (sym a.1) calm) (length b - 1) e r.why

      -- A CLIENT ENDS BY A REFUSAL ALONE
      pub client_refused : (at : ℕ) (more : List ℕ) (e : ClientEnd) → Begins more h.left → length (y ++ more) ≤ 2 ^ 61
          → client_feeding.Decides max ns (y ++ more) at e → IsRefusal e
      client_refused at more e b few i = by_end e i
        where
          came : (y ++ more) ++ b.0 ≡ owing.out d x ms C
          came = whole y more b.0 h.left (owing.out d x ms C) b.1 h.told

          first : (c : ClientEnd) → client_feeding.IsRefused max ns (take (at + 1) (y ++ more)) c → IsRefusal c
          first c r =
              message_refuses (take (at + 1) (y ++ more)) (drop (at + 1) (y ++ more) ++ b.0) c (front (at + 1) (y ++ more) b.0 (owing.out d x ms C) came)
              (omega (arith, few, length-take (at + 1) (y ++ more))) r

          by_end : (c : ClientEnd) → client_feeding.Decides max ns (y ++ more) at c → IsRefusal c
          by_end client_end.PeerClosed q = q
          by_end client_end.LinkFault q = q
          by_end (client_end.BadVersion p) q = version (y ++ more) b.0 came q.2
          by_end (client_end.BadChunk cause p) q =
              never_stops max theirs (drop hand_bytes (y ++ more)) b.0 cause (at - hand_bytes)
              (their_chunks (y ++ more) b.0 (omega (arith, q.1, q.2.there, length-drop hand_bytes (y ++ more))) came) says_readable
              (omega (arith, few, length-drop hand_bytes (y ++ more))) q.2
          by_end (client_end.BadControl p) q = first (client_end.BadControl p) q.1
          by_end (client_end.BadCommand p) q = first (client_end.BadCommand p) q.1
          by_end (client_end.Refused code description) q = tt
          by_end client_end.Done q = q
          by_end client_end.OutOfMemory q = tt

      -- ---- where it grants what its client asks

      module _ (place : ℕ) (grants : desk (asking_of k) ≡ grant.Place place) where
        abbrev Other : Message → Type 0
        Other = IsOther desk k

        follow_others : (w : Wish) (id from to : ℕ) (S : List Gave) → id < 2 ^ 32 → Follow w max from to S → Every Other (sents id S)
        unfolding sents
        follow_others w id from to [] s f = tt
        follow_others w id from to (g ∷ S) s f = (given_other desk k w max id g.given s f.1, follow_others w id g.at to S s f.3)

        gave_others : (id : ℕ) (S : List Gave) → id < 2 ^ 32 → AreGiven k max n ns S → Every Other (sents id S)
        unfolding sents
        gave_others id [] s g = tt
        gave_others id (t ∷ S) s g = follow_others k.wish id _ _ (t ∷ S) s g.2

        planned : Planned desk k false (loud (bare ms))
        unfolding bare loud
        planned = by_length (cases_lt (length x) hand_bytes)
          where
            by_length : (length x < hand_bytes) ⊎ (hand_bytes ≤ length x) → Planned desk k false (loud (bare ms))
            by_length (inl l) =
                subst (λ (z : List (ℕ × Message)). Planned desk k false (loud (bare z)))
                (sym (none_read max x ms h.session_read.s h.session_read.r (omega (arith, l)) h.session_read.reads)) tt
            by_length (inr l) =
                let g = begun max mine (drop hand_bytes x) h.rest ms (chunks x h.rest y ns T l h.sent) readable
                (omega (arith, h.few, length-drop hand_bytes x)) h.session_read in
                let p = phase_of k ns in
                let all : loud (bare ms) ++ loud g.0 ≡ asked_by k p ++ sents (id_of p) T =
                sym (loud_joined (bare ms) g.0) ∙ ap loud g.1 ∙ loud_owed k max n ns T rise h.given in
                planned_front desk k false (loud (bare ms)) (loud g.0) (subst (Planned desk k false) (sym all)
                (planned_all desk k free (url_short k h.named) p (sents (id_of p) T)
                (gave_others (id_of p) T (push.after_small k Connecting ns (omega arith)) h.given)))

        abbrev made_all : List Entry
        made_all = talking.makes C ++ entries_of h.kept

        every_unit : (l : List Message) → Every (λ m. Unit {0}) l
        every_unit [] = tt
        every_unit (m ∷ l) = (tt, every_unit l)

        -- ITS SESSION BEGINS ONE ROLE, by its first call
        pub opened : AreOpened k.wish made_all
        opened =
            subst (AreOpened k.wish) h.talks.made
            (talk_ends desk k who window C made_all place grants (omega (arith, h.named.name)) (λ m. Unit {0}) (λ m s. tt)
            (λ s id j c r more e good q f. every_unit (told s r).says) ms planned h.talks.made).1

        module _ (granted : AreGranted C) where
          strict_said : EverySaid Strict (talk d C ms).said
          strict_said =
              (talk_ends desk k who window C made_all place grants (omega (arith, h.named.name)) Strict (λ m s. s)
              (λ s id j c r more e good q f.
              (told_good s r (role_of k.wish) id e
              (good r (first_granted C (entries_of h.kept) (record { who = who; at = hand_bytes + j; call = c }) more j r (sym f) refl q granted))).0)
              ms planned h.talks.made).0

          strict_owed : Every Strict theirs
          strict_owed = push.every_owed Strict d (λ j. control_strict (Acknowledgement j)) (λ s i. shows_strict s i) (owing.count_of d x) ms C strict_said

          message_not : (b later : List ℕ) (e : ClientEnd) → b ++ later ≡ owing.out d x ms C → length b ≤ 2 ^ 61 → client_feeding.IsRefused max ns b e → ⊥
          message_not b later e came few r =
              let l = greeted max b ns (length (drop hand_bytes b), r.m) r.s r.r r.reads in
              let a = among max theirs (drop hand_bytes b) later ns (length (drop hand_bytes b)) r.m r.s r.r (their_chunks b later l came) says_readable
              (omega (arith, few, length-drop hand_bytes b)) r.reads in
              let none = every_at Strict (bare ns) a.0 r.m (subst (Every Strict) (sym a.1) strict_owed) (length b - 1) in
              absurd (let f : None ≡ Some e = sym none ∙ r.why in cc)

          -- A CLIENT ENDS BY NO BYTE
          pub client_lasts : (at : ℕ) (more : List ℕ) (e : ClientEnd) → Begins more h.left → length (y ++ more) ≤ 2 ^ 61
              → client_feeding.Decides max ns (y ++ more) at e → ClientWants e
          client_lasts at more e b few i = by_end e i
            where
              came : (y ++ more) ++ b.0 ≡ owing.out d x ms C
              came = whole y more b.0 h.left (owing.out d x ms C) b.1 h.told

              refused_not : (c : ClientEnd) → client_feeding.IsRefused max ns (take (at + 1) (y ++ more)) c → ⊥
              refused_not c r =
                  message_not (take (at + 1) (y ++ more)) (drop (at + 1) (y ++ more) ++ b.0) c (front (at + 1) (y ++ more) b.0 (owing.out d x ms C) came)
                  (omega (arith, few, length-take (at + 1) (y ++ more))) r

              by_end : (c : ClientEnd) → client_feeding.Decides max ns (y ++ more) at c → ClientWants c
              by_end client_end.PeerClosed q = q
              by_end client_end.LinkFault q = q
              by_end (client_end.BadVersion p) q = client_refused at more (client_end.BadVersion p) b few q
              by_end (client_end.BadChunk cause p) q = client_refused at more (client_end.BadChunk cause p) b few q
              by_end (client_end.BadControl p) q = refused_not (client_end.BadControl p) q.1
              by_end (client_end.BadCommand p) q = refused_not (client_end.BadCommand p) q.1
              by_end (client_end.Refused code description) q = refused_not (client_end.Refused code description) q
              by_end client_end.Done q = q
              by_end client_end.OutOfMemory q = tt
