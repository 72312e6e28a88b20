-- THE LAW OF PUSH, of a push in progress
use Rattle.std.proofs.Common.{◌≡◌, ℕ, ◌<◌, ◌≤◌, ◌^◌, ◌-◌, ◌+◌, ◌⊎◌, inl, inr, List, [], ◌∷◌, ◌++◌, length, drop, if◌then◌else◌, refl, sym, ap, ◌∙◌, subst, arith, append-nil, append_assoc, length-append}
use Rattle.std.proofs.lemmas.Bool.{cases_lt, lt-leb}
use Rattle.std.proofs.lemmas.List.{drop-append-le, length-drop}
use Rattle.av_unit.specs.Media.{Media}
use Rattle.amf0_value.specs.Pattern.{pattern}
use Rattle.chunk_wire.specs.declared.message.Message.{Message}
use Rattle.chunk_writer.specs.WriterKnown.{fresh}
use Rattle.chunk_writer.specs.Written.{written}
use Rattle.command_dialog.specs.declared.types.Ask.{Ask}
use Rattle.command_dialog.specs.declared.types.Grant.{Grant}
use Rattle.command_dialog.specs.State.{State}
use Rattle.session_owed.specs.Acks.{ack_message}
use Rattle.session_owed.specs.Dialogue.{Dialogue}
use Rattle.session_owed.specs.Owed as owing
use Rattle.session_owed.specs.Published.{published, pushed}
use Rattle.session_owed.specs.Talk.{Own, hand_bytes, talk}
use Rattle.session_owed.specs.Talk as talking
use Rattle.relay_session.specs.Session.{session}
use Rattle.client_owed.specs.declared.types.Wish.TheVariants as wish
use Rattle.client_owed.specs.declared.types.Asked.{Asked}
use Rattle.client_owed.specs.declared.types.Gave.{Gave}
use Rattle.client_owed.specs.declared.types.Given.{Given}
use Rattle.client_owed.specs.declared.types.Given.TheVariants.{Finish, Send}
use Rattle.client_owed.specs.declared.types.Phase.{Phase}
use Rattle.client_owed.specs.declared.types.Phase.TheVariants.{Connecting, Creating, Asking, Started}
use Rattle.client_owed.specs.declared.types.Wish.{Wish}
use Rattle.client_owed.specs.Client.{ask, connect, create_stream}
use Rattle.client_owed.specs.Owed.{EndsAt, Follow, hello, id_of, out, owed, phase_of}
use Rattle.client_law.specs.Laws.{Begins, HaveBegun, HaveCome, IsPublished}
use Rattle.client_law.specs.Loud.{Every, Rise, asked_by, bare, listed, loud, loud_placed, sents, size_after, tag_unit, units, units_from}
use Rattle.client_law.proofs.Alike.{Alike, alike_walk, bare_loud}
use Rattle.client_law.proofs.Bytes.{client_chunks, read_first, rise_read, session_chunks}
use Rattle.client_law.proofs.Louds.{loud_joined, loud_owed, start_phase}
use Rattle.client_law.proofs.Push.{after_small, every_front, every_owed, pattern_low, shows_stays}
use Rattle.client_law.proofs.PullBytes.{bare_none, none_within, read_none}
use Rattle.client_law.proofs.Readable.{owed_readable}
use Rattle.client_law.proofs.Starts.{IsBefore, NoStart, before_after, connected_stays, created_stays, other_stays, pong_stays, refused_stays}
use Rattle.client_law.proofs.Steps.{url_short}
use Rattle.client_law.proofs.Walks.{Outcome, commands_none, heads, never, push_walk}

-- ---- the first of what was given

-- what was given, in two parts, of which the first are these messages
record Split (id : ℕ) (T : List Gave) (L : List (ℕ × Message)) : Type 0 where
  first : List Gave
  later : List Gave
  parts : T ≡ first ++ later
  are : bare L ≡ sents id first

sents_split : (id : ℕ) (T : List Gave) (L : List (ℕ × Message)) (more : List Message) → bare L ++ more ≡ sents id T → Split id T L
unfolding bare sents
sents_split id T [] more e = record { first = []; later = T; parts = refl; are = refl }
sents_split id [] (l ∷ L) more e = absurd (never l.1 (bare L ++ more) e)
sents_split id (g ∷ T) (l ∷ L) more e =
    let h = heads l.1 (Rattle.client_owed.specs.Owed.sent_on id g.given) (bare L ++ more) (sents id T) e in
    let s = sents_split id T L more h.1 in
    record {
      first = g ∷ s.first;
      later = s.later;
      parts = ap (λ (x : List Gave). g ∷ x) s.parts;
      are = ap (λ (x : Message). x ∷ bare L) h.0 ∙ ap (λ (x : List Message). Rattle.client_owed.specs.Owed.sent_on id g.given ∷ x) s.are;
    }

ends_front : (x : Given) (T U : List Gave) → EndsAt x (T ++ U) → EndsAt x T
ends_front (Send t) T U e = tt
ends_front Finish [] U e = refl
ends_front Finish (g ∷ T) U e = absurd (cc)

follow_within : (w : Wish) (max from to : ℕ) (T : List Gave) → Follow w max from to T → from ≤ to
follow_within w max from to [] f = f
follow_within w max from to (g ∷ T) f = omega (arith, f.0, follow_within w max g.at to T f.3)

follow_front : (w : Wish) (max from to : ℕ) (T U : List Gave) → Follow w max from to (T ++ U) → Follow w max from to T
follow_front w max from to [] U f = follow_within w max from to U f
follow_front w max from to (g ∷ T) U f = (f.0, f.1, ends_front g.given T U f.2, follow_front w max g.at to T U f.3)

-- ---- units

units_join : (size : ℕ) (T U : List Gave) → Begins (units_from size T) (units_from size (T ++ U))
unfolding units_from
units_join size [] U = (units_from size U, refl)
units_join size (g ∷ T) U =
    let m = tag_unit size g.given in
    let r = units_join (size_after m size) T U in
    (r.0, append_assoc (listed m) (units_from (size_after m size) T) r.0 ∙ ap (λ (l : List Media). listed m ++ l) r.1)

begins_then : (a b c : List Media) → Begins a b → Begins b c → Begins a c
begins_then a b c x y = (x.0 ++ y.0, sym (append_assoc a x.0 y.0) ∙ ap (λ (l : List Media). l ++ y.0) x.1 ∙ y.1)

none_begins : (a b : List Media) → a ≡ [] → Begins a b
none_begins a b e = (b, ap (λ (l : List Media). l ++ b) e)

-- ---- the commands, and what stands behind them

-- all three were heard
record ThreeAnd (k : Asked) (id : ℕ) (L : List (ℕ × Message)) (more Z : List Message) : Type 0 where
  rest : List (ℕ × Message)
  front : bare L ≡ connect k ∷ create_stream ∷ ask k id ∷ bare rest
  left : bare rest ++ more ≡ Z

-- or no more than these
abbrev Few : Asked → ℕ → List (ℕ × Message) → Type 0
Few k id L = (x : List Message) × (bare L ++ x ≡ connect k ∷ create_stream ∷ ask k id ∷ [])

few_or_more : (k : Asked) (id : ℕ) (L : List (ℕ × Message)) (more Z : List Message) → bare L ++ more ≡ connect k ∷ create_stream ∷ ask k id ∷ Z → Few k id L ⊎ ThreeAnd k id L more Z
unfolding bare
few_or_more k id [] more Z e = inl (connect k ∷ create_stream ∷ ask k id ∷ [], refl)
few_or_more k id (a ∷ []) more Z e =
    let h = heads a.1 (connect k) more (create_stream ∷ ask k id ∷ Z) e in
    inl (create_stream ∷ ask k id ∷ [], ap (λ (x : Message). x ∷ create_stream ∷ ask k id ∷ []) h.0)
few_or_more k id (a ∷ b ∷ []) more Z e =
    let h = heads a.1 (connect k) (b.1 ∷ more) (create_stream ∷ ask k id ∷ Z) e in
    let i = heads b.1 create_stream more (ask k id ∷ Z) h.1 in
    inl (ask k id ∷ [], ap (λ (x : Message). x ∷ b.1 ∷ ask k id ∷ []) h.0 ∙ ap (λ (x : Message). connect k ∷ x ∷ ask k id ∷ []) i.0)
few_or_more k id (a ∷ b ∷ c ∷ R) more Z e =
    let h = heads a.1 (connect k) (b.1 ∷ c.1 ∷ (bare R ++ more)) (create_stream ∷ ask k id ∷ Z) e in
    let i = heads b.1 create_stream (c.1 ∷ (bare R ++ more)) (ask k id ∷ Z) h.1 in
    let j = heads c.1 (ask k id) (bare R ++ more) Z i.1 in
    inr (record {
      rest = R;
      front = ap (λ (x : Message). x ∷ b.1 ∷ c.1 ∷ bare R) h.0 ∙ ap (λ (x : Message). connect k ∷ x ∷ c.1 ∷ bare R) i.0 ∙ ap (λ (x : Message). connect k ∷ create_stream ∷ x ∷ bare R) j.0;
      left = j.1;
    })

-- a client that was given nothing owes no more than the three
asked_few : (k : Asked) (p : Phase) (L : List (ℕ × Message)) (more : List Message) → bare L ++ more ≡ asked_by k p ++ [] → (id : ℕ) × Few k id L
asked_few k Connecting L more e =
    (0, (more ++ create_stream ∷ ask k 0 ∷ [], sym (append_assoc (bare L) more (create_stream ∷ ask k 0 ∷ [])) ∙ ap (λ (x : List Message). x ++ create_stream ∷ ask k 0 ∷ []) e))
asked_few k Creating L more e = (0, (more ++ ask k 0 ∷ [], sym (append_assoc (bare L) more (ask k 0 ∷ [])) ∙ ap (λ (x : List Message). x ++ ask k 0 ∷ []) e))
asked_few k (Asking id) L more e = (id, (more, e))
asked_few k (Started id) L more e = (id, (more, e))

-- ---- the law

module _ (k : Asked) (who window max : ℕ) (desk : Ask → Grant) (push : k.wish ≡ wish.Push) where
  abbrev d : Dialogue State
  d = session who window desk

  abbrev Q : Message → Type 0
  Q = NoStart k

  both : (C : List Own) (ms : List (ℕ × Message)) → Alike Q desk (pong_stays k) (talk d C ms) (talk d C (loud_placed ms))
  both C ms = alike_walk Q desk (pong_stays k) who window C (talking.fresh d) (talking.fresh d) ms (record { state = refl; made = refl; stuck = refl; said = λ h. h })

  loud_so : (n o : ℕ) (ns ms : List (ℕ × Message)) (T : List Gave) (C : List Own) → (h : HaveBegun k d max n o ns ms T C) → bare (loud_placed ms) ++ loud h.rest ≡ asked_by k (phase_of k ns) ++ sents (id_of (phase_of k ns)) T
  loud_so n o ns ms T C h = ap (λ (l : List Message). l ++ loud h.rest) (bare_loud ms) ∙ sym (loud_joined (bare ms) h.rest) ∙ ap loud h.heard ∙ loud_owed k max n ns T h.rise h.given

  few_so : (n o id : ℕ) (ns ms : List (ℕ × Message)) (T : List Gave) (C : List Own) → HaveBegun k d max n o ns ms T C → Few k id (loud_placed ms) → IsPublished d ms T C
  few_so n o id ns ms T C h f =
      none_begins (published d ms C) (units T)
      (ap pushed (both C ms).made ∙ commands_none Q desk who window k id C (loud_placed ms) f.0 (url_short k h.named) (omega (arith, h.named.name)) push f.1)

  -- a client that has started was told so
  started_so : (n o id : ℕ) (ns ms : List (ℕ × Message)) (T U : List Gave) (C : List Own) → HaveBegun k d max n o ns ms T C → phase_of k ns ≡ Started id → Outcome Q desk who window id U (talk d C (loud_placed ms)) → Begins (units U) (units T)
      → IsPublished d ms T C
  started_so n o id ns ms T U C h e (inl silent) b =
      let all : Every Q (owing.owed d o ms C) = every_owed Q d (λ j. other_stays k (ack_message j) refl) (λ s i. shows_stays k s i push) o ms C ((both C ms).said silent) in
      let mine : Every Q (bare ns) = every_front Q (bare ns) h.later (subst (Every Q) (sym h.told) all) in
      absurd (subst IsBefore e (before_after k Connecting ns tt mine))
  started_so n o id ns ms T U C h e (inr done) b =
      begins_then (published d ms C) (units U) (units T) (subst (λ (l : List Media). Begins l (units U)) (sym (ap pushed (both C ms).made)) done.2) b

  some_so : (n o : ℕ) (ns ms : List (ℕ × Message)) (g : Gave) (T : List Gave) (C : List Own) → HaveBegun k d max n o ns ms (g ∷ T) C → IsPublished d ms (g ∷ T) C
  some_so n o ns ms g T C h = by_heard (few_or_more k s.0 L (loud h.rest) (sents s.0 (g ∷ T)) (loud_so n o ns ms (g ∷ T) C h ∙ ap (λ (p : Phase). asked_by k p ++ sents (id_of p) (g ∷ T)) s.1))
    where
      L : List (ℕ × Message)
      L = loud_placed ms

      s : (id : ℕ) × (phase_of k ns ≡ Started id)
      s = start_phase k Connecting h.given.0 ns h.given.1

      low : pattern s.0 < 2 ^ 64
      low = pattern_low s.0 (omega (arith, subst (λ (p : Phase). id_of p < 2 ^ 32) s.1 (after_small k Connecting ns (omega arith))))

      by_heard : (Few k s.0 L ⊎ ThreeAnd k s.0 L (loud h.rest) (sents s.0 (g ∷ T))) → IsPublished d ms (g ∷ T) C
      by_heard (inl f) = few_so n o s.0 ns ms (g ∷ T) C h f
      by_heard (inr t) =
          let p = sents_split s.0 (g ∷ T) t.rest (loud h.rest) t.left in
          let follow : Follow k.wish max (hand_bytes + h.given.0) (hand_bytes + n) p.first =
          follow_front k.wish max (hand_bytes + h.given.0) (hand_bytes + n) p.first p.later (subst (Follow k.wish max (hand_bytes + h.given.0) (hand_bytes + n)) p.parts h.given.2) in
          started_so n o s.0 ns ms (g ∷ T) p.first C h s.1
          (push_walk Q desk who window (connected_stays k window) (created_stays k) (λ w. refused_stays k 1 w) k max (hand_bytes + h.given.0) (hand_bytes + n) s.0 C p.first L (url_short k h.named) (omega (arith, h.named.name)) low push follow
          (t.front ∙ ap (λ (l : List Message). connect k ∷ create_stream ∷ ask k s.0 ∷ l) p.are))
          (subst (λ (l : List Gave). Begins (units p.first) (units l)) (sym p.parts) (units_join 0 p.first p.later))

  -- THE LAW
  pub push_begun : (n o : ℕ) (ns ms : List (ℕ × Message)) (T : List Gave) (C : List Own) → HaveBegun k d max n o ns ms T C → IsPublished d ms T C
  unfolding sents
  push_begun n o ns ms [] C h =
      let f = asked_few k (phase_of k ns) (loud_placed ms) (loud h.rest) (loud_so n o ns ms [] C h) in
      few_so n o f.0 ns ms [] C h f.1
  push_begun n o ns ms (g ∷ T) C h = some_so n o ns ms g T C h

  -- ---- over bytes

  nothing_published : (C : List Own) → published d [] C ≡ []
  unfolding pushed talking.walk
  nothing_published C = refl

  -- a client that wasn't greeted has sent no more than its own handshake
  hello_most : (x y rest : List ℕ) (ns : List (ℕ × Message)) (T : List Gave) → x ++ rest ≡ out k y ns T → hand_bytes ≤ length x → hand_bytes ≤ length y
  unfolding out
  hello_most x y rest ns T e l = by_length (cases_lt (length y) hand_bytes)
    where
      by_length : (length y < hand_bytes) ⊎ (hand_bytes ≤ length y) → hand_bytes ≤ length y
      by_length (inr m) = m
      by_length (inl m) =
          let whole : x ++ rest ≡ hello = e ∙ ap (λ b. hello ++ (if b then Rattle.client_owed.specs.Owed.c2 y ++ written fresh (owed k (length y - hand_bytes) ns T) else [])) (lt-leb hand_bytes (length y) m) ∙ append-nil hello in
          absurd (omega (arith, l, length-append x rest, ap length whole, Rattle.client_law.proofs.Bytes.hello_length))

  have_begun : (x y : List ℕ) (ms ns : List (ℕ × Message)) (T : List Gave) (C : List Own) → HaveCome k d max x y ms ns T C → hand_bytes ≤ length x → hand_bytes ≤ length y
      → HaveBegun k d max (length y - hand_bytes) (owing.count_of d x) ns ms T C
  have_begun x y ms ns T C h lx ly =
      let mine = owed k (length y - hand_bytes) ns T in
      let first : drop hand_bytes x ++ h.rest ≡ written fresh mine = sym (drop-append-le hand_bytes x h.rest lx) ∙ client_chunks k (x ++ h.rest) y ns T ly h.sent in
      let a = read_first max (drop hand_bytes x) h.rest ms mine h.session_read first (owed_readable max h.least h.most k h.named (length y - hand_bytes) ns T h.given) h.client_near in
      let b = read_first max (drop hand_bytes y) h.left ns (owing.owed d (owing.count_of d x) ms C) h.client_read (session_chunks d x y h.left ms C (omega (arith, lx)) ly h.told) h.session_says h.session_near in
      record {
        named = h.named;
        rise = subst (λ (n : ℕ). Rise 0 n ns) (length-drop hand_bytes y) (rise_read max (drop hand_bytes y) ns h.client_read.s h.client_read.r h.client_read.reads);
        given = h.given;
        rest = a.0;
        heard = a.1;
        later = b.0;
        told = b.1;
      }

  pub push_come : (x y : List ℕ) (ms ns : List (ℕ × Message)) (T : List Gave) (C : List Own) → HaveCome k d max x y ms ns T C → IsPublished d ms T C
  push_come x y ms ns T C h = by_length (cases_lt (length x) hand_bytes)
    where
      by_length : (length x < hand_bytes) ⊎ (hand_bytes ≤ length x) → IsPublished d ms T C
      by_length (inl l) =
          let none : ms ≡ [] = bare_none ms (read_none max (drop hand_bytes x) ms h.session_read (none_within hand_bytes x (omega (arith, l)))) in
          none_begins (published d ms C) (units T) (ap (λ (m : List (ℕ × Message)). published d m C) none ∙ nothing_published C)
      by_length (inr l) = push_begun (length y - hand_bytes) (owing.count_of d x) ns ms T C (have_begun x y ms ns T C h l (hello_most x y h.rest ns T h.sent l))
