-- A client asks for one message stream, when its session has none open
use Rattle.std.proofs.Common.{◌≡◌, ℕ, ◌<◌, ◌^◌, Bool, true, false, nat_eq, if◌then◌else◌, List, [], ◌∷◌, ◌++◌, length, Option, Some, None, Result, Ok, Err}
use Rattle.std.proofs.Common.{option_map, refl, sym, ap, ◌∙◌, subst, arith}
use Rattle.std.specs.Prelude.{codes}
use Rattle.std.proofs.lemmas.Bool.Decides.{nat_tests}
use Rattle.amf0_value.specs.Encoding.{items_spelling}
use Rattle.amf0_value.specs.Pattern.{pattern}
use Rattle.chunk_wire.specs.declared.message.Message.{Message}
use Rattle.client_law.proofs.Alike.{idles}
use Rattle.client_law.proofs.Louds.{loud_joined, loud_owed}
use Rattle.client_law.proofs.Push.{after_small, pattern_low}
use Rattle.client_law.proofs.Steps.{by_heard, command_does, heard_delete, url_short}
use Rattle.client_law.specs.Laws.{IsNamed}
use Rattle.client_law.specs.Loud.{Every, Rise, asked_by, bare, is_loud, keep, loud, sents}
use Rattle.client_owed.specs.Client.{ask, asks, connect, connects, create_stream, delete_stream, tc_url}
use Rattle.client_owed.specs.News.{is_text}
use Rattle.client_owed.specs.Owed.{AreGiven, Follow, MayGive, id_of, owed, phase_of, sent_on}
use Rattle.client_owed.specs.declared.types.Asked.{Asked}
use Rattle.client_owed.specs.declared.types.Gave.{Gave}
use Rattle.client_owed.specs.declared.types.Given.{Given}
use Rattle.client_owed.specs.declared.types.Given.TheVariants.{Finish, Send}
use Rattle.client_owed.specs.declared.types.Phase.{Phase}
use Rattle.client_owed.specs.declared.types.Phase.TheVariants.{Connecting, Creating, Asking, Started}
use Rattle.client_owed.specs.declared.types.Wish.{Wish}
use Rattle.client_owed.specs.declared.types.Wish.TheVariants as wish
use Rattle.command_dialog.specs.Dialog as dialog
use Rattle.command_dialog.specs.Meaning as means
use Rattle.command_dialog.specs.State.{State}
use Rattle.command_dialog.specs.declared.types.Ask.{Ask}
use Rattle.command_dialog.specs.declared.types.Grant.{Grant}
use Rattle.flv_tags.specs.Layout.{is_kind}
use Rattle.refusal_law.proofs.Calm.{Calm, pongs_calm}
use Rattle.refusal_law.proofs.Heeding.{heard_connect, heard_create, heard_play, heard_publish}
use Rattle.relay_session.specs.Session.{does, session}
use Rattle.rtmp_command.specs.Heard.{heard_in}
use Rattle.rtmp_command.specs.declared.command.CommandFail.{CommandFail}
use Rattle.rtmp_command.specs.declared.heard.Heard.{Heard}
use Rattle.session_owed.specs.Dialogue.{Dialogue, Step}
use Rattle.session_owed.specs.Talk.{Own, Talk, does_at, fresh, goes, one, started, talk, walk}

-- ---- no other message of a client is a createStream

abbrev Other : Message → Type 0
Other m = m ≡ create_stream → ⊥

abbrev is_create : Result Heard CommandFail → Bool
is_create (Ok h) = is_text h.name (codes "createStream")
is_create (Err e) = false

by_name : (m : Message) (r : Result Heard CommandFail) → heard_in m.body ≡ r → is_create r ≡ false → Other m
by_name m r h n = λ e.
    let f : is_create r ≡ true = ap is_create (sym h ∙ ap (λ (x : Message). heard_in x.body) e ∙ heard_create) in
    absurd (let g : false ≡ true = sym n ∙ f in cc)

connect_other : (k : Asked) → length (tc_url k) < 2 ^ 16 → Other (connect k)
connect_other k l = by_name (connect k) _ (heard_connect k l) refl

asks_other : (w : Wish) (name : List ℕ) (id : ℕ) → length name < 2 ^ 16
    → Other (record { kind = 20; stream = id; time = 0; body = items_spelling (asks w name) })
asks_other wish.Push name id l = by_name _ _ (heard_publish name l) refl
asks_other wish.Pull name id l = by_name _ _ (heard_play name l) refl

not_command : (kind : ℕ) → is_kind kind ≡ true → nat_eq kind 20 ≡ false
not_command kind e = grind (arith, nat_tests)

given_other : (w : Wish) (max id : ℕ) (g : Given) → id < 2 ^ 32 → MayGive w max g → Other (sent_on id g)
given_other w max id (Send t) s m = λ e. absurd (let f : false ≡ true = sym (not_command t.kind m.1) ∙ ap (λ (x : Message). nat_eq x.kind 20) e in cc)
given_other w max id Finish s m = by_name (delete_stream id) _ (heard_delete id (pattern_low id (omega (arith, s)))) refl

follow_other : (w : Wish) (max id from to : ℕ) (T : List Gave) → id < 2 ^ 32 → Follow w max from to T → Every Other (sents id T)
unfolding sents
follow_other w max id from to [] s f = tt
follow_other w max id from to (g ∷ T) s f = (given_other w max id g.given s f.1, follow_other w max id g.at to T s f.3)

gave_other : (k : Asked) (max n id : ℕ) (ns : List (ℕ × Message)) (T : List Gave) → id < 2 ^ 32 → AreGiven k max n ns T → Every Other (sents id T)
unfolding sents
gave_other k max n id ns [] s g = tt
gave_other k max n id ns (t ∷ T) s g = follow_other k.wish max id _ _ (t ∷ T) s g.2

-- ---- where it stands

heads : (a b : Message) (l r : List Message) → a ∷ l ≡ b ∷ r → (a ≡ b) × (l ≡ r)
heads a b l r e = (cc, cc)

not_in : (A L R : List Message) → A ++ create_stream ∷ L ≡ R → Every Other R → ⊥
not_in [] L R e h = (subst (Every Other) (sym e) h).0 refl
not_in (x ∷ A) L R e h = not_in A L (A ++ create_stream ∷ L) refl (subst (Every Other) (sym e) h).1

second : (A L R : List Message) (a : Message) → A ++ create_stream ∷ L ≡ a ∷ create_stream ∷ R → Other a → Every Other R → A ≡ a ∷ []
second [] L R a e n h = absurd (n (sym (heads create_stream a L (create_stream ∷ R) e).0))
second (x ∷ []) L R a e n h = ap (λ (y : Message). y ∷ []) (heads x a (create_stream ∷ L) (create_stream ∷ R) e).0
second (x ∷ (y ∷ A)) L R a e n h =
    absurd (not_in A L R (heads y create_stream (A ++ create_stream ∷ L) R (heads x a (y ∷ (A ++ create_stream ∷ L)) (create_stream ∷ R) e).1).1 h)

before : (k : Asked) (p : Phase) (A L S : List Message) → A ++ create_stream ∷ L ≡ asked_by k p ++ S → Other (connect k) → ((id : ℕ) → Other (ask k id))
    → Every Other S
    → A ≡ connect k ∷ []
before k Connecting A L S e c a h = absurd (not_in A L (connect k ∷ S) e (c, h))
before k Creating A L S e c a h = second A L S (connect k) e c h
before k (Asking id) A L S e c a h = second A L (ask k id ∷ S) (connect k) e c (a id, h)
before k (Started id) A L S e c a h = second A L (ask k id ∷ S) (connect k) e c (a id, h)

every_loud : (Q : Message → Type 0) (l : List Message) → ((m : Message) → is_loud m ≡ false → Q m) → Every Q (loud l) → Every Q l
unfolding loud
every_loud Q [] q h = tt
every_loud Q (m ∷ l) q h = by_kind (λ g. every_loud Q l q g) (is_loud m) refl h
  where
    by_kind : (Every Q (loud l) → Every Q l) → (b : Bool) → is_loud m ≡ b → Every Q (keep b m (loud l)) → Q m × Every Q l
    by_kind rest true e g = (g.0, rest g.1)
    by_kind rest false e g = (q m e, rest g)

-- ---- what comes before it opens no message stream

module _ (desk : Ask → Grant) where
  abbrev Opens : Message → Type 0
  Opens m = (s : State) → ((does desk s m).state.ids ≡ s.ids) × ((does desk s m).makes ≡ None)

  quiet_opens : (m : Message) → is_loud m ≡ false → Opens m
  quiet_opens m q = λ s.
      let i = idles Calm desk pongs_calm s m q in
      (ap (λ (t : State). t.ids) i.state, i.makes)

  connect_by : (s : State) (m : Message) (app : List ℕ) (o : Option (List ℕ))
      → ((dialog.does_by desk s m (Ok (means.connects o (pattern 1) (Some app)))).state.ids ≡ s.ids)
      × (option_map dialog.call_of (dialog.does_by desk s m (Ok (means.connects o (pattern 1) (Some app)))).makes ≡ None)
  unfolding dialog.after dialog.makes
  connect_by s m app None = (refl, refl)
  connect_by s m app (Some a) = (refl, refl)

  connect_opens : (k : Asked) → length (tc_url k) < 2 ^ 16 → Opens (connect k)
  unfolding by_heard
  connect_opens k l = λ s.
      subst (λ (t : Step State). (t.state.ids ≡ s.ids) × (t.makes ≡ None))
      (sym (command_does desk s 0 (items_spelling (connects k)) ∙ ap (by_heard desk s (connect k)) (heard_connect k l)))
      (connect_by s (connect k) k.app s.app)

  module _ (who window : ℕ) where
    abbrev d : Dialogue State
    d = session who window desk

    one_opens : (C : List Own) (t : Talk State) (m : ℕ × Message) → Opens m.1 → t.state.ids ≡ [] → (one d C t m).state.ids ≡ []
    unfolding one
    one_opens C t m o e = by_stuck t.stuck
      where
        v : Step State
        v = does desk t.state m.1

        by_stuck : (b : Bool) → (if b then t else does_at d C m.0 t v).state.ids ≡ []
        by_stuck true = e
        by_stuck false =
            let f = o t.state in
            subst (λ c. (goes d C m.0 (started d m.0 t v) c).state.ids ≡ []) (sym f.1) (f.0 ∙ e)

    walk_opens : (C : List Own) (t : Talk State) (ms : List (ℕ × Message)) → Every Opens (bare ms) → t.state.ids ≡ [] → (walk d C t ms).state.ids ≡ []
    unfolding walk bare
    walk_opens C t [] h e = e
    walk_opens C t (m ∷ ms) h e = walk_opens C (one d C t m) ms h.1 (one_opens C t m h.0 e)

    -- WHERE A CREATESTREAM COMES NEXT none is open
    pub none_open : (k : Asked) (max n : ℕ) (ms ns : List (ℕ × Message)) (T : List Gave) (C : List Own) (later : List Message) → IsNamed k → Rise 0 n ns
        → AreGiven k max n ns T → bare ms ++ create_stream ∷ later ≡ owed k n ns T → (talk d C ms).state.ids ≡ []
    unfolding loud
    none_open k max n ms ns T C later named rise given e =
        let p = phase_of k ns in
        let louder : loud (bare ms) ++ create_stream ∷ loud later ≡ asked_by k p ++ sents (id_of p) T =
        sym (loud_joined (bare ms) (create_stream ∷ later)) ∙ ap loud e ∙ loud_owed k max n ns T rise given in
        let short = url_short k named in
        let first = before k p (loud (bare ms)) (loud later) (sents (id_of p) T) louder (connect_other k short)
        (λ id. asks_other k.wish k.name id (omega (arith, named.name))) (gave_other k max n (id_of p) ns T (after_small k Connecting ns (omega arith)) given) in
        walk_opens C (fresh d) ms (every_loud Opens (bare ms) quiet_opens (subst (Every Opens) (sym first) (connect_opens k short, tt))) refl
