-- Two turns of a client, step by step
use Rattle.std.proofs.Common.{inl, inr, ◌≡◌, ◌≢◌, ◌||◌, not, ℕ, Bool, true, false, List, [], ◌∷◌, ◌++◌, length, take, Option, Some, None, Result, Ok, Err, refl}
use Rattle.std.proofs.Common.{sym, ap, ◌∙◌, subst, append_assoc}
use Rattle.std.specs.Option.{unwrap_or}
use Rattle.std.proofs.lemmas.List.{append_cancel_left}
use Rattle.chunk_wire.specs.declared.message.Message.{Message}
use Rattle.relay_outside.specs.Heard.{Came, CameBytes, CameEnd, CameNotYet, CameFailed}
use Rattle.relay_outside.specs.MemLinks.{MemHears, MemLinkState, MemSays}
use Rattle.relay_outside.specs.declared.link.Said.{Said}
use Rattle.relay_outside.specs.declared.link.Said.TheVariants as said
use Rattle.session_owed.specs.Talk.{hand_bytes}
use Rattle.client_owed.specs.Standing.{count_of}
use Rattle.rtmp_client.specs.ClientState.{ClientState, TurnMade, life_of}
use Rattle.rtmp_client.specs.Feeding.{Heard as HeardMore}
use Rattle.rtmp_client.specs.Turns.{CameAs, DoneBy, EmptyBy, EndedBy, Fed, FedAs, FedBy, Finish, Input, InputBy, IsEnded, Life, Loudly, Quietly, SendBy, Sent}
use Rattle.rtmp_client.specs.Turns.{SentAs, Stopping}
use Rattle.rtmp_client.specs.Turns.{end_of, is_done, is_hungry, is_nil, life, turn_of}
use Rattle.rtmp_client.specs.declared.end.ClientEnd.{ClientEnd}
use Rattle.rtmp_client.specs.declared.end.ClientEnd.TheVariants as end
use Rattle.rtmp_client.specs.declared.end.ClientTurn.{ClientTurn}
use Rattle.turn_law.proofs.Reading.{Fate, Heard, Quiet, heard_or, heard_with, one_fate}
use Rattle.turn_law.proofs.Steps.{hears_same, says_same}
use Rattle.client_turn_law.specs.Twins.{Alike, AreAlike, HasMemory, Parted, SameBy, SameTurn, Seen, left_of}
use Rattle.client_turn_law.proofs.Alike.{done_in, fed_alike, gone_same, hungry_in, same_by, sent_alike, stopped_same}
use Rattle.client_turn_law.proofs.Feeds.{FaresIn, bytes_of, end_by, fares_at, loud_fares, place_by, quiet_all, quiet_fares, stop_front, stop_halts}

-- what two turns that came to this leave
abbrev LeftBy : Result Bool ClientEnd → Life → Life → Type 0
LeftBy (Ok moved) w x = Alike w x
LeftBy (Err e) w x = Parted w.parts x.parts

record SameLeft (a : Result Bool ClientEnd) (w : Life) (b : Result Bool ClientEnd) (x : Life) : Type 0 where
  pub answer : b ≡ a
  pub left : LeftBy a w x

abbrev fed_so : Bool → List ℕ → Result Bool ClientEnd
fed_so moved input = Ok (moved || not (is_nil input))

abbrev ended_so : ClientEnd → Result Bool ClientEnd
ended_so e = Err e

-- memory was not wanting
abbrev IsSaid : Said → Type 0
IsSaid (said.Took n) = Unit {0}
IsSaid said.NotYet = Unit {0}
IsSaid said.Failed = Unit {0}
IsSaid said.OutOfMemory = ⊥

said_same : (l : MemLinkState) (piece : List ℕ) (p q : Said) (m k : MemLinkState) → IsSaid p → IsSaid q → MemSays l piece p m → MemSays l piece q k
    → (q ≡ p) × (k ≡ m)
said_same l piece (said.Took n) (said.Took j) m k i o s t = says_same l piece (said.Took n) (said.Took j) m k tt tt s t
said_same l piece (said.Took n) said.NotYet m k i o s t = says_same l piece (said.Took n) said.NotYet m k tt tt s t
said_same l piece (said.Took n) said.Failed m k i o s t = says_same l piece (said.Took n) said.Failed m k tt tt s t
said_same l piece said.NotYet (said.Took j) m k i o s t = says_same l piece said.NotYet (said.Took j) m k tt tt s t
said_same l piece said.NotYet said.NotYet m k i o s t = says_same l piece said.NotYet said.NotYet m k tt tt s t
said_same l piece said.NotYet said.Failed m k i o s t = says_same l piece said.NotYet said.Failed m k tt tt s t
said_same l piece said.Failed (said.Took j) m k i o s t = says_same l piece said.Failed (said.Took j) m k tt tt s t
said_same l piece said.Failed said.NotYet m k i o s t = says_same l piece said.Failed said.NotYet m k tt tt s t
said_same l piece said.Failed said.Failed m k i o s t = says_same l piece said.Failed said.Failed m k tt tt s t
said_same l piece (said.Took n) said.OutOfMemory m k i o s t = absurd o
said_same l piece said.NotYet said.OutOfMemory m k i o s t = absurd o
said_same l piece said.Failed said.OutOfMemory m k i o s t = absurd o
said_same l piece said.OutOfMemory q m k i o s t = absurd i

said_by : (a : Result Bool ClientEnd) (w : Life) → a ≢ Err end.OutOfMemory → (q : Said) (v : Life) (l m : MemLinkState)
    → SentAs MemHears MemSays q v l a w m → IsSaid q
said_by a w s (said.Took n) v l m t = tt
said_by a w s said.NotYet v l m t = tt
said_by a w s said.Failed v l m t = tt
said_by a w s said.OutOfMemory v l m t = absurd (s t.0.ended)

module _ (a : Result Bool ClientEnd) (w : Life) (a' : Result Bool ClientEnd) (w' : Life) (s : a ≢ Err end.OutOfMemory) (s' : a' ≢ Err end.OutOfMemory) where
  abbrev Both : Type 0
  Both = SameLeft a w a' w'

  same_living : (moved : Bool) → a ≡ Ok moved → a' ≡ Ok moved → Alike w w' → Both
  same_living moved e e' h = record { answer = e' ∙ sym e; left = subst (λ (b : Result Bool ClientEnd). LeftBy b w w') (sym e) h }

  same_parting : (e : ClientEnd) → a ≡ Err e → a' ≡ Err e → Parted w.parts w'.parts → Both
  same_parting e is is' h = record { answer = is' ∙ sym is; left = subst (λ (b : Result Bool ClientEnd). LeftBy b w w') (sym is) h }

  ended_both : (e : ClientEnd) (v v' : Life) → Alike v v' → IsEnded e v a w → IsEnded e v' a' w' → Both
  ended_both e v v' h i i' = same_parting e i.ended i'.ended (gone_same v v' w w' i.gone i'.gone h)

  stays_both : (v v' : Life) (moved : Bool) → (a ≡ Ok moved) × (w ≡ v) → (a' ≡ Ok moved) × (w' ≡ v') → Alike v v' → Both
  stays_both v v' moved t t' h =
      same_living moved t.0 t'.0 (subst (λ (z : Life). Alike z w') (sym t.1) (subst (λ (z : Life). Alike v z) (sym t'.1) h))

  -- ---- step 4

  module _ (v v' : Life) (h : Alike v v') where
    bytes_same : bytes_of v' ≡ bytes_of v
    bytes_same = ap (λ (x : Seen). x.past.y ++ x.input) h

    given_same : v'.parts.reader.given ≡ v.parts.reader.given
    given_same = ap (λ (x : Seen). x.past.ms) h

    fate_same : (f g : Fate) → FaresIn v f → FaresIn v' g → f ≡ g
    fate_same f g p q =
        one_fate hand_bytes v.parts.reader.max v.parts.reader.given (bytes_of v) f g p
        (fares_at v.parts.reader.max v'.parts.reader.max v.parts.reader.given v'.parts.reader.given (bytes_of v) (bytes_of v') g (ap (λ (x : Seen). x.max) h)
        given_same bytes_same q)

    none_some : (e : ClientEnd) (o p : Option ClientEnd) → o ≡ None → p ≡ Some e → p ≡ o → ⊥
    none_some e o p x y z = (let t : None ≡ Some e = sym x ∙ (sym z ∙ y) in absurd (cc))

    end_same : (f g : Fate) → FaresIn v f → FaresIn v' g → end_by g ≡ end_by f
    end_same f g p q = ap end_by (sym (fate_same f g p q))

    abbrev heard_more : List (ℕ × Message) → ℕ → Message → List (ℕ × Message)
    heard_more ms n m = ms ++ (n, m) ∷ []

    fed_as_both : (by by' : FedBy) (moved : Bool) → FedAs by v moved a w → FedAs by' v' moved a' w' → Both
    fed_as_both Quietly Quietly moved t t' =
        let y : w'.parts.y ≡ w.parts.y = quiet_all a' w' s' v' moved t' ∙ (bytes_same ∙ sym (quiet_all a w s v moved t)) in
        let given : w'.parts.reader.given ≡ w.parts.reader.given =
        ap (λ (x : HeardMore). x.given) t'.1 ∙ (given_same ∙ sym (ap (λ (x : HeardMore). x.given) t.1)) in
        same_living (moved || not (is_nil v.input)) t.3 (t'.3 ∙ ap (λ (x : Seen). fed_so moved x.input) h)
        (fed_alike v v' w w' h y given (t'.2 ∙ sym t.2) t.0.fixed t'.0.fixed t.0.others t'.0.others t.4.stands t'.4.stands)
    fed_as_both Loudly Loudly moved t t' =
        let m : Message = t.1.0 in
        let m' : Message = t'.1.0 in
        let same : Heard w.parts.y m ≡ Heard w'.parts.y m' = fate_same (Heard w.parts.y m) (Heard w'.parts.y m') (loud_fares a w s v moved t)
        (loud_fares a' w' s' v' moved t') in
        let y : w'.parts.y ≡ w.parts.y = ap (heard_with []) (sym same) in
        let me : m' ≡ m = ap (heard_or m) (sym same) in
        let whole : w.parts.y ++ w.input ≡ bytes_of v = ap (λ (l : List ℕ). l ++ w.input) t.0.y
        ∙ (append_assoc v.parts.y t.0.fed w.input ∙ ap (λ (l : List ℕ). v.parts.y ++ l) t.0.split) in
        let whole' : w'.parts.y ++ w'.input ≡ bytes_of v' = ap (λ (l : List ℕ). l ++ w'.input) t'.0.y
        ∙ (append_assoc v'.parts.y t'.0.fed w'.input ∙ ap (λ (l : List ℕ). v'.parts.y ++ l) t'.0.split) in
        let rest : w'.input ≡ w.input =
        append_cancel_left w.parts.y w'.input w.input (ap (λ (l : List ℕ). l ++ w'.input) (sym y) ∙ (whole' ∙ (bytes_same ∙ sym whole))) in
        let given : w'.parts.reader.given ≡ w.parts.reader.given =
        t'.1.1.given ∙ (ap (λ (ms : List (ℕ × Message)). heard_more ms (count_of w'.parts.y) m') given_same
        ∙ (ap (λ (l : List ℕ). heard_more v.parts.reader.given (count_of l) m') y
        ∙ (ap (λ (x : Message). heard_more v.parts.reader.given (count_of w.parts.y) x) me ∙ sym t.1.1.given))) in
        same_living true t.3 t'.3 (fed_alike v v' w w' h y given rest t.0.fixed t'.0.fixed t.0.others t'.0.others t.4.stands t'.4.stands)
    fed_as_both (Stopping e) (Stopping e') moved t t' =
        let p = stop_halts a w s v e moved t in
        let p' = stop_halts a' w' s' v' e' moved t' in
        let fate : p'.0 ≡ p.0 = sym (fate_same p.0 p'.0 p.1.0 p'.1.0) in
        let same : Some e' ≡ Some e = sym p'.1.1 ∙ (ap end_by fate ∙ p.1.1) in
        let ee : e' ≡ e = ap (λ (o : Option ClientEnd). unwrap_or o end.Done) same in
        let long : length w'.parts.y ≡ length w.parts.y = sym p'.1.2 ∙ (ap place_by fate ∙ p.1.2) in
        let y : w'.parts.y ≡ w.parts.y = stop_front a' w' s' v' e' moved t' ∙ (ap (λ (n : ℕ). take n (bytes_of v')) long
        ∙ (ap (λ (l : List ℕ). take (length w.parts.y) l) bytes_same ∙ sym (stop_front a w s v e moved t))) in
        same_parting e t.1 (t'.1 ∙ ap ended_so ee)
        (stopped_same v v' w.parts w'.parts h y t.0.fixed t'.0.fixed t.0.gift t'.0.gift t.0.phase t'.0.phase)
    fed_as_both Quietly Loudly moved t t' =
        let same : Quiet ≡ Heard w'.parts.y t'.1.0 = fate_same Quiet (Heard w'.parts.y t'.1.0) (quiet_fares a w s v moved t)
        (loud_fares a' w' s' v' moved t') in absurd (cc)
    fed_as_both Loudly Quietly moved t t' =
        let same : Heard w.parts.y t.1.0 ≡ Quiet = fate_same (Heard w.parts.y t.1.0) Quiet (loud_fares a w s v moved t)
        (quiet_fares a' w' s' v' moved t') in absurd (cc)
    fed_as_both Quietly (Stopping e') moved t t' =
        let p' = stop_halts a' w' s' v' e' moved t' in
        absurd (none_some e' None (end_by p'.0) refl p'.1.1 (end_same Quiet p'.0 (quiet_fares a w s v moved t) p'.1.0))
    fed_as_both Loudly (Stopping e') moved t t' =
        let p' = stop_halts a' w' s' v' e' moved t' in
        absurd (none_some e' (end_by (Heard w.parts.y t.1.0)) (end_by p'.0) t.1.1.passed p'.1.1
        (end_same (Heard w.parts.y t.1.0) p'.0 (loud_fares a w s v moved t) p'.1.0))
    fed_as_both (Stopping e) Quietly moved t t' =
        let p = stop_halts a w s v e moved t in
        absurd (none_some e None (end_by p.0) refl p.1.1 (sym (end_same p.0 Quiet p.1.0 (quiet_fares a' w' s' v' moved t'))))
    fed_as_both (Stopping e) Loudly moved t t' =
        let p = stop_halts a w s v e moved t in
        absurd (none_some e (end_by (Heard w'.parts.y t'.1.0)) (end_by p.0) t'.1.1.passed p.1.1
        (sym (end_same p.0 (Heard w'.parts.y t'.1.0) p.1.0 (loud_fares a' w' s' v' moved t'))))

  fed_both : (v v' : Life) (moved : Bool) → Fed v moved a w → Fed v' moved a' w' → Alike v v' → Both
  fed_both v v' moved t t' h = fed_as_both v v' h t.0 t'.0 moved t.1 t'.1

  abbrev seen_fed : List ℕ → Seen → Seen
  seen_fed b x = record x { input = b }

  came_both : (came : Came) (v v' : Life) (moved : Bool) → CameAs came v moved a w → CameAs came v' moved a' w' → Alike v v' → Both
  came_both (CameBytes b) v v' moved (inl t) (inl t') h = fed_both (life v.parts b) (life v'.parts b) true t t' (ap (seen_fed b) h)
  came_both (CameBytes b) v v' moved (inr t) t' h = absurd (s t.ended)
  came_both (CameBytes b) v v' moved (inl t) (inr t') h = absurd (s' t'.ended)
  came_both CameNotYet v v' moved t t' h = stays_both v v' moved t t' h
  came_both CameEnd v v' moved t t' h = ended_both end.PeerClosed v v' h t t'
  came_both CameFailed v v' moved t t' h = ended_both end.LinkFault v v' h t t'

  module _ (m m' : MemLinkState) where
    abbrev BothAt : Type 0
    BothAt = Both × (m' ≡ m)

    -- ---- step 3

    empty_both : (b : Bool) (v v' : Life) (l : MemLinkState) (moved : Bool) → EmptyBy MemHears b v l moved a w m → EmptyBy MemHears b v' l moved a' w' m'
        → Alike v v' → BothAt
    empty_both true v v' l moved t t' h =
        let same = hears_same l t.0 t'.0 m m' t.1.0 t'.1.0 in
        (came_both t.0 v v' moved t.1.1 (subst (λ (c : Came). CameAs c v' moved a' w') same.0 t'.1.1) h, same.1)
    empty_both false v v' l moved t t' h = (fed_both v v' moved t.0 t'.0 h, t'.1 ∙ sym t.1)

    input_by_both : (b : Bool) (v v' : Life) (l : MemLinkState) (moved : Bool) → InputBy MemHears b v l moved a w m → InputBy MemHears b v' l moved a' w' m'
        → Alike v v' → BothAt
    input_by_both true v v' l moved t t' h =
        empty_both (is_nil v.input) v v' l moved t (subst (λ (b : Bool). EmptyBy MemHears b v' l moved a' w' m') (ap (λ (x : Seen). is_nil x.input) h) t') h
    input_by_both false v v' l moved t t' h = (stays_both v v' moved (t.0, t.1) (t'.0, t'.1) h, t'.2 ∙ sym t.2)

    input_both : (v v' : Life) (l : MemLinkState) (moved : Bool) → Input MemHears v l moved a w m → Input MemHears v' l moved a' w' m' → Alike v v' → BothAt
    input_both v v' l moved t t' h =
        input_by_both (is_hungry v.parts) v v' l moved t (subst (λ (b : Bool). InputBy MemHears b v' l moved a' w' m') (ap hungry_in h) t') h

    -- ---- step 2

    done_both : (b : Bool) (v v' : Life) (l : MemLinkState) (moved : Bool) → DoneBy MemHears b v l moved a w m → DoneBy MemHears b v' l moved a' w' m'
        → Alike v v' → BothAt
    done_both true v v' l moved t t' h = (ended_both end.Done v v' h t.0 t'.0, t'.1 ∙ sym t.1)
    done_both false v v' l moved t t' h = input_both v v' l moved t t' h

    finish_both : (v v' : Life) (l : MemLinkState) (moved : Bool) → Finish MemHears v l moved a w m → Finish MemHears v' l moved a' w' m' → Alike v v' → BothAt
    finish_both v v' l moved t t' h =
        done_both (is_done v.parts) v v' l moved t (subst (λ (b : Bool). DoneBy MemHears b v' l moved a' w' m') (ap done_in h) t') h

    -- ---- step 1

    sent_as_both : (q : Said) (v v' : Life) (l : MemLinkState) → SentAs MemHears MemSays q v l a w m → SentAs MemHears MemSays q v' l a' w' m'
        → Alike v v' → BothAt
    sent_as_both (said.Took n) v v' l t t' h =
        finish_both (life t.0 v.input) (life t'.0 v'.input) l true t.1.1 t'.1.1 (sent_alike v v' n t.0 t'.0 t.1.0 t'.1.0 h)
    sent_as_both said.NotYet v v' l t t' h = finish_both v v' l false t t' h
    sent_as_both said.Failed v v' l t t' h = (ended_both end.LinkFault v v' h t.0 t'.0, t'.1 ∙ sym t.1)
    sent_as_both said.OutOfMemory v v' l t t' h = absurd (s t.0.ended)

    send_both : (b : Bool) (v v' : Life) (l : MemLinkState) → SendBy MemHears MemSays b v l a w m → SendBy MemHears MemSays b v' l a' w' m' → Alike v v'
        → BothAt
    send_both true v v' l t t' h = finish_both v v' l false t t' h
    send_both false v v' l t t' h =
        let piece : take 16384 v'.parts.outgoing.pending ≡ take 16384 v.parts.outgoing.pending = ap (λ (x : Seen). take 16384 x.keeps.pending) h in
        let says : MemSays l (take 16384 v.parts.outgoing.pending) t'.0 t'.1.0 = subst (λ (x : List ℕ). MemSays l x t'.0 t'.1.0) piece t'.1.1.0 in
        let same = said_same l (take 16384 v.parts.outgoing.pending) t.0 t'.0 t.1.0 t'.1.0 (said_by a w s t.0 v t.1.0 m t.1.1.1)
        (said_by a' w' s' t'.0 v' t'.1.0 m' t'.1.1.1) t.1.1.0 says in
        sent_as_both t.0 v v' t.1.0 t.1.1.1 (subst (λ (q : Said). SentAs MemHears MemSays q v' t.1.0 a' w' m') same.0
        (subst (λ (k : MemLinkState). SentAs MemHears MemSays t'.0 v' k a' w' m') same.1 t'.1.1.1)) h

    sent_both : (v v' : Life) (l : MemLinkState) → Sent MemHears MemSays v l a w m → Sent MemHears MemSays v' l a' w' m' → Alike v v' → BothAt
    sent_both v v' l t t' h =
        send_both (is_nil v.parts.outgoing.pending) v v' l t
        (subst (λ (b : Bool). SendBy MemHears MemSays b v' l a' w' m') (ap (λ (x : Seen). is_nil x.keeps.pending) h) t') h

-- ---- A TURN

module _ (s s' t t' : ClientState) (l m m' : MemLinkState) (a a' : ClientTurn) where
  no_memory : (x : ClientState) (comes : Result Bool ClientEnd) → x.ended ≡ end_of comes → HasMemory x → comes ≢ Err end.OutOfMemory
  no_memory x comes e h is = h (e ∙ ap end_of is)

  left_same : (comes : Result Bool ClientEnd) → LeftBy comes (life_of t) (life_of t') → SameBy (end_of comes) t t'
  left_same (Ok moved) h = h
  left_same (Err e) h = h

  made_same : (comes comes' : Result Bool ClientEnd) → a ≡ turn_of comes → t.ended ≡ end_of comes → a' ≡ turn_of comes' → t'.ended ≡ end_of comes'
      → SameLeft comes (life_of t) comes' (life_of t') → m' ≡ m → SameTurn a t m a' t' m'
  made_same comes comes' ae te ae' te' h link = record {
    answer = ae' ∙ (ap turn_of h.answer ∙ sym ae);
    clients = record {
      ended = te' ∙ (ap end_of h.answer ∙ sym te);
      same = same_by t.ended (end_of comes) t t' te (left_same comes h.left);
    };
    link = link;
  }

  abbrev Turns : Option ClientEnd → Life → MemLinkState → Result Bool ClientEnd → Life → MemLinkState → Type 0
  Turns = EndedBy MemHears MemSays

  by_end : (o : Option ClientEnd) (comes comes' : Result Bool ClientEnd) → comes ≢ Err end.OutOfMemory → comes' ≢ Err end.OutOfMemory → SameBy o s s'
      → Turns o (life_of s) l comes (life_of t) m → Turns o (life_of s') l comes' (life_of t') m' → SameLeft comes (life_of t) comes' (life_of t') × (m' ≡ m)
  by_end None comes comes' n n' h x x' = sent_both comes (life_of t) comes' (life_of t') n n' m m' (life_of s) (life_of s') l x x' h
  by_end (Some e) comes comes' n n' h x x' = (
    same_parting comes (life_of t) comes' (life_of t') n n' e x.0 x'.0
        (ap (λ (z : Life). left_of z.parts) x'.1 ∙ (h ∙ sym (ap (λ (z : Life). left_of z.parts) x.1))),
    x'.2 ∙ sym x.2,
  )

  pub turn_both : AreAlike s s' → TurnMade Turns s l a t m → TurnMade Turns s' l a' t' m' → HasMemory t → HasMemory t' → SameTurn a t m a' t' m'
  turn_both h x x' n n' =
      let both = by_end s.ended x.comes x'.comes (no_memory t x.comes x.ended n) (no_memory t' x'.comes x'.ended n') h.same x.made
      (subst (λ (o : Option ClientEnd). Turns o (life_of s') l x'.comes (life_of t') m') h.ended x'.made) in
      made_same x.comes x'.comes x.answered x.ended x'.answered x'.ended both.0 both.1
