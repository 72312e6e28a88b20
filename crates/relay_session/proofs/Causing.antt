-- What a turn did, and why it is idle
use Rattle.std.proofs.Common.{◌≡◌, ◌≤◌, ◌<◌, ◌⊎◌, inl, inr, ℕ, Bool, true, false, not, ◌&&◌, ◌||◌, List, [], ◌∷◌, ◌++◌, length, take, refl, sym, ap, ◌∙◌, subst, arith, append-nil, append_assoc, length-append, Option, Some, None}
use Rattle.std.proofs.lemmas.List.{length-take}
use Rattle.std.proofs.lemmas.Bool.Decides.{nat_tests}
use Rattle.relay_outside.specs.Counts.{Rose}
use Rattle.relay_outside.specs.Heard.{Came, CameBytes, CameEnd, CameNotYet, CameFailed, HearStep}
use Rattle.relay_outside.specs.Said.{SayStep}
use Rattle.relay_outside.specs.Told.{LinkCounts, LinkTold}
use Rattle.relay_outside.specs.declared.link.Said.{Said}
use Rattle.relay_outside.specs.declared.link.Said.TheVariants as said
use Rattle.command_dialog.specs.declared.types.Ask.{Ask}
use Rattle.command_dialog.specs.declared.types.Grant.{Grant}
use Rattle.command_dialog.specs.declared.types.Playing.{Playing}
use Rattle.session_owed.specs.Standing.{Past}
use Rattle.session_owed.specs.Talk.{Own, is_take}
use Rattle.stream_model.specs.declared.calls.Entry.{Entry}
use Rattle.stream_model.specs.declared.replies.Reply.{Reply}
use Rattle.stream_registry.specs.Told as told
use Rattle.relay_session.specs.Bounds.{Acts}
use Rattle.relay_session.specs.Causes.{Did, HasMoved, IsStill, MayBe, is_loud, is_loud_call}
use Rattle.relay_session.specs.Feeding.{Fixed, IsCalled}
use Rattle.relay_session.specs.Owing.{pending}
use Rattle.relay_session.specs.Turns.{AfterCall, AfterKept, CallAsked, CallMade, CalledBy, CameAs, EmptyBy, Fed, FedAs, FedBy, Input, InputBy, IsEnded, IsFilled, KeptBy, Life, Loudly, Quietly, QuitBy, SendBy, Sent, SentAs, Stopping, TakeMade, Taken, TakenBy, answer, is_hungry, is_nil, is_not_yet, life, take_entry, takes}
use Rattle.relay_session.specs.declared.core_fields.Core.{Core}
use Rattle.relay_session.specs.declared.end.End.{End}
use Rattle.relay_session.specs.declared.seat_answers.Made.{Made}
use Rattle.relay_session.specs.declared.seat_answers.Made.TheVariants as made
use Rattle.relay_session.specs.declared.turn.Turn.{Turn}
use Rattle.relay_session.specs.declared.turn.Turn.TheVariants.{Moved, Idle, Ended}

loud_first : (a b c : Bool) → (a || (b || c)) ≡ ((a || b) || c)
loud_first true b c = refl
loud_first false b c = refl

loud_more : (k : List Own) (c : Own) → is_loud (k ++ c ∷ []) ≡ (is_loud k || is_loud_call c)
loud_more [] c = or_false (is_loud_call c)
  where
    or_false : (b : Bool) → (b || false) ≡ b
    or_false true = refl
    or_false false = refl
loud_more (d ∷ k) c = ap (λ (b : Bool). is_loud_call d || b) (loud_more k c) ∙ loud_first (is_loud_call d) (is_loud k) (is_loud_call c)

-- a call that is no Take
acts_loud : (e : Entry) (r : Reply) → is_take e.call ≡ false → is_loud_call (e, r) ≡ true
acts_loud e r f = ap (λ (b : Bool). not (b && is_not_yet r)) f

some_bytes : (l : List ℕ) → is_nil l ≡ false → 0 < length l
some_bytes [] e = absurd (cc)
some_bytes (b ∷ l) e = omega arith

later_cause : (a b c d : ℕ) (k : Bool) (n m : ℕ) → n ≡ b → m ≡ d → (a < b) ⊎ ((c < d) ⊎ (k ≡ true)) → (a < n) ⊎ ((c < m) ⊎ (k ≡ true))
later_cause a b c d k n m ne me (inl h) = inl (omega (arith, h, ne))
later_cause a b c d k n m ne me (inr (inl h)) = inr (inl (omega (arith, h, me)))
later_cause a b c d k n m ne me (inr (inr h)) = inr (inr h)

or_true : (a b : Bool) → b ≡ true → (a || b) ≡ true
or_true true b e = refl
or_true false b e = e

called_cause : (a b c d : ℕ) (k t : Bool) (n m : ℕ) → n ≡ b → m ≡ d → (a < b) ⊎ ((c < d) ⊎ (k ≡ true)) → (a < n) ⊎ ((c < m) ⊎ ((k || t) ≡ true))
called_cause a b c d k t n m ne me (inl h) = inl (omega (arith, h, ne))
called_cause a b c d k t n m ne me (inr (inl h)) = inr (inl (omega (arith, h, me)))
called_cause a b c d k t n m ne me (inr (inr h)) = inr (inr (ap (λ (x : Bool). x || t) h))

grown_cause : (a b c d : ℕ) (k : Bool) (n m : ℕ) → b ≤ n → d ≤ m → (a < b) ⊎ ((c < d) ⊎ (k ≡ true)) → (a < n) ⊎ ((c < m) ⊎ (k ≡ true))
grown_cause a b c d k n m ne me (inl h) = inl (omega (arith, h, ne))
grown_cause a b c d k n m ne me (inr (inl h)) = inr (inl (omega (arith, h, me)))
grown_cause a b c d k n m ne me (inr (inr h)) = inr (inr h)

module _ {P S : Type 0} where
  -- by whether something moved
  abbrev pub By : Bool → Life P S → Life P S → Type 0
  By true u v = HasMoved u v
  By false u v = IsStill u v

  still_refl : (u : Life P S) → IsStill u u
  still_refl u = record { x = refl; input = refl; sent = refl; more = []; calls = sym (append-nil u.parts.calls); quiet = refl }

  -- the same parts
  pub record Same (v w : Life P S) : Type 0 where
    pub x : w.parts.x ≡ v.parts.x
    pub sent : w.parts.sent ≡ v.parts.sent
    pub calls : w.parts.calls ≡ v.parts.calls

  moved_same : (u v w : Life P S) → Same v w → HasMoved u v → HasMoved u w
  moved_same u v w s h = record {
    more = h.more;
    calls = s.calls ∙ h.calls;
    cause = later_cause (length u.parts.sent) (length v.parts.sent) (length u.parts.x) (length v.parts.x) (is_loud h.more) (length w.parts.sent) (length w.parts.x) (ap length s.sent) (ap length s.x) h.cause;
  }

  by_same : (b : Bool) (u v w : Life P S) → Same v w → w.input ≡ v.input → By b u v → By b u w
  by_same true u v w s i h = moved_same u v w s h
  by_same false u v w s i h = record { x = s.x ∙ h.x; input = i ∙ h.input; sent = s.sent ∙ h.sent; more = h.more; calls = s.calls ∙ h.calls; quiet = h.quiet }

  same_parts : (v w : Life P S) → w.parts ≡ v.parts → Same v w
  same_parts v w e = record { x = ap (λ (c : Core). c.x) e; sent = ap (λ (c : Core). c.sent) e; calls = ap (λ (c : Core). c.calls) e }

  same_filled : (v : Life P S) (c : Core) → IsFilled v.parts c → Same v (life c v.input v.port v.seat)
  same_filled v c f = record { x = ap (λ (d : Core). d.x) f.rest; sent = ap (λ (d : Core). d.sent) f.rest; calls = ap (λ (d : Core). d.calls) f.rest }

  -- a call more

  pub record Called (v : Life P S) (c : Own) (w : Life P S) : Type 0 where
    pub x : w.parts.x ≡ v.parts.x
    pub sent : w.parts.sent ≡ v.parts.sent
    pub calls : w.parts.calls ≡ v.parts.calls ++ c ∷ []
    pub input : w.input ≡ v.input

  called_parts : (v w : Life P S) (e : Entry) (r : Reply) → IsCalled v.parts e r w.parts → w.input ≡ v.input → Called v (e, r) w
  called_parts v w e r i n = record { x = ap (λ (p : Past). p.x) i.past; sent = ap (λ (p : Past). p.sent) i.past; calls = ap (λ (p : Past). p.calls) i.past; input = n }

  joined_calls : (u v w : Life P S) (more : List Own) (c : Own) → w.parts.calls ≡ v.parts.calls ++ c ∷ [] → v.parts.calls ≡ u.parts.calls ++ more → w.parts.calls ≡ u.parts.calls ++ (more ++ c ∷ [])
  joined_calls u v w more c e f = e ∙ ap (λ (l : List Own). l ++ c ∷ []) f ∙ append_assoc u.parts.calls more (c ∷ [])

  moved_called : (u v w : Life P S) (c : Own) → Called v c w → HasMoved u v → HasMoved u w
  moved_called u v w c k h = record {
    more = h.more ++ c ∷ [];
    calls = joined_calls u v w h.more c k.calls h.calls;
    cause = subst (λ (b : Bool). (length u.parts.sent < length w.parts.sent) ⊎ ((length u.parts.x < length w.parts.x) ⊎ (b ≡ true))) (sym (loud_more h.more c))
        (called_cause (length u.parts.sent) (length v.parts.sent) (length u.parts.x) (length v.parts.x) (is_loud h.more) (is_loud_call c) (length w.parts.sent) (length w.parts.x) (ap length k.sent) (ap length k.x) h.cause);
  }

  still_called : (t : Bool) (u v w : Life P S) (c : Own) → is_loud_call c ≡ t → Called v c w → IsStill u v → By t u w
  still_called true u v w c e k h = record {
    more = h.more ++ c ∷ [];
    calls = joined_calls u v w h.more c k.calls h.calls;
    cause = inr (inr (loud_more h.more c ∙ or_true (is_loud h.more) (is_loud_call c) e));
  }
  still_called false u v w c e k h = record {
    x = k.x ∙ h.x;
    input = k.input ∙ h.input;
    sent = k.sent ∙ h.sent;
    more = h.more ++ c ∷ [];
    calls = joined_calls u v w h.more c k.calls h.calls;
    quiet = loud_more h.more c ∙ ap (λ (b : Bool). b || is_loud_call c) h.quiet ∙ e;
  }

  by_called : (b : Bool) (u v w : Life P S) (c : Own) → Called v c w → By b u v → By (b || is_loud_call c) u w
  by_called true u v w c k h = moved_called u v w c k h
  by_called false u v w c k h = still_called (is_loud_call c) u v w c refl k h

  -- bytes more, sent or fed

  -- something moved, or nothing but what was received
  abbrev pub Ready : Life P S → Life P S → Type 0
  Ready u v = (b : Bool) × ((t : Life P S) × (By b u t × Same t v))

  ready_by : (b : Bool) (u v : Life P S) → By b u v → Ready u v
  ready_by b u v h = (b, (v, (h, record { x = refl; sent = refl; calls = refl })))

  fed_ready : (b : Bool) (u t v w : Life P S) → By b u t → Same t v → length v.parts.x < length w.parts.x → w.parts.sent ≡ v.parts.sent → w.parts.calls ≡ v.parts.calls → HasMoved u w
  fed_ready true u t v w h s g se ce = record {
    more = h.more;
    calls = ce ∙ s.calls ∙ h.calls;
    cause = grown_cause (length u.parts.sent) (length t.parts.sent) (length u.parts.x) (length t.parts.x) (is_loud h.more) (length w.parts.sent) (length w.parts.x) (omega (arith, ap length se, ap length s.sent)) (omega (arith, g, ap length s.x)) h.cause;
  }
  fed_ready false u t v w h s g se ce = record {
    more = h.more;
    calls = ce ∙ s.calls ∙ h.calls;
    cause = inr (inl (omega (arith, g, ap length s.x, ap length h.x)));
  }

  by_sent : (b : Bool) (u v w : Life P S) → By b u v → length v.parts.sent < length w.parts.sent → w.parts.x ≡ v.parts.x → w.parts.calls ≡ v.parts.calls → HasMoved u w
  by_sent true u v w h g xe ce = record {
    more = h.more;
    calls = ce ∙ h.calls;
    cause = grown_cause (length u.parts.sent) (length v.parts.sent) (length u.parts.x) (length v.parts.x) (is_loud h.more) (length w.parts.sent) (length w.parts.x) (omega (arith, g)) (omega (arith, ap length xe)) h.cause;
  }
  by_sent false u v w h g xe ce = record { more = h.more; calls = ce ∙ h.calls; cause = inl (omega (arith, g, ap length h.sent)) }

  did_answer : (b : Bool) (a : Turn) (u w : Life P S) → a ≡ answer b → By b u w → Did a u w
  did_answer true a u w e h = subst (λ (t : Turn). Did t u w) (sym e) h
  did_answer false a u w e h = subst (λ (t : Turn). Did t u w) (sym e) h

  did_ended : (e : End) (a : Turn) (u w : Life P S) → a ≡ Ended e → Did a u w
  did_ended e a u w is = subst (λ (t : Turn). Did t u w) (sym is) tt

  is_ended : (e : End) (u v : Life P S) (a : Turn) (w : Life P S) → IsEnded e v a w → Did a u w
  is_ended e u v a w i = did_ended e a u w i.ended

module _ {P S : Type 0} (asks : P → S → ℕ → Entry → Made → P → S → Type 0) where
  -- ---- step 6

  did_take : (u v : Life P S) (p : Playing) (moved : Bool) (came : Made) (w : Life P S) (a : Turn) → TakeMade v (take_entry v.parts p) moved came w a → w.input ≡ v.input → By moved u v → Did a u w
  did_take u v p moved (made.Answer r) w a (i, inl t) n h =
      did_answer (moved || is_loud_call (take_entry v.parts p, r)) a u w t.0 (by_called moved u v w (take_entry v.parts p, r) (called_parts v w (take_entry v.parts p) r i n) h)
  did_take u v p moved (made.Answer r) w a (i, inr t) n h = did_ended _ a u w t
  did_take u v p moved (made.Busy f) w a t n h = did_answer moved a u w t.1 (by_same moved u v w (same_parts v w t.0) n h)
  did_take u v p moved (made.Worn f) w a t n h = did_ended _ a u w t.1
  did_take u v p moved (made.OutOfMemory f) w a t n h = did_ended _ a u w t.1

  did_taken_by : (o : Option Playing) (u v : Life P S) (moved : Bool) (a : Turn) (w : Life P S) → TakenBy asks o v moved a w → By moved u v → Did a u w
  did_taken_by None u v moved a w t h = did_answer moved a u w t.0 (subst (By moved u) (sym t.1) h)
  did_taken_by (Some p) u v moved a w t h = did_take u v p moved t.came w a t.taken t.input h

  did_taken : (u v : Life P S) (moved : Bool) (a : Turn) (w : Life P S) → Taken asks v moved a w → By moved u v → Did a u w
  did_taken u v moved a w (inl t) h =
      did_taken_by (takes t.0) u (life t.0 v.input v.port v.seat) moved a w t.2 (by_same moved u v (life t.0 v.input v.port v.seat) (same_filled v t.0 t.1) refl h)
  did_taken u v moved a w (inr t) h = is_ended _ u v a w t

  -- ---- a call that waited

  moved_call : (u v m : Life P S) (e : Entry) (came : Made) → CallMade v e came m → m.input ≡ v.input → HasMoved u v → HasMoved u m
  moved_call u v m e (made.Answer r) c n h = moved_called u v m (e, r) (called_parts v m e r c n) h
  moved_call u v m e (made.Busy f) c n h = moved_same u v m (same_parts v m c) h
  moved_call u v m e (made.Worn f) c n h = moved_same u v m (same_parts v m c) h
  moved_call u v m e (made.OutOfMemory f) c n h = moved_same u v m (same_parts v m c) h

  did_after : (u v m : Life P S) (came : Made) (a : Turn) (w : Life P S) → AfterCall asks v came m a w → HasMoved u m → Did a u w
  did_after u v m (made.Answer r) a w (inl t) h = did_taken u m true a w t.1 h
  did_after u v m (made.Answer r) a w (inr t) h = is_ended _ u m a w t
  did_after u v m (made.Busy f) a w t h = did_taken u m true a w t h
  did_after u v m (made.Worn f) a w t h = is_ended _ u m a w t
  did_after u v m (made.OutOfMemory f) a w t h = is_ended _ u m a w t

  did_called : (o : Option Entry) (u v : Life P S) (a : Turn) (w : Life P S) → CalledBy asks o v a w → HasMoved u v → Did a u w
  did_called None u v a w t h = did_taken u v true a w t h
  did_called (Some e) u v a w t h = did_after u v t.1.0 t.0 a w t.1.1.1 (moved_call u v t.1.0 e t.0 t.1.1.0.called t.1.1.0.input h)

  or_not : (b c : Bool) → c ≡ false → (b || not c) ≡ true
  or_not true c e = refl
  or_not false c e = ap not e

  module _ (desk : Ask → Grant) where
    -- ---- step 5, where there is input

    did_fed_as : (by : FedBy) (u v : Life P S) (moved : Bool) (a : Turn) (w : Life P S) → FedAs asks desk by v moved a w → is_nil v.input ≡ false → Ready u v → Did a u w
    did_fed_as Quietly u v moved a w t n h =
        let c = t.0 in
        let f = t.1.0 in
        let grown : length v.parts.x < length c.x = omega (arith, some_bytes v.input n, ap length f.split, length-append f.fed [], ap length f.x, length-append v.parts.x f.fed) in
        let m = fed_ready h.0 u h.1.0 v (life c [] v.port v.seat) h.1.1.0 h.1.1.1 grown (ap (λ (x : Fixed). x.sent) f.fixed) (ap (λ (x : Fixed). x.calls) f.fixed) in
        did_taken u (life c [] v.port v.seat) true a w (subst (λ (b : Bool). Taken asks (life c [] v.port v.seat) b a w) (or_not moved (is_nil v.input) n) t.1.2) m
    did_fed_as Loudly u v moved a w t n h =
        let c = t.0 in
        let f = t.1.1.0 in
        let m = fed_ready h.0 u h.1.0 v (life c t.1.0 v.port v.seat) h.1.1.0 h.1.1.1 t.1.1.3 (ap (λ (x : Fixed). x.sent) f.fixed) (ap (λ (x : Fixed). x.calls) f.fixed) in
        did_called c.kept u (life c t.1.0 v.port v.seat) a w t.1.1.2 m
    did_fed_as (Stopping e) u v moved a w t n h = is_ended e u (life t.0 v.input v.port v.seat) a w t.1.1

    did_fed : (u v : Life P S) (moved : Bool) (a : Turn) (w : Life P S) → Fed asks desk v moved a w → is_nil v.input ≡ false → Ready u v → Did a u w
    did_fed u v moved a w t n h = did_fed_as t.0 u v moved a w t.1 n h

    not_nil : (l : List ℕ) → 0 < length l → is_nil l ≡ false
    not_nil [] some = absurd (omega (arith, some))
    not_nil (b ∷ l) some = refl

    module _ {L : Type 0} (hears : L → ℕ → Came → L → Type 0) (tells : L → Option LinkTold) (counts : L → LinkCounts)
        (hears_mean : (l : L) (room : ℕ) (c : Came) (m : L) → 0 < room → hears l room c m → HearStep room (tells l) (tells m) (counts l) (counts m) c) where
      did_came : (came : Came) (u v : Life P S) (moved : Bool) (l : L) (a : Turn) (w : Life P S) (m : L) → hears l 4096 came m → CameAs asks desk came v moved a w → By moved u v → Did a u w
      did_came (CameBytes b) u v moved l a w m k (inl t) h =
          let some = (hears_mean l 4096 (CameBytes b) m (omega arith) k).count.0 in
          did_fed u (life v.parts b v.port v.seat) true a w t (not_nil b some) (moved, (v, (h, record { x = refl; sent = refl; calls = refl })))
      did_came (CameBytes b) u v moved l a w m k (inr t) h = is_ended _ u v a w t
      did_came CameNotYet u v moved l a w m k t h = did_taken u v moved a w t h
      did_came CameEnd u v moved l a w m k t h = is_ended _ u v a w t
      did_came CameFailed u v moved l a w m k t h = is_ended _ u v a w t

      did_empty : (b : Bool) (u v : Life P S) (l : L) (moved : Bool) (a : Turn) (w : Life P S) (m : L) → is_nil v.input ≡ b → EmptyBy asks desk hears b v l moved a w m → By moved u v → Did a u w
      did_empty true u v l moved a w m e t h = did_came t.0 u v moved l a w m t.1.0 t.1.1 h
      did_empty false u v l moved a w m e t h = did_fed u v moved a w t.0 e (ready_by moved u v h)

      did_input_by : (b : Bool) (u v : Life P S) (l : L) (moved : Bool) (a : Turn) (w : Life P S) (m : L) → InputBy asks desk hears b v l moved a w m → By moved u v → Did a u w
      did_input_by true u v l moved a w m t h = did_empty (is_nil v.input) u v l moved a w m refl t h
      did_input_by false u v l moved a w m t h = did_taken u v moved a w t.0 h

      did_input : (u v : Life P S) (l : L) (moved : Bool) (a : Turn) (w : Life P S) (m : L) → Input asks desk hears v l moved a w m → By moved u v → Did a u w
      did_input u v l moved a w m t h = did_input_by (is_hungry v.parts) u v l moved a w m t h

      module _ (says : L → List ℕ → Said → L → Type 0)
          (says_mean : (l : L) (piece : List ℕ) (c : Said) (m : L) → 0 < length piece → says l piece c m → SayStep piece (tells l) (tells m) (counts l) (counts m) c) where
        -- ---- step 4

        did_sent_as : (q : Said) (u v : Life P S) (l k : L) (moved : Bool) (a : Turn) (w : Life P S) (m : L) → is_nil (pending v.parts.outgoing) ≡ false → says l (take 16384 (pending v.parts.outgoing)) q k
            → SentAs asks desk hears says q v k moved a w m → By moved u v → Did a u w
        did_sent_as (said.Took n) u v l k moved a w m e s t h =
            let b = pending v.parts.outgoing in
            let piece : 0 < length (take 16384 b) = omega (arith, length-take 16384 b, some_bytes b e) in
            let count = (says_mean l (take 16384 b) (said.Took n) k piece s).count in
            let c = t.0 in
            let i = t.1.0 in
            let grown : length v.parts.sent < length c.sent = omega (arith, ap length (ap (λ (p : Past). p.sent) i.past), length-append v.parts.sent (take n b), length-take n b, length-take 16384 b, count.0, count.1) in
            did_input u (life c v.input v.port v.seat) k true a w m t.1.1 (by_sent moved u v (life c v.input v.port v.seat) h grown (ap (λ (p : Past). p.x) i.past) (ap (λ (p : Past). p.calls) i.past))
        did_sent_as said.NotYet u v l k moved a w m e s t h = did_input u v k moved a w m t h
        did_sent_as said.Failed u v l k moved a w m e s t h = is_ended _ u v a w t.0
        did_sent_as said.OutOfMemory u v l k moved a w m e s t h = is_ended _ u v a w t.0

        did_send : (b : Bool) (u v : Life P S) (l : L) (moved : Bool) (a : Turn) (w : Life P S) (m : L) → is_nil (pending v.parts.outgoing) ≡ b → SendBy asks desk hears says b v l moved a w m → By moved u v → Did a u w
        did_send true u v l moved a w m e t h = did_input u v l moved a w m t h
        did_send false u v l moved a w m e t h = did_sent_as t.0 u v l t.1.0 moved a w m e t.1.1.0 t.1.1.1 h

        did_sent : (u v : Life P S) (l : L) (moved : Bool) (a : Turn) (w : Life P S) (m : L) → Sent asks desk hears says v l moved a w m → By moved u v → Did a u w
        did_sent u v l moved a w m (inl t) h =
            did_send (is_nil (pending t.0.outgoing)) u (life t.0 v.input v.port v.seat) l moved a w m refl t.1.1 (by_same moved u v (life t.0 v.input v.port v.seat) (same_filled v t.0 t.1.0) refl h)
        did_sent u v l moved a w m (inr t) h = is_ended _ u v a w t.0

        -- ---- steps 3 and 2

        did_quit : (quit : Bool) (u v : Life P S) (l : L) (moved : Bool) (a : Turn) (w : Life P S) (m : L) → QuitBy asks desk hears says quit v l moved a w m → By moved u v → Did a u w
        did_quit true u v l moved a w m t h = is_ended _ u v a w t.0
        did_quit false u v l moved a w m t h = did_sent u v l moved a w m t h

        did_kept_by : (quit : Bool) (v k : Life P S) (e : Entry) (came : Made) (l : L) (a : Turn) (w : Life P S) (m : L) → is_take e.call ≡ false → CallMade v e came k → k.input ≡ v.input
            → AfterKept asks desk hears says quit v came k l a w m → Did a v w
        did_kept_by quit v k e (made.Answer r) l a w m f c n (inl t) =
            did_quit quit v k l true a w m t.1 (subst (λ (b : Bool). By b v k) (acts_loud e r f) (by_called false v v k (e, r) (called_parts v k e r c n) (still_refl v)))
        did_kept_by quit v k e (made.Answer r) l a w m f c n (inr t) = is_ended _ v k a w t.0
        did_kept_by quit v k e (made.Busy g) l a w m f c n t =
            did_answer false a v w t.0 (subst (IsStill v) (sym t.1) (by_same false v v k (same_parts v k c) n (still_refl v)))
        did_kept_by quit v k e (made.Worn g) l a w m f c n t = is_ended _ v k a w t.0
        did_kept_by quit v k e (made.OutOfMemory g) l a w m f c n t = is_ended _ v k a w t.0

        pub did_kept : (o : Option Entry) (quit : Bool) (v : Life P S) (l : L) (a : Turn) (w : Life P S) (m : L) → Acts o → KeptBy asks desk hears says o quit v l a w m → Did a v w
        did_kept None quit v l a w m f t = did_quit quit v v l false a w m t (still_refl v)
        did_kept (Some e) quit v l a w m f t = did_kept_by quit v t.1.0 e t.0 l a w m f t.1.1.0.called t.1.1.0.input t.1.1.1

-- ---- why it is idle

idle_not : (e : End) (a : Turn) → a ≡ Ended e → a ≡ Idle → ⊥
idle_not e a f g = let h : Ended e ≡ Idle = sym f ∙ g in absurd (cc)

moved_not : (a : Turn) → a ≡ Moved → a ≡ Idle → ⊥
moved_not a f g = let h : Moved ≡ Idle = sym f ∙ g in absurd (cc)

rose_later : (a b c : ℕ) → Rose a b → b ≤ c → Rose a c
rose_later a b c r le = record { later = omega (arith, r.later, le); higher = omega (arith, r.higher, le) }

module _ {P S : Type 0} (asks : P → S → ℕ → Entry → Made → P → S → Type 0) where
  take_busy : (v : Life P S) (e : Entry) (came : Made) (w : Life P S) (a : Turn) → TakeMade v e true came w a → a ≡ Idle → ⊥
  take_busy v e (made.Answer r) w a (i, inl t) g = moved_not a t.0 g
  take_busy v e (made.Answer r) w a (i, inr t) g = idle_not _ a t g
  take_busy v e (made.Busy f) w a t g = moved_not a t.1 g
  take_busy v e (made.Worn f) w a t g = idle_not _ a t.1 g
  take_busy v e (made.OutOfMemory f) w a t g = idle_not _ a t.1 g

  taken_by_busy : (o : Option Playing) (v : Life P S) (a : Turn) (w : Life P S) → TakenBy asks o v true a w → a ≡ Idle → ⊥
  taken_by_busy None v a w t g = moved_not a t.0 g
  taken_by_busy (Some p) v a w t g = take_busy v (take_entry v.parts p) t.came w a t.taken g

  taken_busy : (v : Life P S) (a : Turn) (w : Life P S) → Taken asks v true a w → a ≡ Idle → ⊥
  taken_busy v a w (inl t) g = taken_by_busy (takes t.0) (life t.0 v.input v.port v.seat) a w t.2 g
  taken_busy v a w (inr t) g = idle_not _ a t.ended g

  after_busy : (v m : Life P S) (came : Made) (a : Turn) (w : Life P S) → AfterCall asks v came m a w → a ≡ Idle → ⊥
  after_busy v m (made.Answer r) a w (inl t) g = taken_busy m a w t.1 g
  after_busy v m (made.Answer r) a w (inr t) g = idle_not _ a t.ended g
  after_busy v m (made.Busy f) a w t g = taken_busy m a w t g
  after_busy v m (made.Worn f) a w t g = idle_not _ a t.ended g
  after_busy v m (made.OutOfMemory f) a w t g = idle_not _ a t.ended g

  called_busy : (o : Option Entry) (v : Life P S) (a : Turn) (w : Life P S) → CalledBy asks o v a w → a ≡ Idle → ⊥
  called_busy None v a w t g = taken_busy v a w t g
  called_busy (Some e) v a w t g = after_busy v t.1.0 t.0 a w t.1.1.1 g

  module _ (desk : Ask → Grant) where
    fed_as_busy : (by : FedBy) (v : Life P S) (moved : Bool) (a : Turn) (w : Life P S) → (moved || not (is_nil v.input)) ≡ true → FedAs asks desk by v moved a w → a ≡ Idle → ⊥
    fed_as_busy Quietly v moved a w e t g = taken_busy (life t.0 [] v.port v.seat) a w (subst (λ (b : Bool). Taken asks (life t.0 [] v.port v.seat) b a w) e t.1.2) g
    fed_as_busy Loudly v moved a w e t g = called_busy t.0.kept (life t.0 t.1.0 v.port v.seat) a w t.1.1.2 g
    fed_as_busy (Stopping x) v moved a w e t g = idle_not x a t.1.1.ended g

    module _ {L : Type 0} (hears : L → ℕ → Came → L → Type 0) (tells : L → Option LinkTold) (counts : L → LinkCounts)
        (hears_mean : (l : L) (room : ℕ) (c : Came) (m : L) → 0 < room → hears l room c m → HearStep room (tells l) (tells m) (counts l) (counts m) c) where
      -- a recv lets the waits stand or rise
      came_later : (came : Came) (l m : L) → hears l 4096 came m → (counts l).waits ≤ (counts m).waits
      came_later (CameBytes b) l m k = let s = (hears_mean l 4096 (CameBytes b) m (omega arith) k).counts in omega (arith, s.1)
      came_later CameEnd l m k = let s = (hears_mean l 4096 CameEnd m (omega arith) k).counts in omega (arith, s.1)
      came_later CameNotYet l m k = let s = (hears_mean l 4096 CameNotYet m (omega arith) k).counts in omega (arith, s.1.later)
      came_later CameFailed l m k = let s = (hears_mean l 4096 CameFailed m (omega arith) k).counts in omega (arith, s.1)

      same_waits : (l m : L) → m ≡ l → (counts l).waits ≤ (counts m).waits
      same_waits l m e = omega (arith, ap (λ (x : L). (counts x).waits) e)

      empty_later : (b : Bool) (v : Life P S) (l : L) (moved : Bool) (a : Turn) (w : Life P S) (m : L) → EmptyBy asks desk hears b v l moved a w m → (counts l).waits ≤ (counts m).waits
      empty_later true v l moved a w m t = came_later t.0 l m t.1.0
      empty_later false v l moved a w m t = same_waits l m t.1

      input_by_later : (b : Bool) (v : Life P S) (l : L) (moved : Bool) (a : Turn) (w : Life P S) (m : L) → InputBy asks desk hears b v l moved a w m → (counts l).waits ≤ (counts m).waits
      input_by_later true v l moved a w m t = empty_later (is_nil v.input) v l moved a w m t
      input_by_later false v l moved a w m t = same_waits l m t.1

      -- where something moved it isn't idle
      came_busy : (came : Came) (v : Life P S) (a : Turn) (w : Life P S) → CameAs asks desk came v true a w → a ≡ Idle → ⊥
      came_busy (CameBytes b) v a w (inl t) g = fed_as_busy t.0 (life v.parts b v.port v.seat) true a w refl t.1 g
      came_busy (CameBytes b) v a w (inr t) g = idle_not _ a t.ended g
      came_busy CameNotYet v a w t g = taken_busy v a w t g
      came_busy CameEnd v a w t g = idle_not _ a t.ended g
      came_busy CameFailed v a w t g = idle_not _ a t.ended g

      empty_busy : (b : Bool) (v : Life P S) (l : L) (a : Turn) (w : Life P S) (m : L) → EmptyBy asks desk hears b v l true a w m → a ≡ Idle → ⊥
      empty_busy true v l a w m t g = came_busy t.0 v a w t.1.1 g
      empty_busy false v l a w m t g = fed_as_busy t.0.0 v true a w refl t.0.1 g

      input_by_busy : (b : Bool) (v : Life P S) (l : L) (a : Turn) (w : Life P S) (m : L) → InputBy asks desk hears b v l true a w m → a ≡ Idle → ⊥
      input_by_busy true v l a w m t g = empty_busy (is_nil v.input) v l a w m t g
      input_by_busy false v l a w m t g = taken_busy v a w t.0 g

      -- where nothing did, and it is hungry, the recv found nothing
      came_waits : (came : Came) (v : Life P S) (moved : Bool) (l : L) (a : Turn) (w : Life P S) (m : L) → hears l 4096 came m → CameAs asks desk came v moved a w → a ≡ Idle → Rose (counts l).waits (counts m).waits
      came_waits (CameBytes b) v moved l a w m k (inl t) g = absurd (fed_as_busy t.0 (life v.parts b v.port v.seat) true a w refl t.1 g)
      came_waits (CameBytes b) v moved l a w m k (inr t) g = absurd (idle_not _ a t.ended g)
      came_waits CameNotYet v moved l a w m k t g = (hears_mean l 4096 CameNotYet m (omega arith) k).counts.1
      came_waits CameEnd v moved l a w m k t g = absurd (idle_not _ a t.ended g)
      came_waits CameFailed v moved l a w m k t g = absurd (idle_not _ a t.ended g)

      or_some : (moved b : Bool) → b ≡ false → (moved || not b) ≡ true
      or_some true b e = refl
      or_some false b e = ap not e

      empty_waits : (b : Bool) (v : Life P S) (l : L) (moved : Bool) (a : Turn) (w : Life P S) (m : L) → is_nil v.input ≡ b → EmptyBy asks desk hears b v l moved a w m → a ≡ Idle → Rose (counts l).waits (counts m).waits
      empty_waits true v l moved a w m e t g = came_waits t.0 v moved l a w m t.1.0 t.1.1 g
      empty_waits false v l moved a w m e t g = absurd (fed_as_busy t.0.0 v moved a w (or_some moved (is_nil v.input) e) t.0.1 g)

      input_by_waits : (b : Bool) (v : Life P S) (l : L) (moved : Bool) (a : Turn) (w : Life P S) (m : L) → b ≡ true → InputBy asks desk hears b v l moved a w m → a ≡ Idle → Rose (counts l).waits (counts m).waits
      input_by_waits true v l moved a w m e t g = empty_waits (is_nil v.input) v l moved a w m refl t g
      input_by_waits false v l moved a w m e t g = absurd (cc)

      module _ (says : L → List ℕ → Said → L → Type 0)
          (says_mean : (l : L) (piece : List ℕ) (c : Said) (m : L) → 0 < length piece → says l piece c m → SayStep piece (tells l) (tells m) (counts l) (counts m) c) where
        sent_as_busy : (q : Said) (v : Life P S) (k : L) (a : Turn) (w : Life P S) (m : L) → SentAs asks desk hears says q v k true a w m → a ≡ Idle → ⊥
        sent_as_busy (said.Took n) v k a w m t g = input_by_busy (is_hungry t.0) (life t.0 v.input v.port v.seat) k a w m t.1.1 g
        sent_as_busy said.NotYet v k a w m t g = input_by_busy (is_hungry v.parts) v k a w m t g
        sent_as_busy said.Failed v k a w m t g = idle_not _ a t.0.ended g
        sent_as_busy said.OutOfMemory v k a w m t g = idle_not _ a t.0.ended g

        send_busy : (b : Bool) (v : Life P S) (l : L) (a : Turn) (w : Life P S) (m : L) → SendBy asks desk hears says b v l true a w m → a ≡ Idle → ⊥
        send_busy true v l a w m t g = input_by_busy (is_hungry v.parts) v l a w m t g
        send_busy false v l a w m t g = sent_as_busy t.0 v t.1.0 a w m t.1.1.1 g

        quit_busy : (quit : Bool) (v : Life P S) (l : L) (a : Turn) (w : Life P S) (m : L) → QuitBy asks desk hears says quit v l true a w m → a ≡ Idle → ⊥
        quit_busy true v l a w m t g = idle_not _ a t.0.ended g
        quit_busy false v l a w m (inl t) g = send_busy (is_nil (pending t.0.outgoing)) (life t.0 v.input v.port v.seat) l a w m t.1.1 g
        quit_busy false v l a w m (inr t) g = idle_not _ a t.0.ended g

        sent_as_waits : (q : Said) (v : Life P S) (l k : L) (a : Turn) (w : Life P S) (m : L) → 0 < length (take 16384 (pending v.parts.outgoing)) → says l (take 16384 (pending v.parts.outgoing)) q k
            → SentAs asks desk hears says q v k false a w m → a ≡ Idle → Rose (counts l).waits (counts m).waits
        sent_as_waits (said.Took n) v l k a w m some s t g = absurd (input_by_busy (is_hungry t.0) (life t.0 v.input v.port v.seat) k a w m t.1.1 g)
        sent_as_waits said.NotYet v l k a w m some s t g =
            rose_later (counts l).waits (counts k).waits (counts m).waits (says_mean l (take 16384 (pending v.parts.outgoing)) said.NotYet k some s).counts.1 (input_by_later (is_hungry v.parts) v k false a w m t)
        sent_as_waits said.Failed v l k a w m some s t g = absurd (idle_not _ a t.0.ended g)
        sent_as_waits said.OutOfMemory v l k a w m some s t g = absurd (idle_not _ a t.0.ended g)

        nil_none : (l : List ℕ) → is_nil l ≡ true → length l ≤ 0
        nil_none [] e = omega arith
        nil_none (b ∷ l) e = absurd (cc)

        send_waits : (b : Bool) (v : Life P S) (l : L) (a : Turn) (w : Life P S) (m : L) → is_nil (pending v.parts.outgoing) ≡ b → v.parts.outgoing.others ≤ length (pending v.parts.outgoing)
            → SendBy asks desk hears says b v l false a w m → a ≡ Idle → Rose (counts l).waits (counts m).waits
        send_waits true v l a w m e o t g =
            let few : v.parts.outgoing.others ≤ 8192 = omega (arith, o, nil_none (pending v.parts.outgoing) e) in
            input_by_waits (is_hungry v.parts) v l false a w m (grind (arith, nat_tests, few)) t g
        send_waits false v l a w m e o t g =
            let b = pending v.parts.outgoing in
            sent_as_waits t.0 v l t.1.0 a w m (omega (arith, length-take 16384 b, some_bytes b e)) t.1.1.0 t.1.1.1 g

        quit_waits : (quit : Bool) (v : Life P S) (l : L) (a : Turn) (w : Life P S) (m : L) → v.parts.outgoing.others ≤ length (pending v.parts.outgoing) → QuitBy asks desk hears says quit v l false a w m → a ≡ Idle
            → Rose (counts l).waits (counts m).waits
        quit_waits true v l a w m o t g = absurd (idle_not _ a t.0.ended g)
        quit_waits false v l a w m o (inl t) g =
            send_waits (is_nil (pending t.0.outgoing)) (life t.0 v.input v.port v.seat) l a w m refl (omega (arith, o, t.1.0.others, ap length t.1.0.bytes)) t.1.1 g
        quit_waits false v l a w m o (inr t) g = absurd (idle_not _ a t.0.ended g)

        -- the busies of a port, where a call that came back busy says that they rose
        module _ (busies : P → ℕ) (rises : (p : P) (s : S) (place : ℕ) (e f : Entry) (q : P) (t : S) → asks p s place e (made.Busy f) q t → told.Rose (busies p) (busies q)) where
          idle_after : (quit : Bool) (v k : Life P S) (e : Entry) (came : Made) (l : L) (a : Turn) (w : Life P S) (m : L) → CallAsked asks v e came k → AfterKept asks desk hears says quit v came k l a w m → a ≡ Idle
              → told.Rose (busies v.port) (busies w.port) ⊎ Rose (counts l).waits (counts m).waits
          idle_after quit v k e (made.Answer r) l a w m c (inl t) g = absurd (quit_busy quit k l a w m t.1 g)
          idle_after quit v k e (made.Answer r) l a w m c (inr t) g = absurd (idle_not _ a t.0.ended g)
          idle_after quit v k e (made.Busy f) l a w m c t g = inl (subst (λ (x : Life P S). told.Rose (busies v.port) (busies x.port)) (sym t.1) (rises v.port v.seat c.place e f k.port k.seat c.asked))
          idle_after quit v k e (made.Worn f) l a w m c t g = absurd (idle_not _ a t.0.ended g)
          idle_after quit v k e (made.OutOfMemory f) l a w m c t g = absurd (idle_not _ a t.0.ended g)

          idle_kept : (o : Option Entry) (quit : Bool) (v : Life P S) (l : L) (a : Turn) (w : Life P S) (m : L) → v.parts.outgoing.others ≤ length (pending v.parts.outgoing) → KeptBy asks desk hears says o quit v l a w m → a ≡ Idle
              → told.Rose (busies v.port) (busies w.port) ⊎ Rose (counts l).waits (counts m).waits
          idle_kept None quit v l a w m o t g = inr (quit_waits quit v l a w m o t g)
          idle_kept (Some e) quit v l a w m o t g = idle_after quit v t.1.0 e t.0 l a w m t.1.1.0 t.1.1.1 g

          may_by : (a : Turn) (x y : ℕ) (c d : LinkCounts) → (a ≡ Idle → told.Rose x y ⊎ Rose c.waits d.waits) → MayBe a x y c d
          may_by Moved x y c d f = tt
          may_by Idle x y c d f = f refl
          may_by (Ended e) x y c d f = tt

          pub may_kept : (o : Option Entry) (quit : Bool) (v : Life P S) (l : L) (a : Turn) (w : Life P S) (m : L) → v.parts.outgoing.others ≤ length (pending v.parts.outgoing) → KeptBy asks desk hears says o quit v l a w m
              → MayBe a (busies v.port) (busies w.port) (counts l) (counts m)
          may_kept o quit v l a w m le t = may_by a (busies v.port) (busies w.port) (counts l) (counts m) (λ g. idle_kept o quit v l a w m le t g)
