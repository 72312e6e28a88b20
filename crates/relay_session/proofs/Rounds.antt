-- The six steps of a turn, over plain values
use Rattle.std.proofs.Common.{◌≡◌, ◌≤◌, ◌<◌, ◌⊎◌, inl, inr, ℕ, ◌||◌, not, Bool, true, false, cond, List, [], ◌∷◌, ◌++◌, length, take, refl, sym, ap, ◌∙◌, subst, Option, Some, None, Result, Ok, Err, arith, append-nil}
use Rattle.std.proofs.lemmas.List.{length-take, take-append-le}
use Rattle.std.specs.Option.{is_some}
use Rattle.relay_outside.specs.Heard.{Came}
use Rattle.relay_outside.specs.declared.link.Said.{Said}
use Rattle.command_dialog.specs.declared.types.Ask.{Ask}
use Rattle.command_dialog.specs.declared.types.Grant.{Grant}
use Rattle.command_dialog.specs.declared.types.Playing.{Playing}
use Rattle.command_dialog.specs.State.{playing_in}
use Rattle.stream_model.specs.declared.calls.Entry.{Entry}
use Rattle.relay_session.specs.Feeding.{Fixed, Heard, Hears, IsFed, IsStopped, fixed_of}
use Rattle.relay_session.specs.Owing.{Owing, pending}
use Rattle.relay_session.specs.Places.{IsAt, IsOffered, IsThere}
use Rattle.relay_session.specs.Session.{place_by}
use Rattle.relay_session.proofs.Placing.{place_there}
use Rattle.relay_session.specs.SeatState.{SeatState}
use Rattle.relay_session.specs.Turns.{AfterCall, AfterKept, CalledBy, CameAs, EmptyBy, Fed, Input, InputBy, IsEnded, IsFilled, IsTried, KeptBy, Life, Loudly, Quietly, QuitBy, SendBy, Sent, SentAs, StandsOnBefore, Stopping, Taken, TriedAs, is_held_back, is_hungry, is_nil, life, takes, takes_if}
use Rattle.relay_session.specs.declared.core_fields.Core.{Core}
use Rattle.relay_session.specs.declared.end.End.{End}
use Rattle.relay_session.specs.declared.end.End.TheVariants as end
use Rattle.relay_session.specs.declared.seat_answers.Made.{Made}
use Rattle.relay_session.specs.declared.seat_answers.Made.TheVariants as made
use Rattle.relay_session.specs.declared.turn.Turn.{Turn}
use Rattle.relay_session.specs.declared.turn.Turn.TheVariants.{Idle, Ended}

-- ---- what a Take asks for

takes_by : (nothing held waits : Bool) (o : Option Playing) (p : Playing) → takes_if nothing held waits o ≡ Some p → (nothing ≡ true) × (waits ≡ false) × (o ≡ Some p)
takes_by nothing held waits None p e = absurd (let h : None ≡ Some p = e in cc)
takes_by true true waits (Some q) p e = absurd (let h : None ≡ Some p = e in cc)
takes_by true false true (Some q) p e = absurd (let h : None ≡ Some p = e in cc)
takes_by false held waits (Some q) p e = absurd (let h : None ≡ Some p = e in cc)
takes_by true false false (Some q) p e = (refl, refl, unpaused q.paused e)
  where
    unpaused : (b : Bool) → (cond (not b) (Some q) None) ≡ Some p → Some q ≡ Some p
    unpaused true f = absurd (let h : None ≡ Some p = f in cc)
    unpaused false f = f

nil_is : (l : List ℕ) → is_nil l ≡ true → l ≡ []
nil_is [] e = refl
nil_is (b ∷ l) e = absurd (cc)

none_is : {X : Type 0} (o : Option X) → is_some o ≡ false → o ≡ None
none_is None e = refl
none_is (Some x) e = absurd (cc)

pub takes_some : (c : Core) (p : Playing) → Some p ≡ takes c → (pending c.outgoing ≡ []) × (c.kept ≡ None) × (playing_in c.dialog.phase ≡ Some p)
takes_some c p e =
    let t = takes_by (is_nil (pending c.outgoing)) (is_held_back c.outbound) (is_some c.kept) (playing_in c.dialog.phase) p (sym e) in
    (nil_is (pending c.outgoing) t.0, none_is c.kept t.1, t.2)

-- ---- where it is

pub same_core : (c : Core) (e : Entry) → c.kept ≡ Some e → record c { kept = Some e } ≡ c
same_core c e k = ap (λ (o : Option Entry). record c { kept = o }) (sym k)

-- ---- what is sent

pub some_pending : (o : Owing) → is_nil o.ready ≡ false → is_nil (pending o) ≡ false
some_pending o e = some_by o.ready o.rest e
  where
    some_by : (l r : List ℕ) → is_nil l ≡ false → is_nil (l ++ r) ≡ false
    some_by [] r e = absurd (cc)
    some_by (b ∷ l) r e = refl

pub first_pending : (o : Owing) (piece : List ℕ) → piece ≡ take 16384 o.ready → (16384 ≤ length o.ready) ⊎ (o.rest ≡ []) → piece ≡ take 16384 (pending o)
first_pending o piece e (inl le) = e ∙ sym (take-append-le 16384 o.ready o.rest le)
first_pending o piece e (inr none) = e ∙ ap (take 16384) (sym (append-nil o.ready) ∙ ap (λ (l : List ℕ). o.ready ++ l) (sym none))

-- what is sent is something, where something is encoded
pub sent_something : (l piece : List ℕ) → piece ≡ take 16384 l → is_nil l ≡ false → 0 < length piece
sent_something [] piece e f = absurd (cc)
sent_something (b ∷ l) piece e f = omega (arith, ap length e, length-take 16384 (b ∷ l))

pub sent_within : (l piece : List ℕ) (most n : ℕ) → piece ≡ take most l → n ≤ length piece → n ≤ length l
sent_within l piece most n e le = omega (arith, le, ap length e, length-take most l)

pub at_heard : {Q : Type 0} (fits : ℕ → Q → Type 0) (count : ℕ) (desk : Ask → Grant) (c d : Core) (s : SeatState Q) (b : Bool) → IsAt fits count c s → IsOffered desk count → b ≡ true → Hears desk c d b → fixed_of d ≡ fixed_of c → IsAt fits count d s
at_heard fits count desk c d s b a o be h f =
    let k : Hears desk c d true = subst (Hears desk c d) be h in
    let put : d.place ≡ place_by desk c.dialog c.place k.0 = ap (λ (x : Heard). x.place) k.1 in
    record { fit = a.fit; there = subst (IsThere count) (sym put) (place_there desk c.dialog k.0 c.place count o a.there); calls = ap (λ (x : Fixed). x.calls) f ∙ a.calls }

ok_differs : (r : Result Bool End) → r ≡ Ok true → r ≡ Ok false → ⊥
ok_differs (Ok true) e f = absurd (cc)
ok_differs (Ok false) e f = absurd (cc)
ok_differs (Err x) e f = absurd (cc)

module _ {P S : Type 0} (asks : P → S → ℕ → Entry → Made → P → S → Type 0) where
  -- ---- step 6

  -- ---- the call that a message asked for

  after_tried : (v m w : Life P S) (came : Made) (result : Result Bool End) (b : Bool) (a : Turn) → result ≡ Ok b → TriedAs v came result m → Taken asks m true a w → AfterCall asks v came m a w
  after_tried v m w (made.Answer r) result b a e (inl t) k = inl (t.1, k, t.2)
  after_tried v m w (made.Answer r) result b a e (inr t) k = absurd (let h : Ok b ≡ Err end.OutOfMemory = sym e ∙ t in cc)
  after_tried v m w (made.Busy f) result b a e t k = k
  after_tried v m w (made.Worn f) result b a e t k = absurd (let h : Ok b ≡ Err end.Worn = sym e ∙ t in cc)
  after_tried v m w (made.OutOfMemory f) result b a e t k = absurd (let h : Ok b ≡ Err end.OutOfMemory = sym e ∙ t in cc)

  err_same : (x y : End) (r : Result Bool End) → r ≡ Err x → r ≡ Err y → x ≡ y
  err_same x y r e f = let h : Err x ≡ Err y = sym e ∙ f in cc

  ends_here : (m : Life P S) (x y : End) (a : Turn) → x ≡ y → a ≡ Ended x → IsEnded y m a m
  ends_here m x y a e ae = record { ended = ae ∙ ap Ended e; gone = refl; port = refl; seat = refl }

  after_failed : (v m : Life P S) (came : Made) (result : Result Bool End) (x : End) (a : Turn) → result ≡ Err x → TriedAs v came result m → a ≡ Ended x → AfterCall asks v came m a m
  after_failed v m (made.Answer r) result x a e (inl t) ae = absurd (let h : Err x ≡ Ok true = sym e ∙ t.0 in cc)
  after_failed v m (made.Answer r) result x a e (inr t) ae = inr (ends_here m x end.OutOfMemory a (err_same x end.OutOfMemory result e t) ae)
  after_failed v m (made.Busy f) result x a e t ae = absurd (let h : Err x ≡ Ok false = sym e ∙ t in cc)
  after_failed v m (made.Worn f) result x a e t ae = ends_here m x end.Worn a (err_same x end.Worn result e t) ae
  after_failed v m (made.OutOfMemory f) result x a e t ae = ends_here m x end.OutOfMemory a (err_same x end.OutOfMemory result e t) ae

  called_as : (v w : Life P S) (e : Entry) (a : Turn) → v.parts.kept ≡ Some e → CalledBy asks (Some e) (life (record v.parts { kept = Some e }) v.input v.port v.seat) a w → CalledBy asks v.parts.kept v a w
  called_as v w e a k t =
      let T : Core → Type 0 = λ c. CalledBy asks (Some e) (life c v.input v.port v.seat) a w in
      subst (λ (o : Option Entry). CalledBy asks o v a w) (sym k) (subst T (same_core v.parts e k) t)

  pub called_some : (v m w : Life P S) (e : Entry) (result : Result Bool End) (b : Bool) (a : Turn) → v.parts.kept ≡ Some e → IsTried asks (life (record v.parts { kept = Some e }) v.input v.port v.seat) e result m → result ≡ Ok b
      → Taken asks m true a w → CalledBy asks v.parts.kept v a w
  called_some v m w e result b a k t r n =
      called_as v w e a k (t.0, (m, (t.1.0, after_tried (life (record v.parts { kept = Some e }) v.input v.port v.seat) m w t.0 result b a r t.1.1 n)))

  pub called_failed : (v m : Life P S) (e : Entry) (result : Result Bool End) (x : End) (a : Turn) → v.parts.kept ≡ Some e → IsTried asks (life (record v.parts { kept = Some e }) v.input v.port v.seat) e result m → result ≡ Err x
      → a ≡ Ended x → CalledBy asks v.parts.kept v a m
  called_failed v m e result x a k t r ae =
      called_as v m e a k (t.0, (m, (t.1.0, after_failed (life (record v.parts { kept = Some e }) v.input v.port v.seat) m t.0 result x a r t.1.1 ae)))

  module _ (desk : Ask → Grant) where
    -- ---- step 5

    pub fed_quiet : (v w : Life P S) (c : Core) (left : List ℕ) (some moved : Bool) (a : Turn) → IsFed v.parts v.input c left → left ≡ [] → Hears desk v.parts c false → some ≡ is_nil v.input
        → Taken asks (life c left v.port v.seat) (moved || not some) a w → StandsOnBefore desk v.parts c → Fed asks desk v moved a w
    fed_quiet v w c left some moved a f le h e t s =
        let T : Bool → Type 0 = λ b. Taken asks (life c [] v.port v.seat) (moved || not b) a w in
        let U : List ℕ → Type 0 = λ l. Taken asks (life c l v.port v.seat) (moved || not some) a w in
        (Quietly, (c, (subst (IsFed v.parts v.input c) le f, h, subst T e (subst U le t), s)))

    pub fed_loud : (v w : Life P S) (c : Core) (left : List ℕ) (moved : Bool) (a : Turn) → IsFed v.parts v.input c left → Hears desk v.parts c true → CalledBy asks c.kept (life c left v.port v.seat) a w → length v.parts.x < length c.x → StandsOnBefore desk v.parts c → Fed asks desk v moved a w
    fed_loud v w c left moved a f h t g s = (Loudly, (c, (left, (f, h, t, g, s))))

    pub fed_stopped : (v : Life P S) (c : Core) (left : List ℕ) (e : End) (moved : Bool) (a : Turn) → IsStopped v.parts v.input e c → a ≡ Ended e → Fed asks desk v moved a (life c left v.port v.seat)
    fed_stopped v c left e moved a s ae = (Stopping e, (c, (s, record { ended = ae; gone = refl; port = refl; seat = refl })))

    module _ {L : Type 0} (hears : L → ℕ → Came → L → Type 0) where
      pub input_came : (v w : Life P S) (l m : L) (came : Came) (moved : Bool) (a : Turn) → is_hungry v.parts ≡ true → is_nil v.input ≡ true → hears l 4096 came m → CameAs asks desk came v moved a w → Input asks desk hears v l moved a w m
      input_came v w l m came moved a h n s t =
          subst (λ (b : Bool). InputBy asks desk hears b v l moved a w m) (sym h) (subst (λ (b : Bool). EmptyBy asks desk hears b v l moved a w m) (sym n) (came, (s, t)))

      module _ (says : L → List ℕ → Said → L → Type 0) where
        -- ---- step 4

        pub sent_some : (v w : Life P S) (l k m : L) (c : Core) (b : List ℕ) (q : Said) (moved : Bool) (a : Turn) → IsFilled v.parts c → is_nil (pending c.outgoing) ≡ false → b ≡ take 16384 (pending c.outgoing) → says l b q k
            → SentAs asks desk hears says q (life c v.input v.port v.seat) k moved a w m → Sent asks desk hears says v l moved a w m
        sent_some v w l k m c b q moved a f n be s t =
            inl (c, (f, subst (λ (x : Bool). SendBy asks desk hears says x (life c v.input v.port v.seat) l moved a w m) (sym n) (q, (k, (subst (λ (x : List ℕ). says l x q k) be s, t)))))

        -- ---- step 2

        after_kept : (quit : Bool) (v k w : Life P S) (l m : L) (came : Made) (result : Result Bool End) (a : Turn) → result ≡ Ok true → TriedAs v came result k → QuitBy asks desk hears says quit k l true a w m
            → AfterKept asks desk hears says quit v came k l a w m
        after_kept quit v k w l m (made.Answer r) result a e (inl t) n = inl (t.1, n, t.2)
        after_kept quit v k w l m (made.Answer r) result a e (inr t) n = absurd (let h : Ok true ≡ Err end.OutOfMemory = sym e ∙ t in cc)
        after_kept quit v k w l m (made.Busy f) result a e t n = absurd (ok_differs result e t)
        after_kept quit v k w l m (made.Worn f) result a e t n = absurd (let h : Ok true ≡ Err end.Worn = sym e ∙ t in cc)
        after_kept quit v k w l m (made.OutOfMemory f) result a e t n = absurd (let h : Ok true ≡ Err end.OutOfMemory = sym e ∙ t in cc)

        still_kept : (quit : Bool) (v k : Life P S) (l : L) (came : Made) (result : Result Bool End) (a : Turn) → result ≡ Ok false → TriedAs v came result k → a ≡ Idle → AfterKept asks desk hears says quit v came k l a k l
        still_kept quit v k l (made.Answer r) result a e (inl t) ae = absurd (ok_differs result t.0 e)
        still_kept quit v k l (made.Answer r) result a e (inr t) ae = absurd (let h : Ok false ≡ Err end.OutOfMemory = sym e ∙ t in cc)
        still_kept quit v k l (made.Busy f) result a e t ae = (ae, refl, refl)
        still_kept quit v k l (made.Worn f) result a e t ae = absurd (let h : Ok false ≡ Err end.Worn = sym e ∙ t in cc)
        still_kept quit v k l (made.OutOfMemory f) result a e t ae = absurd (let h : Ok false ≡ Err end.OutOfMemory = sym e ∙ t in cc)

        not_kept : (quit : Bool) (v k : Life P S) (l : L) (came : Made) (result : Result Bool End) (x : End) (a : Turn) → result ≡ Err x → TriedAs v came result k → a ≡ Ended x → AfterKept asks desk hears says quit v came k l a k l
        not_kept quit v k l (made.Answer r) result x a e (inl t) ae = absurd (let h : Err x ≡ Ok true = sym e ∙ t.0 in cc)
        not_kept quit v k l (made.Answer r) result x a e (inr t) ae = inr (ends_here k x end.OutOfMemory a (err_same x end.OutOfMemory result e t) ae, refl)
        not_kept quit v k l (made.Busy f) result x a e t ae = absurd (let h : Err x ≡ Ok false = sym e ∙ t in cc)
        not_kept quit v k l (made.Worn f) result x a e t ae = (ends_here k x end.Worn a (err_same x end.Worn result e t) ae, refl)
        not_kept quit v k l (made.OutOfMemory f) result x a e t ae = (ends_here k x end.OutOfMemory a (err_same x end.OutOfMemory result e t) ae, refl)

        kept_as : (quit : Bool) (v w : Life P S) (l m : L) (e : Entry) (a : Turn) → v.parts.kept ≡ Some e → KeptBy asks desk hears says (Some e) quit (life (record v.parts { kept = Some e }) v.input v.port v.seat) l a w m
            → KeptBy asks desk hears says v.parts.kept quit v l a w m
        kept_as quit v w l m e a k t =
            let T : Core → Type 0 = λ c. KeptBy asks desk hears says (Some e) quit (life c v.input v.port v.seat) l a w m in
            subst (λ (o : Option Entry). KeptBy asks desk hears says o quit v l a w m) (sym k) (subst T (same_core v.parts e k) t)

        pub kept_made : (quit : Bool) (v k w : Life P S) (l m : L) (e : Entry) (result : Result Bool End) (a : Turn) → v.parts.kept ≡ Some e → IsTried asks (life (record v.parts { kept = Some e }) v.input v.port v.seat) e result k → result ≡ Ok true
            → QuitBy asks desk hears says quit k l true a w m → KeptBy asks desk hears says v.parts.kept quit v l a w m
        kept_made quit v k w l m e result a ke t r n =
            kept_as quit v w l m e a ke (t.0, (k, (t.1.0, after_kept quit (life (record v.parts { kept = Some e }) v.input v.port v.seat) k w l m t.0 result a r t.1.1 n)))

        pub kept_busy : (quit : Bool) (v k : Life P S) (l : L) (e : Entry) (result : Result Bool End) (a : Turn) → v.parts.kept ≡ Some e → IsTried asks (life (record v.parts { kept = Some e }) v.input v.port v.seat) e result k → result ≡ Ok false
            → a ≡ Idle → KeptBy asks desk hears says v.parts.kept quit v l a k l
        kept_busy quit v k l e result a ke t r ae =
            kept_as quit v k l l e a ke (t.0, (k, (t.1.0, still_kept quit (life (record v.parts { kept = Some e }) v.input v.port v.seat) k l t.0 result a r t.1.1 ae)))

        pub kept_failed : (quit : Bool) (v k : Life P S) (l : L) (e : Entry) (result : Result Bool End) (x : End) (a : Turn) → v.parts.kept ≡ Some e → IsTried asks (life (record v.parts { kept = Some e }) v.input v.port v.seat) e result k
            → result ≡ Err x → a ≡ Ended x → KeptBy asks desk hears says v.parts.kept quit v l a k l
        kept_failed quit v k l e result x a ke t r ae =
            kept_as quit v k l l e a ke (t.0, (k, (t.1.0, not_kept quit (life (record v.parts { kept = Some e }) v.input v.port v.seat) k l t.0 result x a r t.1.1 ae)))

        pub kept_none : (quit : Bool) (v w : Life P S) (l m : L) (k : Option Entry) (a : Turn) → v.parts.kept ≡ None → k ≡ None → QuitBy asks desk hears says quit (life (record v.parts { kept = k }) v.input v.port v.seat) l false a w m
            → KeptBy asks desk hears says v.parts.kept quit v l a w m
        kept_none quit v w l m k a e ke t =
            let same : record v.parts { kept = k } ≡ v.parts = ap (λ (o : Option Entry). record v.parts { kept = o }) (ke ∙ sym e) in
            let T : Core → Type 0 = λ c. QuitBy asks desk hears says quit (life c v.input v.port v.seat) l false a w m in
            subst (λ (o : Option Entry). KeptBy asks desk hears says o quit v l a w m) (sym e) (subst T same t)
