-- What a turn did, and why it is idle
use Rattle.std.proofs.Common.{◌≡◌, ◌≤◌, ◌<◌, ◌⊎◌, inl, inr, ℕ, Bool, true, false, not, ◌&&◌, ◌||◌, List, [], ◌∷◌, ◌++◌, length, take, refl, sym, ap, ◌∙◌, subst, arith, append-nil, append_assoc, length-append, Option, Some, None, Result, Ok, Err}
use Rattle.std.proofs.lemmas.List.{length-take}
use Rattle.relay_outside.specs.Counts.{Rose}
use Rattle.relay_outside.specs.Heard.{Came, CameBytes, CameEnd, CameNotYet, CameFailed, HearStep}
use Rattle.relay_outside.specs.Said.{SayStep}
use Rattle.relay_outside.specs.Told.{LinkCounts, LinkTold}
use Rattle.relay_outside.specs.declared.link.Said.{Said}
use Rattle.relay_outside.specs.declared.link.Said.TheVariants as said
use Rattle.command_dialog.specs.declared.types.Ask.{Ask}
use Rattle.command_dialog.specs.declared.types.Grant.{Grant}
use Rattle.session_owed.specs.Talk.{Own, is_take}
use Rattle.stream_model.specs.declared.calls.Entry.{Entry}
use Rattle.stream_model.specs.declared.replies.Reply.{Reply}
use Rattle.stream_registry.specs.Told as told_by
use Rattle.relay_session.specs.Causes.{is_loud, is_loud_call}
use Rattle.relay_session.specs.Turns.{is_nil, is_not_yet}
use Rattle.relay_session.specs.declared.seat_answers.Made.{Made}
use Rattle.relay_session.specs.declared.seat_answers.Made.TheVariants as made
use Rattle.http_flv.specs.Causes.{Did, MayBe, came_to}
use Rattle.http_flv.specs.Out.{Decision, JoinAt, Later, Tell, decide}
use Rattle.http_flv.specs.Turns.{AfterJoin, AfterKept, CameAs, DroppedBy, HeardBy, Input, IsDone, IsJoined, IsSent, IsTaken, IsTried, JoinMade, JoinedBy, KeptOn, Life, ReadBy, SendBy, Sent, SentAs, TakeMade, Taken, TakenBy, ToldBy, answer, life, takes, told}
use Rattle.http_flv.proofs.Sounding.{NoTake, join_takes}
use Rattle.http_flv.specs.declared.core_fields.Core.{Core}
use Rattle.http_flv.specs.declared.end.HttpEnd.{HttpEnd}
use Rattle.http_flv.specs.declared.stage.Stage.{Stage}
use Rattle.http_flv.specs.declared.stage.Stage.TheVariants as stage
use Rattle.http_flv.specs.declared.turn.HttpTurn.{HttpTurn}
use Rattle.http_flv.specs.declared.turn.HttpTurn.TheVariants.{Moved, Idle, Ended}

or_first : (a b c : Bool) → (a || (b || c)) ≡ ((a || b) || c)
or_first true b c = refl
or_first false b c = refl

or_true : (a b : Bool) → b ≡ true → (a || b) ≡ true
or_true true b e = refl
or_true false b e = e

loud_app : (k m : List Own) → is_loud (k ++ m) ≡ (is_loud k || is_loud m)
loud_app [] m = refl
loud_app (c ∷ k) m = ap (λ (b : Bool). is_loud_call c || b) (loud_app k m) ∙ or_first (is_loud_call c) (is_loud k) (is_loud m)

pub record IsQuiet (c d : Core) (more : List Own) : Type 0 where
  pub x : d.x ≡ c.x
  pub later : d.later ≡ c.later
  pub sent : d.sent ≡ c.sent
  pub quiet : is_loud more ≡ false

abbrev Cause : Core → Core → List Own → Type 0
Cause c d more = (length c.sent < length d.sent) ⊎ ((came_to c < came_to d) ⊎ (is_loud more ≡ true))

abbrev GoesBy : Bool → Core → Core → List Own → Type 0
GoesBy true c d more = Cause c d more
GoesBy false c d more = IsQuiet c d more

-- what a player keeps goes on: something moved or nothing did
pub record Goes (b : Bool) (c d : Core) : Type 0 where
  pub more : List Own
  pub calls : d.calls ≡ c.calls ++ more
  pub sent : length c.sent ≤ length d.sent
  pub came : came_to c ≤ came_to d
  pub by : GoesBy b c d more

goes_refl : (c : Core) → Goes false c c
goes_refl c = record { more = []; calls = sym (append-nil c.calls); sent = omega arith; came = omega arith; by = record { x = refl; later = refl; sent = refl; quiet = refl } }

came_same : (c d : Core) → d.x ≡ c.x → d.later ≡ c.later → came_to d ≡ came_to c
came_same c d e f = omega (arith, length-append c.x c.later, length-append d.x d.later, ap length e, ap length f)

moved_then : (c d e : Core) (k m : List Own) → length d.sent ≤ length e.sent → came_to d ≤ came_to e → Cause c d k → Cause c e (k ++ m)
moved_then c d e k m s t (inl h) = inl (omega (arith, h, s))
moved_then c d e k m s t (inr (inl h)) = inr (inl (omega (arith, h, t)))
moved_then c d e k m s t (inr (inr h)) = inr (inr (loud_app k m ∙ ap (λ (b : Bool). b || is_loud m) h))

still_moved : (c d e : Core) (k m : List Own) → IsQuiet c d k → Cause d e m → Cause c e (k ++ m)
still_moved c d e k m q (inl h) = inl (omega (arith, h, ap length q.sent))
still_moved c d e k m q (inr (inl h)) = inr (inl (omega (arith, h, came_same c d q.x q.later)))
still_moved c d e k m q (inr (inr h)) = inr (inr (loud_app k m ∙ or_true (is_loud k) (is_loud m) h))

still_then : (c d e : Core) (k m : List Own) → IsQuiet c d k → IsQuiet d e m → IsQuiet c e (k ++ m)
still_then c d e k m q r = record {
  x = r.x ∙ q.x;
  later = r.later ∙ q.later;
  sent = r.sent ∙ q.sent;
  quiet = loud_app k m ∙ ap (λ (b : Bool). b || is_loud m) q.quiet ∙ r.quiet;
}

by_then : (a b : Bool) (c d e : Core) (k m : List Own) → length d.sent ≤ length e.sent → came_to d ≤ came_to e → GoesBy a c d k → GoesBy b d e m → GoesBy (a || b) c e (k ++ m)
by_then true b c d e k m s t g h = moved_then c d e k m s t g
by_then false true c d e k m s t g h = still_moved c d e k m g h
by_then false false c d e k m s t g h = still_then c d e k m g h

goes_then : (a b : Bool) (c d e : Core) → Goes a c d → Goes b d e → Goes (a || b) c e
goes_then a b c d e g h = record {
  more = g.more ++ h.more;
  calls = h.calls ∙ ap (λ (l : List Own). l ++ h.more) g.calls ∙ append_assoc c.calls g.more h.more;
  sent = omega (arith, g.sent, h.sent);
  came = omega (arith, g.came, h.came);
  by = by_then a b c d e g.more h.more h.sent h.came g.by h.by;
}

or_one : (a : Bool) → (a || true) ≡ true
or_one true = refl
or_one false = refl

-- once something moved
goes_moved : (a : Bool) (c d e : Core) → Goes a c d → Goes true d e → Goes true c e
goes_moved a c d e g h = subst (λ (b : Bool). Goes b c e) (or_one a) (goes_then a true c d e g h)

-- ---- the steps

goes_sent : (c d : Core) (n : ℕ) → IsSent c n d → 0 < length (take n c.out.left) → Goes true c d
goes_sent c d n i some =
    let grown : length c.sent < length d.sent = omega (arith, ap length (ap (λ (k : Core). k.sent) i.rest), length-append c.sent (take n c.out.left), some) in
    record {
      more = [];
      calls = ap (λ (k : Core). k.calls) i.rest ∙ sym (append-nil c.calls);
      sent = omega (arith, grown);
      came = omega (arith, came_same c d (ap (λ (k : Core). k.x) i.rest) (ap (λ (k : Core). k.later) i.rest));
      by = inl grown;
    }

came_grown : (c d : Core) (b : List ℕ) → (d.x ≡ c.x ++ b) × (d.later ≡ c.later) ⊎ (d.x ≡ c.x) × (d.later ≡ c.later ++ b) → 0 < length b → came_to c < came_to d
came_grown c d b (inl e) some = omega (arith, some, length-append c.x c.later, length-append d.x d.later, ap length e.0, ap length e.1, length-append c.x b)
came_grown c d b (inr e) some = omega (arith, some, length-append c.x c.later, length-append d.x d.later, ap length e.0, ap length e.1, length-append c.later b)

goes_came : (c d : Core) (b : List ℕ) → (d.x ≡ c.x ++ b) × (d.later ≡ c.later) ⊎ (d.x ≡ c.x) × (d.later ≡ c.later ++ b) → d.sent ≡ c.sent → d.calls ≡ c.calls → 0 < length b → Goes true c d
goes_came c d b e s k some =
    let grown : came_to c < came_to d = came_grown c d b e some in
    record { more = []; calls = k ∙ sym (append-nil c.calls); sent = omega (arith, ap length s); came = omega (arith, grown); by = inr (inl grown) }

-- one call more
goes_called : (c d : Core) (o : Own) → d.calls ≡ c.calls ++ o ∷ [] → d.x ≡ c.x → d.later ≡ c.later → d.sent ≡ c.sent → Goes (is_loud_call o) c d
goes_called c d o k x l s = record {
  more = o ∷ [];
  calls = k;
  sent = omega (arith, ap length s);
  came = omega (arith, came_same c d x l);
  by = called_by (is_loud_call o) refl;
}
  where
    called_by : (b : Bool) → is_loud_call o ≡ b → GoesBy b c d (o ∷ [])
    called_by true e = inr (inr (ap (λ (b : Bool). b || false) e))
    called_by false e = record { x = x; later = l; sent = s; quiet = ap (λ (b : Bool). b || false) e }

goes_taken : (c d : Core) (e : Entry) (r : Reply) → is_take e.call ≡ true → IsTaken c e r d → Goes (not (is_not_yet r)) c d
goes_taken c d e r t i =
    subst (λ (b : Bool). Goes b c d) (ap (λ (b : Bool). not (b && is_not_yet r)) t)
    (goes_called c d (e, r) (ap (λ (k : Core). k.calls) i.rest) (ap (λ (k : Core). k.x) i.rest) (ap (λ (k : Core). k.later) i.rest) (ap (λ (k : Core). k.sent) i.rest))

goes_joined : (c d : Core) (p : ℕ) (e : Entry) (r : Reply) → is_take e.call ≡ false → IsJoined p c e r d → Goes true c d
goes_joined c d p e r t i =
    subst (λ (b : Bool). Goes b c d) (ap (λ (b : Bool). not (b && is_not_yet r)) t)
    (goes_called c d (e, r) (ap (λ (k : Core). k.calls) i.rest) (ap (λ (k : Core). k.x) i.rest) (ap (λ (k : Core). k.later) i.rest) (ap (λ (k : Core). k.sent) i.rest))

some_bytes : (l : List ℕ) → is_nil l ≡ false → 0 < length l
some_bytes [] e = absurd (cc)
some_bytes (b ∷ l) e = omega arith

module _ {P S : Type 0} where
  did_answer : (b : Bool) (a : HttpTurn) (u w : Life P S) → a ≡ answer b → Goes b u.parts w.parts → Did a u w
  did_answer true a u w e g = subst (λ (x : HttpTurn). Did x u w) (sym e) (record { more = g.more; calls = g.calls; cause = g.by })
  did_answer false a u w e g = subst (λ (x : HttpTurn). Did x u w) (sym e) (record { x = g.by.x; later = g.by.later; sent = g.by.sent; more = g.more; calls = g.calls; quiet = g.by.quiet })

  did_ended : (e : HttpEnd) (a : HttpTurn) (u w : Life P S) → a ≡ Ended e → Did a u w
  did_ended e a u w f = subst (λ (x : HttpTurn). Did x u w) (sym f) tt

module _ {P S : Type 0} (asks : P → S → ℕ → Entry → Made → P → S → Type 0) where
  did_take : (u v : Life P S) (e : Entry) (moved : Bool) (came : Made) (w : Life P S) (a : HttpTurn) → is_take e.call ≡ true → TakeMade asks v e moved came w a → Goes moved u.parts v.parts → Did a u w
  did_take u v e moved (made.Answer r) w a i (inl t) g = did_answer (moved || not (is_not_yet r)) a u w t.1 (goes_then moved (not (is_not_yet r)) u.parts v.parts w.parts g (goes_taken v.parts w.parts e r i t.0))
  did_take u v e moved (made.Answer r) w a i (inr t) g = did_ended _ a u w t.1
  did_take u v e moved (made.Busy f) w a i t g = did_answer moved a u w t.1 (subst (λ (k : Core). Goes moved u.parts k) (sym t.0) g)
  did_take u v e moved (made.Worn f) w a i t g = did_ended _ a u w t.1
  did_take u v e moved (made.OutOfMemory f) w a i t g = did_ended _ a u w t.1

  did_taken_by : (o : Option (ℕ × ℕ)) (u v : Life P S) (moved : Bool) (a : HttpTurn) (w : Life P S) → TakenBy asks o v moved a w → Goes moved u.parts v.parts → Did a u w
  did_taken_by None u v moved a w t g = did_answer moved a u w t.0 (subst (λ (k : Life P S). Goes moved u.parts k.parts) (sym t.1) g)
  did_taken_by (Some p) u v moved a w t g = did_take u v _ moved t.came w a refl t.taken g

  did_taken : (u v : Life P S) (moved : Bool) (a : HttpTurn) (w : Life P S) → Taken asks v moved a w → Goes moved u.parts v.parts → Did a u w
  did_taken u v moved a w t g = did_taken_by (takes v.parts) u v moved a w t g

  module _ (desk : Ask → Grant) where
    -- a call that was made is a Join
    goes_made : (b : Bool) (u v m : Life P S) (place : ℕ) (e : Entry) (came : Made) (r : Result Bool HttpEnd) → is_take e.call ≡ false → JoinMade asks v place e came r m → Goes true u.parts v.parts → r ≡ Ok b → Goes true u.parts m.parts
    goes_made b u v m place e (made.Answer x) r i (inl t) g f = goes_moved true u.parts v.parts m.parts g (goes_joined v.parts m.parts place e x i t.1)
    goes_made b u v m place e (made.Answer x) r i (inr t) g f = let h : Ok b ≡ Err _ = sym f ∙ t.0 in absurd (cc)
    goes_made b u v m place e (made.Busy x) r i t g f = subst (λ (k : Core). Goes true u.parts k) (sym t.1) g
    goes_made b u v m place e (made.Worn x) r i t g f = let h : Ok b ≡ Err _ = sym f ∙ t.0 in absurd (cc)
    goes_made b u v m place e (made.OutOfMemory x) r i t g f = let h : Ok b ≡ Err _ = sym f ∙ t.0 in absurd (cc)

    did_after : (r : Result Bool HttpEnd) (u v m : Life P S) (e : Entry) (a : HttpTurn) (w : Life P S) → is_take e.call ≡ false → IsTried asks v e r m → AfterJoin asks r m a w → Goes true u.parts v.parts → Did a u w
    did_after (Ok b) u v m e a w i x t g = did_taken u m true a w t (goes_made b u v m x.place e x.came (Ok b) i x.became g refl)
    did_after (Err f) u v m e a w i x t g = did_ended f a u w t.ended

    did_joined : (o : Option Entry) (u v : Life P S) (a : HttpTurn) (w : Life P S) → NoTake o → JoinedBy asks o v a w → Goes true u.parts v.parts → Did a u w
    did_joined None u v a w n t g = did_taken u v true a w t g
    did_joined (Some e) u v a w n t g = did_after t.0 u v t.1.0 e a w n t.1.1.0 t.1.1.1 g

    done_kept : (dec : Decision) (c d : Core) → IsDone dec c d → NoTake c.kept → NoTake d.kept
    done_kept Later c d t n = subst NoTake (sym t.1) n
    done_kept (Tell r) c d t n = subst NoTake (sym t.1) n
    done_kept (JoinAt p name) c d t n = subst NoTake (sym t.1) (join_takes c.who (length d.x) name)

    did_heard : (b : List ℕ) (u v : Life P S) (a : HttpTurn) (w : Life P S) (moved : Bool) → 0 < length b → NoTake v.parts.kept → HeardBy asks desk b v a w → Goes moved u.parts v.parts → Did a u w
    did_heard b u v a w moved some n (inl t) g =
        let c = t.0 in
        let i = t.1.0 in
        did_joined c.kept u (life c v.port v.seat) a w (done_kept (decide desk i.verdict) v.parts c i.done n) t.1.1
        (goes_moved moved u.parts v.parts c g (goes_came v.parts c b (inl (ap (λ (k : Core). k.x) i.rest, ap (λ (k : Core). k.later) i.rest)) (ap (λ (k : Core). k.sent) i.rest) (ap (λ (k : Core). k.calls) i.rest) some))
    did_heard b u v a w moved some n (inr t) g = did_ended _ a u w t.1.1.ended

    did_dropped : (b : List ℕ) (u v : Life P S) (a : HttpTurn) (w : Life P S) (moved : Bool) → 0 < length b → DroppedBy asks desk b v a w → Goes moved u.parts v.parts → Did a u w
    did_dropped b u v a w moved some t g =
        let c = t.0 in
        let e = t.1.0 in
        did_taken u (life c v.port v.seat) true a w t.1.1
        (goes_moved moved u.parts v.parts c g (goes_came v.parts c b (inr (ap (λ (k : Core). k.x) e, ap (λ (k : Core). k.later) e)) (ap (λ (k : Core). k.sent) e) (ap (λ (k : Core). k.calls) e) some))

    did_read : (s : Stage) (b : List ℕ) (u v : Life P S) (a : HttpTurn) (w : Life P S) (moved : Bool) → 0 < length b → NoTake v.parts.kept → ReadBy asks desk s b v a w → Goes moved u.parts v.parts → Did a u w
    did_read stage.Reading b u v a w moved some n t g = did_heard b u v a w moved some n t g
    did_read (stage.Joining place) b u v a w moved some n t g = did_dropped b u v a w moved some t g
    did_read (stage.Telling r) b u v a w moved some n t g = did_dropped b u v a w moved some t g
    did_read (stage.Playing place player) b u v a w moved some n t g = did_dropped b u v a w moved some t g

    module _ {L : Type 0} (hears : L → ℕ → Came → L → Type 0) (tells : L → Option LinkTold) (counts : L → LinkCounts)
        (hears_mean : (l : L) (room : ℕ) (c : Came) (m : L) → 0 < room → hears l room c m → HearStep room (tells l) (tells m) (counts l) (counts m) c) where
      did_came : (came : Came) (u v : Life P S) (moved : Bool) (l : L) (a : HttpTurn) (w : Life P S) (m : L) → NoTake v.parts.kept → hears l 4096 came m → CameAs asks desk came v moved a w → Goes moved u.parts v.parts → Did a u w
      did_came (CameBytes b) u v moved l a w m n k t g = did_read v.parts.stage b u v a w moved (hears_mean l 4096 (CameBytes b) m (omega arith) k).count.0 n t g
      did_came CameNotYet u v moved l a w m n k t g = did_taken u v moved a w t g
      did_came CameEnd u v moved l a w m n k t g = did_ended _ a u w t.ended
      did_came CameFailed u v moved l a w m n k t g = did_ended _ a u w t.ended

      did_input : (u v : Life P S) (l : L) (moved : Bool) (a : HttpTurn) (w : Life P S) (m : L) → NoTake v.parts.kept → Input asks desk hears v l moved a w m → Goes moved u.parts v.parts → Did a u w
      did_input u v l moved a w m n t g = did_came t.0 u v moved l a w m n t.1.0 t.1.1 g

      module _ (says : L → List ℕ → Said → L → Type 0)
          (says_mean : (l : L) (piece : List ℕ) (c : Said) (m : L) → 0 < length piece → says l piece c m → SayStep piece (tells l) (tells m) (counts l) (counts m) c) where
        did_told : (o : Option ℕ) (u v : Life P S) (l : L) (a : HttpTurn) (w : Life P S) (m : L) → NoTake v.parts.kept → ToldBy asks desk hears says o v l a w m → Goes true u.parts v.parts → Did a u w
        did_told None u v l a w m n t g = did_input u v l true a w m n t g
        did_told (Some code) u v l a w m n t g = did_ended _ a u w t.0.ended

        did_sent_as : (q : Said) (u v : Life P S) (l k : L) (moved : Bool) (a : HttpTurn) (w : Life P S) (m : L) → is_nil v.parts.out.left ≡ false → NoTake v.parts.kept → says l (take 16384 v.parts.out.left) q k
            → SentAs asks desk hears says q v k moved a w m → Goes moved u.parts v.parts → Did a u w
        did_sent_as (said.Took n) u v l k moved a w m e f s t g =
            let b = v.parts.out.left in
            let piece : 0 < length (take 16384 b) = omega (arith, length-take 16384 b, some_bytes b e) in
            let count = (says_mean l (take 16384 b) (said.Took n) k piece s).count in
            let c = t.0 in
            let i = t.1.0 in
            let some : 0 < length (take n b) = omega (arith, length-take n b, length-take 16384 b, count.0, count.1) in
            did_told (told c) u (life c v.port v.seat) k a w m (subst NoTake (sym (ap (λ (k : Core). k.kept) i.rest)) f) t.1.1
            (goes_moved moved u.parts v.parts c g (goes_sent v.parts c n i some))
        did_sent_as said.NotYet u v l k moved a w m e f s t g = did_input u v k moved a w m f t g
        did_sent_as said.Failed u v l k moved a w m e f s t g = did_ended _ a u w t.0.ended
        did_sent_as said.OutOfMemory u v l k moved a w m e f s t g = did_ended _ a u w t.0.ended

        did_send : (b : Bool) (u v : Life P S) (l : L) (moved : Bool) (a : HttpTurn) (w : Life P S) (m : L) → is_nil v.parts.out.left ≡ b → NoTake v.parts.kept → SendBy asks desk hears says b v l moved a w m → Goes moved u.parts v.parts → Did a u w
        did_send true u v l moved a w m e n t g = did_input u v l moved a w m n t g
        did_send false u v l moved a w m e n t g = did_sent_as t.0 u v l t.1.0 moved a w m e n t.1.1.0 t.1.1.1 g

        did_sent : (u v : Life P S) (l : L) (moved : Bool) (a : HttpTurn) (w : Life P S) (m : L) → NoTake v.parts.kept → Sent asks desk hears says v l moved a w m → Goes moved u.parts v.parts → Did a u w
        did_sent u v l moved a w m n t g = did_send (is_nil v.parts.out.left) u v l moved a w m refl n t g

        -- the call that waited was answered, so none waits
        made_kept : (v k : Life P S) (place : ℕ) (e : Entry) (came : Made) → JoinMade asks v place e came (Ok true) k → NoTake k.parts.kept
        made_kept v k place e (made.Answer r) (inl t) = subst NoTake (sym (ap (λ (c : Core). c.kept) t.1.rest)) tt
        made_kept v k place e (made.Answer r) (inr t) = let h : Ok true ≡ Err _ = t.0 in absurd (cc)
        made_kept v k place e (made.Busy f) t = let h : Ok true ≡ Ok false = t.0 in absurd (cc)
        made_kept v k place e (made.Worn f) t = let h : Ok true ≡ Err _ = t.0 in absurd (cc)
        made_kept v k place e (made.OutOfMemory f) t = let h : Ok true ≡ Err _ = t.0 in absurd (cc)

        -- it was answered, and that moves
        made_moves : (v k : Life P S) (place : ℕ) (e : Entry) (came : Made) → is_take e.call ≡ false → JoinMade asks v place e came (Ok true) k → Goes true v.parts k.parts
        made_moves v k place e (made.Answer r) i (inl t) = goes_joined v.parts k.parts place e r i t.1
        made_moves v k place e (made.Answer r) i (inr t) = let h : Ok true ≡ Err _ = t.0 in absurd (cc)
        made_moves v k place e (made.Busy f) i t = let h : Ok true ≡ Ok false = t.0 in absurd (cc)
        made_moves v k place e (made.Worn f) i t = let h : Ok true ≡ Err _ = t.0 in absurd (cc)
        made_moves v k place e (made.OutOfMemory f) i t = let h : Ok true ≡ Err _ = t.0 in absurd (cc)

        made_busy : (v k : Life P S) (place : ℕ) (e : Entry) (came : Made) → JoinMade asks v place e came (Ok false) k → k.parts ≡ v.parts
        made_busy v k place e (made.Answer r) (inl t) = let h : Ok false ≡ Ok true = t.0 in absurd (cc)
        made_busy v k place e (made.Answer r) (inr t) = let h : Ok false ≡ Err _ = t.0 in absurd (cc)
        made_busy v k place e (made.Busy f) t = t.1
        made_busy v k place e (made.Worn f) t = let h : Ok false ≡ Err _ = t.0 in absurd (cc)
        made_busy v k place e (made.OutOfMemory f) t = let h : Ok false ≡ Err _ = t.0 in absurd (cc)

        did_after_kept : (r : Result Bool HttpEnd) (v k : Life P S) (e : Entry) (l : L) (a : HttpTurn) (w : Life P S) (m : L) → is_take e.call ≡ false → IsTried asks v e r k → AfterKept asks desk hears says r k l a w m → Did a v w
        did_after_kept (Ok true) v k e l a w m i x t = did_sent v k l true a w m (made_kept v k x.place e x.came x.became) t (made_moves v k x.place e x.came i x.became)
        did_after_kept (Ok false) v k e l a w m i x t =
            did_answer false a v w t.0 (subst (λ (y : Life P S). Goes false v.parts y.parts) (sym t.1) (subst (λ (c : Core). Goes false v.parts c) (sym (made_busy v k x.place e x.came x.became)) (goes_refl v.parts)))
        did_after_kept (Err f) v k e l a w m i x t = did_ended f a v w t.0.ended

        pub did_kept : (o : Option Entry) (v : Life P S) (l : L) (a : HttpTurn) (w : Life P S) (m : L) → v.parts.kept ≡ o → NoTake o → KeptOn asks desk hears says o v l a w m → Did a v w
        did_kept None v l a w m e n t = did_sent v v l false a w m (subst NoTake (sym e) tt) t (goes_refl v.parts)
        did_kept (Some f) v l a w m e n t = did_after_kept t.0 v t.1.0 f l a w m n t.1.1.0 t.1.1.1

-- ---- why it is idle

idle_not : (e : HttpEnd) (a : HttpTurn) → a ≡ Ended e → a ≡ Idle → ⊥
idle_not e a f g = let h : Ended e ≡ Idle = sym f ∙ g in absurd (cc)

moved_not : (a : HttpTurn) → a ≡ Moved → a ≡ Idle → ⊥
moved_not a f g = let h : Moved ≡ Idle = sym f ∙ g in absurd (cc)

rose_later : (a b c : ℕ) → Rose a b → b ≤ c → Rose a c
rose_later a b c r le = record { later = omega (arith, r.later, le); higher = omega (arith, r.higher, le) }

module _ {P S : Type 0} (asks : P → S → ℕ → Entry → Made → P → S → Type 0) where
  take_busy : (v : Life P S) (e : Entry) (came : Made) (w : Life P S) (a : HttpTurn) → TakeMade asks v e true came w a → a ≡ Idle → ⊥
  take_busy v e (made.Answer r) w a (inl t) g = moved_not a t.1 g
  take_busy v e (made.Answer r) w a (inr t) g = idle_not _ a t.1 g
  take_busy v e (made.Busy f) w a t g = moved_not a t.1 g
  take_busy v e (made.Worn f) w a t g = idle_not _ a t.1 g
  take_busy v e (made.OutOfMemory f) w a t g = idle_not _ a t.1 g

  taken_by_busy : (o : Option (ℕ × ℕ)) (v : Life P S) (a : HttpTurn) (w : Life P S) → TakenBy asks o v true a w → a ≡ Idle → ⊥
  taken_by_busy None v a w t g = moved_not a t.0 g
  taken_by_busy (Some p) v a w t g = take_busy v _ t.came w a t.taken g

  taken_busy : (v : Life P S) (a : HttpTurn) (w : Life P S) → Taken asks v true a w → a ≡ Idle → ⊥
  taken_busy v a w t g = taken_by_busy (takes v.parts) v a w t g

  after_busy : (r : Result Bool HttpEnd) (m : Life P S) (a : HttpTurn) (w : Life P S) → AfterJoin asks r m a w → a ≡ Idle → ⊥
  after_busy (Ok b) m a w t g = taken_busy m a w t g
  after_busy (Err e) m a w t g = idle_not e a t.ended g

  joined_busy : (o : Option Entry) (v : Life P S) (a : HttpTurn) (w : Life P S) → JoinedBy asks o v a w → a ≡ Idle → ⊥
  joined_busy None v a w t g = taken_busy v a w t g
  joined_busy (Some e) v a w t g = after_busy t.0 t.1.0 a w t.1.1.1 g

  module _ (desk : Ask → Grant) where
    heard_busy : (b : List ℕ) (v : Life P S) (a : HttpTurn) (w : Life P S) → HeardBy asks desk b v a w → a ≡ Idle → ⊥
    heard_busy b v a w (inl t) g = joined_busy t.0.kept (life t.0 v.port v.seat) a w t.1.1 g
    heard_busy b v a w (inr t) g = idle_not _ a t.1.1.ended g

    dropped_busy : (b : List ℕ) (v : Life P S) (a : HttpTurn) (w : Life P S) → DroppedBy asks desk b v a w → a ≡ Idle → ⊥
    dropped_busy b v a w t g = taken_busy (life t.0 v.port v.seat) a w t.1.1 g

    read_busy : (s : Stage) (b : List ℕ) (v : Life P S) (a : HttpTurn) (w : Life P S) → ReadBy asks desk s b v a w → a ≡ Idle → ⊥
    read_busy stage.Reading b v a w t g = heard_busy b v a w t g
    read_busy (stage.Joining place) b v a w t g = dropped_busy b v a w t g
    read_busy (stage.Telling r) b v a w t g = dropped_busy b v a w t g
    read_busy (stage.Playing place player) b v a w t g = dropped_busy b v a w t g

    module _ {L : Type 0} (hears : L → ℕ → Came → L → Type 0) (tells : L → Option LinkTold) (counts : L → LinkCounts)
        (hears_mean : (l : L) (room : ℕ) (c : Came) (m : L) → 0 < room → hears l room c m → HearStep room (tells l) (tells m) (counts l) (counts m) c) where
      came_busy : (came : Came) (v : Life P S) (a : HttpTurn) (w : Life P S) → CameAs asks desk came v true a w → a ≡ Idle → ⊥
      came_busy (CameBytes b) v a w t g = read_busy v.parts.stage b v a w t g
      came_busy CameNotYet v a w t g = taken_busy v a w t g
      came_busy CameEnd v a w t g = idle_not _ a t.ended g
      came_busy CameFailed v a w t g = idle_not _ a t.ended g

      came_waits : (came : Came) (v : Life P S) (moved : Bool) (l : L) (a : HttpTurn) (w : Life P S) (m : L) → hears l 4096 came m → CameAs asks desk came v moved a w → a ≡ Idle → Rose (counts l).waits (counts m).waits
      came_waits (CameBytes b) v moved l a w m k t g = absurd (read_busy v.parts.stage b v a w t g)
      came_waits CameNotYet v moved l a w m k t g = (hears_mean l 4096 CameNotYet m (omega arith) k).counts.1
      came_waits CameEnd v moved l a w m k t g = absurd (idle_not _ a t.ended g)
      came_waits CameFailed v moved l a w m k t g = absurd (idle_not _ a t.ended g)

      module _ (says : L → List ℕ → Said → L → Type 0)
          (says_mean : (l : L) (piece : List ℕ) (c : Said) (m : L) → 0 < length piece → says l piece c m → SayStep piece (tells l) (tells m) (counts l) (counts m) c) where
        told_busy : (o : Option ℕ) (v : Life P S) (l : L) (a : HttpTurn) (w : Life P S) (m : L) → ToldBy asks desk hears says o v l a w m → a ≡ Idle → ⊥
        told_busy None v l a w m t g = came_busy t.0 v a w t.1.1 g
        told_busy (Some code) v l a w m t g = idle_not _ a t.0.ended g

        sent_as_busy : (q : Said) (v : Life P S) (k : L) (a : HttpTurn) (w : Life P S) (m : L) → SentAs asks desk hears says q v k true a w m → a ≡ Idle → ⊥
        sent_as_busy (said.Took n) v k a w m t g = told_busy (told t.0) (life t.0 v.port v.seat) k a w m t.1.1 g
        sent_as_busy said.NotYet v k a w m t g = came_busy t.0 v a w t.1.1 g
        sent_as_busy said.Failed v k a w m t g = idle_not _ a t.0.ended g
        sent_as_busy said.OutOfMemory v k a w m t g = idle_not _ a t.0.ended g

        send_busy : (b : Bool) (v : Life P S) (l : L) (a : HttpTurn) (w : Life P S) (m : L) → SendBy asks desk hears says b v l true a w m → a ≡ Idle → ⊥
        send_busy true v l a w m t g = came_busy t.0 v a w t.1.1 g
        send_busy false v l a w m t g = sent_as_busy t.0 v t.1.0 a w m t.1.1.1 g

        -- a send that took nothing yet lets the waits rise
        said_later : (v : Life P S) (l k : L) → is_nil v.parts.out.left ≡ false → says l (take 16384 v.parts.out.left) said.NotYet k → (counts l).waits ≤ (counts k).waits
        said_later v l k e s =
            let b = v.parts.out.left in
            let piece : 0 < length (take 16384 b) = omega (arith, length-take 16384 b, some_bytes b e) in
            let r = (says_mean l (take 16384 b) said.NotYet k piece s).counts.1 in
            omega (arith, r.later)

        rose_from : (a b c : ℕ) → a ≤ b → Rose b c → Rose a c
        rose_from a b c le r = record { later = omega (arith, r.later, le); higher = omega (arith, r.higher, le) }

        sent_as_waits : (q : Said) (v : Life P S) (l k : L) (a : HttpTurn) (w : Life P S) (m : L) → is_nil v.parts.out.left ≡ false → says l (take 16384 v.parts.out.left) q k
            → SentAs asks desk hears says q v k false a w m → a ≡ Idle → Rose (counts l).waits (counts m).waits
        sent_as_waits (said.Took n) v l k a w m e s t g = absurd (told_busy (told t.0) (life t.0 v.port v.seat) k a w m t.1.1 g)
        sent_as_waits said.NotYet v l k a w m e s t g = rose_from (counts l).waits (counts k).waits (counts m).waits (said_later v l k e s) (came_waits t.0 v false k a w m t.1.0 t.1.1 g)
        sent_as_waits said.Failed v l k a w m e s t g = absurd (idle_not _ a t.0.ended g)
        sent_as_waits said.OutOfMemory v l k a w m e s t g = absurd (idle_not _ a t.0.ended g)

        send_waits : (b : Bool) (v : Life P S) (l : L) (a : HttpTurn) (w : Life P S) (m : L) → is_nil v.parts.out.left ≡ b → SendBy asks desk hears says b v l false a w m → a ≡ Idle → Rose (counts l).waits (counts m).waits
        send_waits true v l a w m e t g = came_waits t.0 v false l a w m t.1.0 t.1.1 g
        send_waits false v l a w m e t g = sent_as_waits t.0 v l t.1.0 a w m e t.1.1.0 t.1.1.1 g

        module _ (busies : P → ℕ) (rises : (p : P) (s : S) (place : ℕ) (e f : Entry) (q : P) (t : S) → asks p s place e (made.Busy f) q t → told_by.Rose (busies p) (busies q)) where
          tried_rises : (v k : Life P S) (place : ℕ) (e : Entry) (came : Made) → asks v.port v.seat place e came k.port k.seat → JoinMade asks v place e came (Ok false) k → told_by.Rose (busies v.port) (busies k.port)
          tried_rises v k place e (made.Answer r) x (inl t) = let h : Ok false ≡ Ok true = t.0 in absurd (cc)
          tried_rises v k place e (made.Answer r) x (inr t) = let h : Ok false ≡ Err _ = t.0 in absurd (cc)
          tried_rises v k place e (made.Busy f) x t = rises v.port v.seat place e f k.port k.seat x
          tried_rises v k place e (made.Worn f) x t = let h : Ok false ≡ Err _ = t.0 in absurd (cc)
          tried_rises v k place e (made.OutOfMemory f) x t = let h : Ok false ≡ Err _ = t.0 in absurd (cc)

          idle_after : (r : Result Bool HttpEnd) (v k : Life P S) (e : Entry) (l : L) (a : HttpTurn) (w : Life P S) (m : L) → IsTried asks v e r k → AfterKept asks desk hears says r k l a w m → a ≡ Idle
              → told_by.Rose (busies v.port) (busies w.port) ⊎ Rose (counts l).waits (counts m).waits
          idle_after (Ok true) v k e l a w m x t g = absurd (send_busy (is_nil k.parts.out.left) k l a w m t g)
          idle_after (Ok false) v k e l a w m x t g = inl (subst (λ (y : Life P S). told_by.Rose (busies v.port) (busies y.port)) (sym t.1) (tried_rises v k x.place e x.came x.asked.asked x.became))
          idle_after (Err f) v k e l a w m x t g = absurd (idle_not f a t.0.ended g)

          idle_kept : (o : Option Entry) (v : Life P S) (l : L) (a : HttpTurn) (w : Life P S) (m : L) → KeptOn asks desk hears says o v l a w m → a ≡ Idle
              → told_by.Rose (busies v.port) (busies w.port) ⊎ Rose (counts l).waits (counts m).waits
          idle_kept None v l a w m t g = inr (send_waits (is_nil v.parts.out.left) v l a w m refl t g)
          idle_kept (Some e) v l a w m t g = idle_after t.0 v t.1.0 e l a w m t.1.1.0 t.1.1.1 g

          may_by : (a : HttpTurn) (x y : ℕ) (c d : LinkCounts) → (a ≡ Idle → told_by.Rose x y ⊎ Rose c.waits d.waits) → MayBe a x y c d
          may_by Moved x y c d f = tt
          may_by Idle x y c d f = f refl
          may_by (Ended e) x y c d f = tt

          pub may_kept : (o : Option Entry) (v : Life P S) (l : L) (a : HttpTurn) (w : Life P S) (m : L) → KeptOn asks desk hears says o v l a w m → MayBe a (busies v.port) (busies w.port) (counts l) (counts m)
          may_kept o v l a w m t = may_by a (busies v.port) (busies w.port) (counts l) (counts m) (λ g. idle_kept o v l a w m t g)
