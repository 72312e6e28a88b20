-- What a link in memory took is what its session sent
use Rattle.std.proofs.Common.{inl, inr, ◌≡◌, ◌≤◌, ◌++◌, ℕ, Bool, true, false, not, ◌||◌, List, [], length, take, Option, Some, None, sym, ap, ◌∙◌, arith}
use Rattle.std.proofs.lemmas.List.{length-take, take-take}
use Rattle.relay_outside.specs.Heard.{Came, CameBytes, CameEnd, CameNotYet, CameFailed}
use Rattle.relay_outside.specs.MemLinks.{MemLinkState, MemHears, MemSays, room_for}
use Rattle.relay_outside.specs.declared.link.Said.{Said}
use Rattle.relay_outside.specs.declared.link.Said.TheVariants as said
use Rattle.command_dialog.specs.declared.types.Ask.{Ask}
use Rattle.command_dialog.specs.declared.types.Grant.{Grant}
use Rattle.command_dialog.specs.declared.types.Playing.{Playing}
use Rattle.stream_model.specs.declared.calls.Entry.{Entry}
use Rattle.session_owed.specs.Standing.{Past}
use Rattle.relay_session.specs.Feeding.{Fixed}
use Rattle.relay_session.specs.Owing.{pending}
use Rattle.relay_session.specs.Turns.{AfterCall, AfterKept, CallMade, CalledBy, CameAs, EmptyBy, EndedBy, Fed, FedAs, FedBy, Gone, Input, InputBy, IsEnded}
use Rattle.relay_session.specs.Turns.{IsFilled, KeptBy, Life, Loudly, Quietly, QuitBy, SendBy, Sent, SentAs, Stopping, TakeMade, Taken, TakenBy, is_hungry}
use Rattle.relay_session.specs.Turns.{is_nil, life, takes}
use Rattle.relay_session.specs.declared.core_fields.Core.{Core}
use Rattle.relay_session.specs.declared.end.End.{End}
use Rattle.relay_session.specs.declared.seat_answers.Made.{Made}
use Rattle.relay_session.specs.declared.seat_answers.Made.TheVariants as made
use Rattle.relay_session.specs.declared.turn.Turn.{Turn}

-- ---- the link

room_most : (room : Option ℕ) (n : ℕ) → room_for room n ≤ n
room_most None n = omega arith
room_most (Some r) n = omega arith

pub heard_same : (l : MemLinkState) (room : ℕ) (came : Came) (m : MemLinkState) → MemHears l room came m → m.sent ≡ l.sent
heard_same l room (CameBytes b) m h = ap (λ (k : MemLinkState). k.sent) h.2
heard_same l room CameEnd m h = ap (λ (k : MemLinkState). k.sent) h.3
heard_same l room CameNotYet m h = ap (λ (k : MemLinkState). k.sent) h.3
heard_same l room CameFailed m h = ap (λ (k : MemLinkState). k.sent) h.1

pub said_took : (l : MemLinkState) (p : List ℕ) (n : ℕ) (m : MemLinkState) → MemSays l (take 16384 p) (said.Took n) m → m.sent ≡ l.sent ++ take n p
said_took l p n m h =
    let most : n ≤ 16384 = omega (arith, h.2, room_most l.room (length (take 16384 p)), length-take 16384 p) in
    ap (λ (k : MemLinkState). k.sent) h.3 ∙ ap (λ (b : List ℕ). l.sent ++ b) (take-take n 16384 p most)

-- what it took is what the session sent
abbrev pub Took : Core → MemLinkState → Type 0
Took c l = l.sent ≡ c.sent

-- the session sent nothing more
abbrev Same : Core → Core → Type 0
Same c d = d.sent ≡ c.sent

filled_same : (c d : Core) → IsFilled c d → Same c d
filled_same c d f = ap (λ (x : Core). x.sent) f.rest

module _ {P S : Type 0} (asks : P → S → ℕ → Entry → Made → P → S → Type 0) where
  ended_same : (e : End) (v : Life P S) (a : Turn) (w : Life P S) → IsEnded e v a w → Same v.parts w.parts
  ended_same e v a w i = ap (λ (g : Gone). g.sent) i.gone

  -- ---- step 6

  made_same : (v : Life P S) (e : Entry) (moved : Bool) (came : Made) (w : Life P S) (a : Turn) → TakeMade v e moved came w a → Same v.parts w.parts
  made_same v e moved (made.Answer r) w a t = ap (λ (p : Past). p.sent) t.0.past
  made_same v e moved (made.Busy f) w a t = ap (λ (x : Core). x.sent) t.0
  made_same v e moved (made.Worn f) w a t = ap (λ (x : Core). x.sent) t.0
  made_same v e moved (made.OutOfMemory f) w a t = ap (λ (x : Core). x.sent) t.0

  taken_by_same : (o : Option Playing) (v : Life P S) (moved : Bool) (a : Turn) (w : Life P S) → TakenBy asks o v moved a w → Same v.parts w.parts
  taken_by_same None v moved a w t = ap (λ (x : Life P S). x.parts.sent) t.1
  taken_by_same (Some p) v moved a w t = made_same v _ moved t.came w a t.taken

  taken_same : (v : Life P S) (moved : Bool) (a : Turn) (w : Life P S) → Taken asks v moved a w → Same v.parts w.parts
  taken_same v moved a w (inl t) = taken_by_same (takes t.0) (life t.0 v.input v.port v.seat) moved a w t.2 ∙ filled_same v.parts t.0 t.1
  taken_same v moved a w (inr t) = ended_same _ v a w t

  -- ---- a call that waited

  call_same : (v : Life P S) (e : Entry) (came : Made) (w : Life P S) → CallMade v e came w → Same v.parts w.parts
  call_same v e (made.Answer r) w t = ap (λ (p : Past). p.sent) t.past
  call_same v e (made.Busy f) w t = ap (λ (x : Core). x.sent) t
  call_same v e (made.Worn f) w t = ap (λ (x : Core). x.sent) t
  call_same v e (made.OutOfMemory f) w t = ap (λ (x : Core). x.sent) t

  after_same : (v m : Life P S) (came : Made) (a : Turn) (w : Life P S) → AfterCall asks v came m a w → Same m.parts w.parts
  after_same v m (made.Answer r) a w (inl t) = taken_same m true a w t.1
  after_same v m (made.Answer r) a w (inr t) = ended_same _ m a w t
  after_same v m (made.Busy f) a w t = taken_same m true a w t
  after_same v m (made.Worn f) a w t = ended_same _ m a w t
  after_same v m (made.OutOfMemory f) a w t = ended_same _ m a w t

  called_same : (o : Option Entry) (v : Life P S) (a : Turn) (w : Life P S) → CalledBy asks o v a w → Same v.parts w.parts
  called_same None v a w t = taken_same v true a w t
  called_same (Some e) v a w t = after_same v t.1.0 t.0 a w t.1.1.1 ∙ call_same v e t.0 t.1.0 t.1.1.0.called

  module _ (desk : Ask → Grant) where
    -- ---- step 5

    fed_as_same : (by : FedBy) (v : Life P S) (moved : Bool) (a : Turn) (w : Life P S) → FedAs asks desk by v moved a w → Same v.parts w.parts
    fed_as_same Quietly v moved a w t = taken_same (life t.0 [] v.port v.seat) (moved || not (is_nil v.input)) a w t.1.2
        ∙ ap (λ (f : Fixed). f.sent) t.1.0.fixed
    fed_as_same Loudly v moved a w t = called_same _ (life t.0 t.1.0 v.port v.seat) a w t.1.1.2 ∙ ap (λ (f : Fixed). f.sent) t.1.1.0.fixed
    fed_as_same (Stopping e) v moved a w t = ended_same e (life t.0 v.input v.port v.seat) a w t.1.1 ∙ ap (λ (f : Fixed). f.sent) t.1.0.fixed

    fed_same : (v : Life P S) (moved : Bool) (a : Turn) (w : Life P S) → Fed asks desk v moved a w → Same v.parts w.parts
    fed_same v moved a w t = fed_as_same t.0 v moved a w t.1

    came_same : (came : Came) (v : Life P S) (moved : Bool) (a : Turn) (w : Life P S) → CameAs asks desk came v moved a w → Same v.parts w.parts
    came_same (CameBytes b) v moved a w (inl t) = fed_same (life v.parts b v.port v.seat) true a w t
    came_same (CameBytes b) v moved a w (inr t) = ended_same _ v a w t
    came_same CameNotYet v moved a w t = taken_same v moved a w t
    came_same CameEnd v moved a w t = ended_same _ v a w t
    came_same CameFailed v moved a w t = ended_same _ v a w t

    empty_took : (b : Bool) (v : Life P S) (l : MemLinkState) (moved : Bool) (a : Turn) (w : Life P S) (m : MemLinkState)
        → EmptyBy asks desk MemHears b v l moved a w m → Took v.parts l → Took w.parts m
    empty_took true v l moved a w m t k = heard_same l 4096 t.0 m t.1.0 ∙ k ∙ sym (came_same t.0 v moved a w t.1.1)
    empty_took false v l moved a w m t k = ap (λ (x : MemLinkState). x.sent) t.1 ∙ k ∙ sym (fed_same v moved a w t.0)

    input_by_took : (b : Bool) (v : Life P S) (l : MemLinkState) (moved : Bool) (a : Turn) (w : Life P S) (m : MemLinkState)
        → InputBy asks desk MemHears b v l moved a w m → Took v.parts l → Took w.parts m
    input_by_took true v l moved a w m t k = empty_took (is_nil v.input) v l moved a w m t k
    input_by_took false v l moved a w m t k = ap (λ (x : MemLinkState). x.sent) t.1 ∙ k ∙ sym (taken_same v moved a w t.0)

    input_took : (v : Life P S) (l : MemLinkState) (moved : Bool) (a : Turn) (w : Life P S) (m : MemLinkState) → Input asks desk MemHears v l moved a w m
        → Took v.parts l → Took w.parts m
    input_took v l moved a w m t k = input_by_took (is_hungry v.parts) v l moved a w m t k

    -- ---- step 4

    ended_took : (e : End) (v : Life P S) (l : MemLinkState) (a : Turn) (w : Life P S) (m : MemLinkState) → IsEnded e v a w × (m ≡ l) → Took v.parts l
        → Took w.parts m
    ended_took e v l a w m t k = ap (λ (x : MemLinkState). x.sent) t.1 ∙ k ∙ sym (ended_same e v a w t.0)

    -- a send that took none leaves what the link took
    sent_as_took : (q : Said) (v : Life P S) (l k : MemLinkState) (moved : Bool) (a : Turn) (w : Life P S) (m : MemLinkState)
        → MemSays l (take 16384 (pending v.parts.outgoing)) q k → SentAs asks desk MemHears MemSays q v k moved a w m
        → Took v.parts l → Took w.parts m
    sent_as_took (said.Took n) v l k moved a w m s t h =
        let sent : Took t.0 k = said_took l (pending v.parts.outgoing) n k s ∙ ap (λ (b : List ℕ). b ++ take n (pending v.parts.outgoing)) h
        ∙ sym (ap (λ (p : Past). p.sent) t.1.0.past) in
        input_took (life t.0 v.input v.port v.seat) k true a w m t.1.1 sent
    sent_as_took said.NotYet v l k moved a w m s t h = input_took v k moved a w m t (ap (λ (x : MemLinkState). x.sent) s.2 ∙ h)
    sent_as_took said.Failed v l k moved a w m s t h = ended_took _ v k a w m t (ap (λ (x : MemLinkState). x.sent) s.1 ∙ h)
    sent_as_took said.OutOfMemory v l k moved a w m s t h = ended_took _ v k a w m t (ap (λ (x : MemLinkState). x.sent) s.2 ∙ h)

    send_took : (b : Bool) (v : Life P S) (l : MemLinkState) (moved : Bool) (a : Turn) (w : Life P S) (m : MemLinkState)
        → SendBy asks desk MemHears MemSays b v l moved a w m → Took v.parts l → Took w.parts m
    send_took true v l moved a w m t h = input_took v l moved a w m t h
    send_took false v l moved a w m t h = sent_as_took t.0 v l t.1.0 moved a w m t.1.1.0 t.1.1.1 h

    sent_took : (v : Life P S) (l : MemLinkState) (moved : Bool) (a : Turn) (w : Life P S) (m : MemLinkState)
        → Sent asks desk MemHears MemSays v l moved a w m → Took v.parts l → Took w.parts m
    sent_took v l moved a w m (inl t) h = send_took (is_nil (pending t.0.outgoing)) (life t.0 v.input v.port v.seat) l moved a w m t.1.1 (h
        ∙ sym (filled_same v.parts t.0 t.1.0))
    sent_took v l moved a w m (inr t) h = ended_took _ v l a w m t h

    -- ---- steps 3, 2 and 1

    quit_took : (quit : Bool) (v : Life P S) (l : MemLinkState) (moved : Bool) (a : Turn) (w : Life P S) (m : MemLinkState)
        → QuitBy asks desk MemHears MemSays quit v l moved a w m → Took v.parts l → Took w.parts m
    quit_took true v l moved a w m t h = ended_took _ v l a w m t h
    quit_took false v l moved a w m t h = sent_took v l moved a w m t h

    after_kept_took : (quit : Bool) (v k : Life P S) (came : Made) (l : MemLinkState) (a : Turn) (w : Life P S) (m : MemLinkState)
        → AfterKept asks desk MemHears MemSays quit v came k l a w m → Took k.parts l → Took w.parts m
    after_kept_took quit v k (made.Answer r) l a w m (inl t) h = quit_took quit k l true a w m t.1 h
    after_kept_took quit v k (made.Answer r) l a w m (inr t) h = ended_took _ k l a w m t h
    after_kept_took quit v k (made.Busy f) l a w m t h = ap (λ (x : MemLinkState). x.sent) t.2 ∙ h ∙ sym (ap (λ (x : Life P S). x.parts.sent) t.1)
    after_kept_took quit v k (made.Worn f) l a w m t h = ended_took _ k l a w m t h
    after_kept_took quit v k (made.OutOfMemory f) l a w m t h = ended_took _ k l a w m t h

    kept_took : (o : Option Entry) (quit : Bool) (v : Life P S) (l : MemLinkState) (a : Turn) (w : Life P S) (m : MemLinkState)
        → KeptBy asks desk MemHears MemSays o quit v l a w m → Took v.parts l → Took w.parts m
    kept_took None quit v l a w m t h = quit_took quit v l false a w m t h
    kept_took (Some e) quit v l a w m t h = after_kept_took quit v t.1.0 t.0 l a w m t.1.1.1 (h ∙ sym (call_same v e t.0 t.1.0 t.1.1.0.called))

    -- AFTER A TURN the link took what the session sent, if it had before
    pub turn_took : (o : Option End) (quit : Bool) (v : Life P S) (l : MemLinkState) (a : Turn) (w : Life P S) (m : MemLinkState)
        → EndedBy asks desk MemHears MemSays o quit v l a w m → Took v.parts l → Took w.parts m
    turn_took None quit v l a w m t h = kept_took v.parts.kept quit v l a w m t h
    turn_took (Some e) quit v l a w m t h = ap (λ (x : MemLinkState). x.sent) t.2 ∙ h ∙ sym (ap (λ (x : Life P S). x.parts.sent) t.1)
