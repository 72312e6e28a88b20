-- What a turn of a session leaves of the bytes of its link in memory
use Rattle.std.proofs.Common.{◌≡◌, inl, inr, ℕ, ◌<◌, ◌≤◌, Bool, true, false, List, [], ◌∷◌, ◌++◌, length, take, Option, Some, None, refl, sym, ap, ◌∙◌, subst}
use Rattle.std.proofs.Common.{arith, append_assoc, append-nil}
use Rattle.std.proofs.lemmas.List.{take-take, length-take}
use Rattle.relay_outside.specs.Heard.{Came, CameBytes, CameEnd, CameNotYet, CameFailed}
use Rattle.relay_outside.specs.MemLinks.{MemHears, MemLinkState, MemSays}
use Rattle.relay_outside.specs.MemLinkLaws.{mem_says_mean}
use Rattle.relay_outside.specs.declared.link.Said.{Said}
use Rattle.relay_outside.specs.declared.link.Said.TheVariants as said
use Rattle.command_dialog.specs.declared.types.Ask.{Ask}
use Rattle.command_dialog.specs.declared.types.Grant.{Grant}
use Rattle.command_dialog.specs.declared.types.Playing.{Playing}
use Rattle.stream_model.specs.declared.calls.Entry.{Entry}
use Rattle.stream_model.specs.declared.replies.Reply.{Reply}
use Rattle.session_owed.specs.Standing.{Past}
use Rattle.chunk_wire.specs.declared.message.Message.{Message}
use Rattle.command_dialog.specs.State.{State}
use Rattle.relay_session.specs.Feeding.{Firm, Fixed, Heard, IsCalled, IsFed, IsStopped}
use Rattle.relay_session.specs.Session.{place_by}
use Rattle.relay_session.specs.Owing.{pending}
use Rattle.relay_session.specs.SessionState.{ended_by}
use Rattle.relay_session.specs.Turns.{AfterCall, AfterKept, CallAsked, CallMade, CalledBy, CameAs, EmptyBy, EndedBy, Fed, FedAs, FedBy, InputBy, IsFilled}
use Rattle.relay_session.specs.Turns.{KeptBy, Life, Loudly, Quietly, QuitBy, SendBy, Sent, SentAs, Stopping, TakeMade, Taken, TakenBy, answer, gone_of}
use Rattle.relay_session.specs.Turns.{is_hungry}
use Rattle.relay_session.specs.Turns.{is_nil, life, take_entry, takes}
use Rattle.relay_session.specs.declared.core_fields.Core.{Core}
use Rattle.relay_session.specs.declared.end.End.{End}
use Rattle.relay_session.specs.declared.end.End.TheVariants as end
use Rattle.relay_session.specs.declared.seat_answers.Made.{Made}
use Rattle.relay_session.specs.declared.seat_answers.Made.TheVariants as made
use Rattle.relay_session.specs.declared.turn.Turn.{Turn}
use Rattle.relay_session.specs.declared.turn.Turn.TheVariants.{Moved, Idle, Ended}
use Rattle.loop_command.specs.Lines.{Tied, Works}
use Rattle.loop_command.proofs.Links.{heard_keeps, said_keeps}

nil_is : (l : List ℕ) → is_nil l ≡ true → l ≡ []
nil_is [] e = refl
nil_is (x ∷ l) e = absurd (cc)

pub not_both : (b : Bool) → b ≡ true → b ≡ false → ⊥
not_both b e f = cc

some_length : (l : List ℕ) → is_nil l ≡ false → 0 < length (take 16384 l)
some_length [] e = absurd (cc)
some_length (x ∷ l) e = omega (arith, length-take 16384 (x ∷ l))

same_tied : (h z : List ℕ) (m : MemLinkState) (x x' input input' sent sent' : List ℕ) → x' ≡ x → input' ≡ input → sent' ≡ sent → Tied h z m x input sent
    → Tied h z m x' input' sent'
same_tied h z m x x' input input' sent sent' a b c t = record {
  gave = t.gave ∙ ap (λ (y : List ℕ). y ++ input) (sym a) ∙ ap (λ (y : List ℕ). x' ++ y) (sym b);
  took = t.took ∙ sym c;
  handed = t.handed;
  stream = t.stream;
}

-- ---- a step of the link

heard_bytes : (h z : List ℕ) (l m : MemLinkState) (x input sent b : List ℕ) → input ≡ [] → MemHears l 4096 (CameBytes b) m → Tied h z l x input sent
    → Tied h z m x b sent
heard_bytes h z l m x input sent b none s t =
    let k = heard_keeps (CameBytes b) l m s in
    record {
      gave = ap (λ (q : MemLinkState). q.gave) s.2 ∙ ap (λ (y : List ℕ). y ++ b) (t.gave ∙ ap (λ (y : List ℕ). x ++ y) none ∙ append-nil x);
      took = ap (λ (q : MemLinkState). q.handed ++ q.sent) s.2 ∙ t.took;
      handed = k.handed ∙ t.handed;
      stream = k.stream ∙ t.stream;
    }

not_yet : (h z : List ℕ) (l m : MemLinkState) (x input sent : List ℕ) → MemHears l 4096 CameNotYet m → Tied h z l x input sent → Tied h z m x input sent
not_yet h z l m x input sent s t =
    let k = heard_keeps CameNotYet l m s in
    record {
      gave = ap (λ (q : MemLinkState). q.gave) s.3 ∙ t.gave;
      took = ap (λ (q : MemLinkState). q.handed ++ q.sent) s.3 ∙ t.took;
      handed = k.handed
          ∙ t.handed;
      stream = k.stream ∙ t.stream;
    }

said_bytes : (h z : List ℕ) (l m : MemLinkState) (x input sent p : List ℕ) (n : ℕ) → n ≤ length (take 16384 p) → MemSays l (take 16384 p) (said.Took n) m
    → Tied h z l x input sent → Tied h z m x input (sent ++ take n p)
said_bytes h z l m x input sent p n le s t =
    let same : take n (take 16384 p) ≡ take n p = take-take n 16384 p (omega (arith, le, length-take 16384 p)) in
    let k = said_keeps (said.Took n) (take 16384 p) l m s in
    record {
      gave = ap (λ (q : MemLinkState). q.gave) s.3 ∙ t.gave;
      took = ap (λ (q : MemLinkState). q.handed ++ q.sent) s.3 ∙ sym (append_assoc l.handed l.sent (take n (take 16384 p)))
          ∙ ap (λ (y : List ℕ). y ++ take n (take 16384 p)) t.took ∙ ap (λ (y : List ℕ). sent ++ y) same;
      handed = k.handed ∙ t.handed;
      stream = k.stream ∙ t.stream;
    }

said_none : (h z : List ℕ) (l m : MemLinkState) (x input sent : List ℕ) (p : List ℕ) → MemSays l p said.NotYet m → Tied h z l x input sent
    → Tied h z m x input sent
said_none h z l m x input sent p s t =
    let k = said_keeps said.NotYet p l m s in
    record {
      gave = ap (λ (q : MemLinkState). q.gave) s.2 ∙ t.gave;
      took = ap (λ (q : MemLinkState). q.handed ++ q.sent) s.2 ∙ t.took;
      handed = k.handed
          ∙ t.handed;
      stream = k.stream ∙ t.stream;
    }

-- ---- the steps of a turn, the last first

-- HOME: what holds of where a session calls. Messages and calls keep it. TOLD: the session was told to end
module _ {P S : Type 0} (asks : P → S → ℕ → Entry → Made → P → S → Type 0) (desk : Ask → Grant) (h z : List ℕ) (Home : Option ℕ → P → S → Type 0)
    (heard_home : (s : State) (place : Option ℕ) (m : Message) (x : P) (t : S) → Home place x t → Home (place_by desk s place m) x t)
    (asked_home : (x : P) (s : S) (place : ℕ) (e : Entry) (r : Made) (y : P) (t : S) → asks x s place e r y t → Home (Some place) x s
    → Home (Some place) y t) (Told : Type 0) where
  -- what holds of a life and its link
  pub record On (v : Life P S) (m : MemLinkState) : Type 0 where
    pub tied : Tied h z m v.parts.x v.input v.parts.sent
    pub home : Home v.parts.place v.port v.seat
    pub works : Works m

  -- a byte of those that came has ended it
  pub record Fell (e : End) (w : Life P S) (m : MemLinkState) : Type 0 where
    pub old : Core
    pub stopped : Core
    pub input : List ℕ
    pub tied : Tied h z m old.x input old.sent
    pub stop : IsStopped old input e stopped
    pub gone : gone_of w.parts ≡ gone_of stopped

  -- why it has ended, over a link that works
  abbrev pub Why : End → Life P S → MemLinkState → Type 0
  Why end.PeerClosed w m = ⊥
  Why end.LinkFault w m = ⊥
  Why (end.BadVersion at) w m = Fell (end.BadVersion at) w m
  Why (end.BadChunk cause at) w m = Fell (end.BadChunk cause at) w m
  Why (end.BadControl at) w m = Fell (end.BadControl at) w m
  Why (end.BadCommand at) w m = Fell (end.BadCommand at) w m
  Why (end.TooManyStreams at) w m = Fell (end.TooManyStreams at) w m
  Why end.Quit w m = Told
  Why end.Worn w m = Unit {0}
  Why end.OutOfMemory w m = Unit {0}

  -- and what holds after its turn
  abbrev pub After : Turn → Life P S → MemLinkState → Type 0
  After Moved w m = On w m
  After Idle w m = On w m
  After (Ended e) w m = Why e w m

  goes_on : (b : Bool) (a : Turn) (w : Life P S) (m : MemLinkState) → a ≡ answer b → On w m → After a w m
  goes_on true a w m e t = subst (λ (q : Turn). After q w m) (sym e) t
  goes_on false a w m e t = subst (λ (q : Turn). After q w m) (sym e) t

  ends : (e : End) (a : Turn) (w : Life P S) (m : MemLinkState) → a ≡ Ended e → Why e w m → After a w m
  ends e a w m i y = subst (λ (q : Turn). After q w m) (sym i) y

  fell_why : (e : End) (w : Life P S) (m : MemLinkState) → Fell e w m → Why e w m
  fell_why end.PeerClosed w m f = f.stop.cause
  fell_why end.LinkFault w m f = f.stop.cause
  fell_why (end.BadVersion at) w m f = f
  fell_why (end.BadChunk cause at) w m f = f
  fell_why (end.BadControl at) w m f = f
  fell_why (end.BadCommand at) w m f = f
  fell_why (end.TooManyStreams at) w m f = f
  fell_why end.Quit w m f = absurd f.stop.cause
  fell_why end.Worn w m f = tt
  fell_why end.OutOfMemory w m f = tt

  at_link : (a : Turn) (w : Life P S) (m l : MemLinkState) → m ≡ l → After a w l → After a w m
  at_link a w m l e t = subst (λ (q : MemLinkState). After a w q) (sym e) t

  -- a call was asked at the session's place
  asked_at : (v w : Life P S) (place : ℕ) (e : Entry) (r : Made) → v.parts.place ≡ Some place → asks v.port v.seat place e r w.port w.seat
      → Home v.parts.place v.port v.seat → Home v.parts.place w.port w.seat
  asked_at v w place e r there a o = subst (λ (p : Option ℕ). Home p w.port w.seat) (sym there)
      (asked_home v.port v.seat place e r w.port w.seat a (subst (λ (p : Option ℕ). Home p v.port v.seat) there o))

  same_home : (c d : Core) (x : P) (s : S) → d.place ≡ c.place → Home c.place x s → Home d.place x s
  same_home c d x s e o = subst (λ (p : Option ℕ). Home p x s) (sym e) o

  called_on : (v w : Life P S) (e : Entry) (r : Reply) (m : MemLinkState) → IsCalled v.parts e r w.parts → w.input ≡ v.input
      → Home v.parts.place w.port w.seat → On v m → On w m
  called_on v w e r m c i home t = record {
    tied = same_tied h z m v.parts.x w.parts.x v.input w.input v.parts.sent w.parts.sent (ap (λ (p : Past). p.x) c.past) i
        (ap (λ (p : Past). p.sent) c.past) t.tied;
    home = same_home v.parts w.parts w.port w.seat (ap (λ (f : Firm). f.place) c.firm) home;
    works = t.works;
  }

  same_on : (v w : Life P S) (m : MemLinkState) → w.parts ≡ v.parts → w.input ≡ v.input → Home v.parts.place w.port w.seat → On v m → On w m
  same_on v w m p i home t = record {
    tied = same_tied h z m v.parts.x w.parts.x v.input w.input v.parts.sent w.parts.sent (ap (λ (c : Core). c.x) p) i (ap (λ (c : Core). c.sent) p) t.tied;
    home = same_home v.parts w.parts w.port w.seat (ap (λ (c : Core). c.place) p) home;
    works = t.works;
  }

  filled_on : (v : Life P S) (c : Core) (m : MemLinkState) → IsFilled v.parts c → On v m → On (life c v.input v.port v.seat) m
  filled_on v c m f t = record {
    tied = same_tied h z m v.parts.x c.x v.input v.input v.parts.sent c.sent (ap (λ (k : Core). k.x) f.rest) refl (ap (λ (k : Core). k.sent) f.rest) t.tied;
    home = same_home v.parts c v.port v.seat (ap (λ (k : Core). k.place) f.rest) t.home;
    works = t.works;
  }

  take_made : (v w : Life P S) (e : Entry) (moved : Bool) (came : Made) (a : Turn) (m : MemLinkState) → TakeMade v e moved came w a → w.input ≡ v.input
      → Home v.parts.place w.port w.seat → On v m → After a w m
  take_made v w e moved (made.Answer r) a m (c, inl t) i home o = goes_on _ a w m t.0 (called_on v w e r m c i home o)
  take_made v w e moved (made.Answer r) a m (c, inr t) i home o = ends end.OutOfMemory a w m t tt
  take_made v w e moved (made.Busy f) a m t i home o = goes_on moved a w m t.1 (same_on v w m t.0 i home o)
  take_made v w e moved (made.Worn f) a m t i home o = ends end.Worn a w m t.1 tt
  take_made v w e moved (made.OutOfMemory f) a m t i home o = ends end.OutOfMemory a w m t.1 tt

  taken_by : (p : Option Playing) (v w : Life P S) (moved : Bool) (a : Turn) (m : MemLinkState) → TakenBy asks p v moved a w → On v m → After a w m
  taken_by None v w moved a m t o = goes_on moved a w m t.0 (subst (λ (u : Life P S). On u m) (sym t.1) o)
  taken_by (Some p) v w moved a m t o = take_made v w (take_entry v.parts p) moved t.came a m t.taken t.input
      (asked_at v w t.place (take_entry v.parts p) t.came t.there t.asked o.home) o

  taken : (v w : Life P S) (moved : Bool) (a : Turn) (m : MemLinkState) → Taken asks v moved a w → On v m → After a w m
  taken v w moved a m (inl t) o = taken_by (takes t.0) (life t.0 v.input v.port v.seat) w moved a m t.2 (filled_on v t.0 m t.1 o)
  taken v w moved a m (inr t) o = ends end.OutOfMemory a w m t.ended tt

  call_made : (v w : Life P S) (e : Entry) (came : Made) (m : MemLinkState) → CallMade v e came w → w.input ≡ v.input → Home v.parts.place w.port w.seat
      → On v m → On w m
  call_made v w e (made.Answer r) m c i home o = called_on v w e r m c i home o
  call_made v w e (made.Busy f) m c i home o = same_on v w m c i home o
  call_made v w e (made.Worn f) m c i home o = same_on v w m c i home o
  call_made v w e (made.OutOfMemory f) m c i home o = same_on v w m c i home o

  call_asked : (v w : Life P S) (e : Entry) (came : Made) (m : MemLinkState) → CallAsked asks v e came w → On v m → On w m
  call_asked v w e came m c o = call_made v w e came m c.called c.input (asked_at v w c.place e came c.there c.asked o.home) o

  after_call : (v u w : Life P S) (came : Made) (a : Turn) (m : MemLinkState) → AfterCall asks v came u a w → On u m → After a w m
  after_call v u w (made.Answer r) a m (inl t) o = taken u w true a m t.1 o
  after_call v u w (made.Answer r) a m (inr t) o = ends end.OutOfMemory a w m t.ended tt
  after_call v u w (made.Busy f) a m t o = taken u w true a m t o
  after_call v u w (made.Worn f) a m t o = ends end.Worn a w m t.ended tt
  after_call v u w (made.OutOfMemory f) a m t o = ends end.OutOfMemory a w m t.ended tt

  called_by : (k : Option Entry) (v w : Life P S) (a : Turn) (m : MemLinkState) → CalledBy asks k v a w → On v m → After a w m
  called_by None v w a m t o = taken v w true a m t o
  called_by (Some e) v w a m t o = after_call v t.1.0 w t.0 a m t.1.1.1 (call_asked v t.1.0 e t.0 m t.1.1.0 o)

  fed_on : (v : Life P S) (c : Core) (left : List ℕ) (m : MemLinkState) → IsFed v.parts v.input c left → Home c.place v.port v.seat → On v m
      → On (life c left v.port v.seat) m
  fed_on v c left m f home t = record {
    tied = record {
      gave = t.tied.gave ∙ ap (λ (y : List ℕ). v.parts.x ++ y) (sym f.split) ∙ sym (append_assoc v.parts.x f.fed left)
          ∙ ap (λ (y : List ℕ). y ++ left) (sym f.x);
      took = t.tied.took ∙ sym (ap (λ (k : Fixed). k.sent) f.fixed);
      handed = t.tied.handed;
      stream = t.tied.stream;
    };
    home = home;
    works = t.works;
  }

  fed_as : (by : FedBy) (v w : Life P S) (moved : Bool) (a : Turn) (m : MemLinkState) → FedAs asks desk by v moved a w → On v m → After a w m
  fed_as Quietly v w moved a m t o = taken (life t.0 [] v.port v.seat) w _ a m t.1.2
      (fed_on v t.0 [] m t.1.0 (same_home v.parts t.0 v.port v.seat (ap (λ (k : Heard). k.place) t.1.1) o.home) o)
  fed_as Loudly v w moved a m t o =
      let heard = t.1.1.1 in
      called_by t.0.kept (life t.0 t.1.0 v.port v.seat) w a m t.1.1.2
      (fed_on v t.0 t.1.0 m t.1.1.0 (subst (λ (p : Option ℕ). Home p v.port v.seat) (sym (ap (λ (k : Heard). k.place) heard.1))
      (heard_home v.parts.dialog v.parts.place heard.0 v.port v.seat o.home)) o)
  fed_as (Stopping e) v w moved a m t o =
      ends e a w m t.1.1.ended (fell_why e w m (record { old = v.parts; stopped = t.0; input = v.input; tied = o.tied; stop = t.1.0; gone = t.1.1.gone }))

  fed : (v w : Life P S) (moved : Bool) (a : Turn) (m : MemLinkState) → Fed asks desk v moved a w → On v m → After a w m
  fed v w moved a m t o = fed_as t.0 v w moved a m t.1 o

  came_as : (came : Came) (v w : Life P S) (moved : Bool) (a : Turn) (l m : MemLinkState) → v.input ≡ [] → MemHears l 4096 came m
      → CameAs asks desk came v moved a w → On v l → After a w m
  came_as (CameBytes b) v w moved a l m none s (inl t) o =
      fed (life v.parts b v.port v.seat) w true a m t (record {
        tied = heard_bytes h z l m v.parts.x v.input v.parts.sent b none s o.tied;
        home = o.home;
        works = (heard_keeps (CameBytes b) l m s).works o.works;
      })
  came_as (CameBytes b) v w moved a l m none s (inr t) o = ends end.OutOfMemory a w m t.ended tt
  came_as CameNotYet v w moved a l m none s t o = taken v w moved a m t
      (record { tied = not_yet h z l m v.parts.x v.input v.parts.sent s o.tied; home = o.home; works = (heard_keeps CameNotYet l m s).works o.works })
  came_as CameEnd v w moved a l m none s t o = absurd (not_both l.ended s.2 o.works.lasts)
  came_as CameFailed v w moved a l m none s t o = absurd (not_both l.recv_fails s.0 o.works.receives)

  empty_by : (b : Bool) (v w : Life P S) (l : MemLinkState) (moved : Bool) (a : Turn) (m : MemLinkState) → is_nil v.input ≡ b
      → EmptyBy asks desk MemHears b v l moved a w m → On v l → After a w m
  empty_by true v w l moved a m e t o = came_as t.0 v w moved a l m (nil_is v.input e) t.1.0 t.1.1 o
  empty_by false v w l moved a m e t o = at_link a w m l t.1 (fed v w moved a l t.0 o)

  input_by : (b : Bool) (v w : Life P S) (l : MemLinkState) (moved : Bool) (a : Turn) (m : MemLinkState) → InputBy asks desk MemHears b v l moved a w m
      → On v l → After a w m
  input_by true v w l moved a m t o = empty_by (is_nil v.input) v w l moved a m refl t o
  input_by false v w l moved a m t o = at_link a w m l t.1 (taken v w moved a l t.0 o)

  sent_as : (q : Said) (v w : Life P S) (l k : MemLinkState) (moved : Bool) (a : Turn) (m : MemLinkState) → is_nil (pending v.parts.outgoing) ≡ false
      → MemSays l (take 16384 (pending v.parts.outgoing)) q k → SentAs asks desk MemHears MemSays q v k moved a w m → On v l
      → After a w m
  sent_as (said.Took n) v w l k moved a m e s t o =
      let p = pending v.parts.outgoing in
      let c = t.0 in
      let i = t.1.0 in
      let step = mem_says_mean l (take 16384 p) (said.Took n) k (some_length p e) s in
      let tied : Tied h z k v.parts.x v.input (v.parts.sent ++ take n p) = said_bytes h z l k v.parts.x v.input v.parts.sent p n step.count.1 s o.tied in
      input_by (is_hungry c) (life c v.input v.port v.seat) w k true a m t.1.1 (record {
        tied = same_tied h z k v.parts.x c.x v.input v.input (v.parts.sent ++ take n p) c.sent (ap (λ (y : Past). y.x) i.past) refl
            (ap (λ (y : Past). y.sent) i.past) tied;
        home = same_home v.parts c v.port v.seat (ap (λ (f : Firm). f.place) i.firm) o.home;
        works = (said_keeps (said.Took n) (take 16384 p) l k s).works o.works;
      })
  sent_as said.NotYet v w l k moved a m e s t o =
      input_by (is_hungry v.parts) v w k moved a m t (record {
        tied = said_none h z l k v.parts.x v.input v.parts.sent (take 16384 (pending v.parts.outgoing)) s o.tied;
        home = o.home;
        works = (said_keeps said.NotYet (take 16384 (pending v.parts.outgoing)) l k s).works o.works;
      })
  sent_as said.Failed v w l k moved a m e s t o = absurd (not_both l.send_fails s.0 o.works.sends)
  sent_as said.OutOfMemory v w l k moved a m e s t o = ends end.OutOfMemory a w m t.0.ended tt

  send_by : (b : Bool) (v w : Life P S) (l : MemLinkState) (moved : Bool) (a : Turn) (m : MemLinkState) → is_nil (pending v.parts.outgoing) ≡ b
      → SendBy asks desk MemHears MemSays b v l moved a w m → On v l → After a w m
  send_by true v w l moved a m e t o = input_by (is_hungry v.parts) v w l moved a m t o
  send_by false v w l moved a m e t o = sent_as t.0 v w l t.1.0 moved a m e t.1.1.0 t.1.1.1 o

  sent : (v w : Life P S) (l : MemLinkState) (moved : Bool) (a : Turn) (m : MemLinkState) → Sent asks desk MemHears MemSays v l moved a w m → On v l
      → After a w m
  sent v w l moved a m (inl t) o = send_by (is_nil (pending t.0.outgoing)) (life t.0 v.input v.port v.seat) w l moved a m refl t.1.1 (filled_on v t.0 l t.1.0 o)
  sent v w l moved a m (inr t) o = ends end.OutOfMemory a w m t.0.ended tt

  quit_by : (q : Bool) (v w : Life P S) (l : MemLinkState) (moved : Bool) (a : Turn) (m : MemLinkState) → (q ≡ true → Told)
      → QuitBy asks desk MemHears MemSays q v l moved a w m → On v l → After a w m
  quit_by true v w l moved a m y t o = ends end.Quit a w m t.0.ended (y refl)
  quit_by false v w l moved a m y t o = sent v w l moved a m t o

  after_kept : (q : Bool) (v k w : Life P S) (came : Made) (l : MemLinkState) (a : Turn) (m : MemLinkState) → (q ≡ true → Told)
      → AfterKept asks desk MemHears MemSays q v came k l a w m → On k l → After a w m
  after_kept q v k w (made.Answer r) l a m y (inl t) o = quit_by q k w l true a m y t.1 o
  after_kept q v k w (made.Answer r) l a m y (inr t) o = ends end.OutOfMemory a w m t.0.ended tt
  after_kept q v k w (made.Busy f) l a m y t o = at_link a w m l t.2 (goes_on false a w l t.0 (subst (λ (u : Life P S). On u l) (sym t.1) o))
  after_kept q v k w (made.Worn f) l a m y t o = ends end.Worn a w m t.0.ended tt
  after_kept q v k w (made.OutOfMemory f) l a m y t o = ends end.OutOfMemory a w m t.0.ended tt

  kept_by : (e : Option Entry) (q : Bool) (v w : Life P S) (l : MemLinkState) (a : Turn) (m : MemLinkState) → (q ≡ true → Told)
      → KeptBy asks desk MemHears MemSays e q v l a w m → On v l → After a w m
  kept_by None q v w l a m y t o = quit_by q v w l false a m y t o
  kept_by (Some e) q v w l a m y t o = after_kept q v t.1.0 w t.0 l a m y t.1.1.1 (call_asked v t.1.0 e t.0 l t.1.1.0 o)

  -- A TURN of one that lives
  pub turned_on : (e : Option End) (q : Bool) (v w : Life P S) (l : MemLinkState) (a : Turn) (m : MemLinkState) → e ≡ None → (q ≡ true → Told)
      → EndedBy asks desk MemHears MemSays e q v l a w m → On v l → After a w m
  turned_on None q v w l a m n y t o = kept_by v.parts.kept q v w l a m y t o
  turned_on (Some e) q v w l a m n y t o = absurd (let f : Some e ≡ None = n in cc)

  lives_on : (a : Turn) (w : Life P S) (m : MemLinkState) → ended_by a ≡ None → After a w m → On w m
  lives_on Moved w m e t = t
  lives_on Idle w m e t = t
  lives_on (Ended f) w m e t = absurd (cc)

  -- after which it lives
  pub turned_lives : (e : Option End) (q : Bool) (v w : Life P S) (l : MemLinkState) (a : Turn) (m : MemLinkState) → e ≡ None → (q ≡ true → Told)
      → ended_by a ≡ None
      → EndedBy asks desk MemHears MemSays e q v l a w m → On v l → On w m
  turned_lives e q v w l a m n y f t o = lives_on a w m f (turned_on e q v w l a m n y t o)
