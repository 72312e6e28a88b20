-- What a call of an edge leaves
use Rattle.std.proofs.Common.{◌≡◌, ◌≤◌, inl, inr, ℕ, ◌+◌, Bool, true, false, List, [], ◌∷◌, ◌++◌, Option, Some, None, refl, sym, ap, ◌∙◌, subst, arith}
use Rattle.relay_outside.specs.Told.{LinkCounts}
use Rattle.stream_model.specs.declared.calls.Entry.{Entry}
use Rattle.stream_model.specs.declared.replies.Reply.{Reply}
use Rattle.stream_model.specs.declared.replies.Reply.TheVariants as reply
use Rattle.stream_registry.specs.Names.{PortRules}
use Rattle.stream_registry.specs.Told as told
use Rattle.stream_registry.specs.Told.{Histories, Step}
use Rattle.client_owed.specs.declared.types.Gift.{Gift}
use Rattle.rtmp_client.specs.ClientState.{ClientState}
use Rattle.relay_session.specs.Onward.{GoesOn}
use Rattle.relay_session.specs.Places.{Asked}
use Rattle.relay_session.specs.SeatState.{SeatState, known}
use Rattle.relay_session.specs.declared.seat_answers.Made.{Made}
use Rattle.relay_session.specs.declared.seat_answers.Made.TheVariants as made
use Rattle.relay_session.proofs.SeatStanding.{go_on_same}
use Rattle.origin_pull.specs.Causes.{Did, MayBe, MayWait}
use Rattle.origin_pull.specs.EdgeState.{LivesOn, lasting_of}
use Rattle.origin_pull.specs.Keeping.{Begun, HasEnded, IsSound, Owes, bytes_in, listed, waiting, waiting_bytes}
use Rattle.origin_pull.specs.Turns.{Called, IsAnswered, IsKept, Life, MadeAs, Pulls, TurnBy, after, after_begin, is_begin, life}
use Rattle.origin_pull.specs.declared.core_fields.Core.{Core}
use Rattle.origin_pull.specs.declared.due.Due.{Due}
use Rattle.origin_pull.specs.declared.due.Due.TheVariants.{Nothing}
use Rattle.origin_pull.specs.declared.end.EdgeEnd.TheVariants as end
use Rattle.origin_pull.specs.declared.turn.EdgeTurn.{EdgeTurn}
use Rattle.origin_pull.specs.declared.turn.EdgeTurn.TheVariants.{Moved, Idle, Ended}
use Rattle.origin_pull.proofs.Owing.{IsFree, free_waits, nothing_waits, owes_answered, owes_begun, owes_kept}
use Rattle.origin_pull.proofs.Room.{room_less}
use Rattle.origin_pull.proofs.Turning.{same_lasting}
use Rattle.rtmp_client.specs.declared.end.ClientTurn.{ClientTurn}

-- ---- what follows a reply

began_by : (T : EdgeTurn → Type 0) (r : Reply) → T Moved → ((by : ℕ) → T (Ended (end.InUse by))) → T (Ended end.NoSlot) → T (after_begin r)
began_by T (reply.InUse by) m i n = i by
began_by T (reply.NoSlot slots) m i n = n
began_by T (reply.Began k) m i n = m
began_by T (reply.Pushed k) m i n = m
began_by T (reply.NotPublisher live) m i n = m
began_by T (reply.Ended k) m i n = m
began_by T (reply.Joined player from) m i n = m
began_by T reply.Full m i n = m
began_by T reply.NotPlayer m i n = m
began_by T (reply.Sent from k item) m i n = m
began_by T (reply.Skip from to) m i n = m
began_by T (reply.NotYet k) m i n = m
began_by T (reply.Left player) m i n = m
began_by T (reply.Counts began pushed ended joined skips) m i n = m

after_by : (T : EdgeTurn → Type 0) (b : Bool) (r : Reply) → T Moved → ((by : ℕ) → T (Ended (end.InUse by))) → T (Ended end.NoSlot) → T (after b r)
after_by T true r m i n = began_by T r m i n
after_by T false r m i n = m

-- ---- what it keeps then

rest_bytes : (c d : Core) (e : Entry) (rest : List Entry) → waiting c ≡ e ∷ rest → waiting d ≡ rest → waiting_bytes d ≤ waiting_bytes c
rest_bytes c d e rest w l = omega (arith, ap bytes_in w, ap bytes_in l)

same_bytes : (c d : Core) (e : Entry) (rest : List Entry) → waiting c ≡ e ∷ rest → waiting d ≡ e ∷ rest → waiting_bytes d ≤ waiting_bytes c
same_bytes c d e rest w l = omega (arith, ap bytes_in w, ap bytes_in l)

owed_first : (c : Core) (ws : List Entry) (gs : List Gift) → waiting c ≡ ws → Owes c (waiting c) gs → Owes c ws gs
owed_first c ws gs w o = subst (λ (l : List Entry). Owes c l gs) w o

answered_sound : (c d : Core) (k : ClientState) (e : Entry) (rest : List Entry) (r : Reply) → waiting c ≡ e ∷ rest → IsAnswered c e rest r d → IsSound c k
    → IsSound d k
answered_sound c d k e rest r w i s = record {
  client = s.client;
  lives = s.lives;
  owes = owes_answered c d e rest r k.parts.taken i (owed_first c (e ∷ rest) k.parts.taken w s.owes);
  room = room_less (waiting_bytes d) (waiting_bytes c) k (rest_bytes c d e rest w i.left) s.room;
}

kept_sound : (c d : Core) (k : ClientState) (e : Entry) (rest : List Entry) → waiting c ≡ e ∷ rest → IsKept c e rest d → IsSound c k → IsSound d k
kept_sound c d k e rest w i s = record {
  client = s.client;
  lives = s.lives;
  owes = owes_kept c d e rest k.parts.taken i (owed_first c (e ∷ rest) k.parts.taken w s.owes);
  room = room_less (waiting_bytes d) (waiting_bytes c) k (same_bytes c d e rest w i.left) s.room;
}

begun : (d : Core) (k : ClientState) → IsSound d k → Begun d k.parts.taken
begun d k s = owes_begun d (waiting d) k.parts.taken s.owes

made_lives : (c d : Core) (k : ClientState) (e : Entry) (rest : List Entry) (came : Made) (a : EdgeTurn) → waiting c ≡ e ∷ rest → IsSound c k
    → MadeAs c e rest came a d → LivesOn d k a
made_lives c d k e rest (made.Answer r) a w s m =
    let t = answered_sound c d k e rest r w m.0 s in
    let b = begun d k t in
    subst (LivesOn d k) (sym m.1)
    (after_by (LivesOn d k) (is_begin e.call) r t (λ by. record { client = t.client; over = b; room = t.room })
    (record { client = t.client; over = b; room = t.room }))
made_lives c d k e rest (made.Busy f) a w s m = subst (LivesOn d k) (sym m.1) (kept_sound c d k e rest w m.0 s)
made_lives c d k e rest (made.Worn f) a w s m =
    let t = kept_sound c d k e rest w m.0 s in
    let h : HasEnded end.Worn d k = record { client = t.client; over = begun d k t; room = t.room } in
    subst (LivesOn d k) (sym m.1) h
made_lives c d k e rest (made.OutOfMemory f) a w s m =
    let t = kept_sound c d k e rest w m.0 s in
    let h : HasEnded end.OutOfMemory d k = record { client = t.client; over = begun d k t; room = t.room } in
    subst (LivesOn d k) (sym m.1) h

made_did : (c d : Core) (k : ClientState) (e : Entry) (rest : List Entry) (came : Made) (a : EdgeTurn) → MadeAs c e rest came a d → Did a c k d k
made_did c d k e rest (made.Answer r) a m =
    subst (λ (x : EdgeTurn). Did x c k d k) (sym m.1)
    (after_by (λ (x : EdgeTurn). Did x c k d k) (is_begin e.call) r (inl ((e, r), ap (λ (y : Core). y.calls) m.0.parts)) (λ by. tt) tt)
made_did c d k e rest (made.Busy f) a m =
    subst (λ (x : EdgeTurn). Did x c k d k) (sym m.1) (record
    { calls = ap (λ (y : Core). y.calls) m.0.parts; client = record { y = refl; input = refl; sent = refl } })
made_did c d k e rest (made.Worn f) a m = subst (λ (x : EdgeTurn). Did x c k d k) (sym m.1) tt
made_did c d k e rest (made.OutOfMemory f) a m = subst (λ (x : EdgeTurn). Did x c k d k) (sym m.1) tt

same_core : (c d : Core) (e : Entry) (rest : List Entry) (came : Made) (a : EdgeTurn) → MadeAs c e rest came a d → (d.who ≡ c.who) × (d.place ≡ c.place)
same_core c d e rest (made.Answer r) a m = (ap (λ (y : Core). y.who) m.0.parts, ap (λ (y : Core). y.place) m.0.parts)
same_core c d e rest (made.Busy f) a m = (ap (λ (y : Core). y.who) m.0.parts, ap (λ (y : Core). y.place) m.0.parts)
same_core c d e rest (made.Worn f) a m = (ap (λ (y : Core). y.who) m.0.parts, ap (λ (y : Core). y.place) m.0.parts)
same_core c d e rest (made.OutOfMemory f) a m = (ap (λ (y : Core). y.who) m.0.parts, ap (λ (y : Core). y.place) m.0.parts)

-- the call that is made was taken from those that wait
made_before : (c b d : Core) (e : Entry) (rest : List Entry) (came : Made) (a : EdgeTurn) → b ≡ record c { kept = None; due = b.due }
    → MadeAs b e rest came a d → MadeAs c e rest came a d
made_before c b d e rest (made.Answer r) a s m =
    (record { parts = m.0.parts ∙ ap (λ (y : Core). record y { kept = None; due = d.due; calls = y.calls ++ (e, r) ∷ [] }) s; left = m.0.left }, m.1)
made_before c b d e rest (made.Busy f) a s m = (
  record {
    parts = m.0.parts
        ∙ ap (λ (y : Core). record y { kept = Some e; due = d.due }) s;
    left = m.0.left;
  },
  m.1,
)
made_before c b d e rest (made.Worn f) a s m = (
  record {
    parts = m.0.parts
        ∙ ap (λ (y : Core). record y { kept = Some e; due = d.due }) s;
    left = m.0.left;
  },
  m.1,
)
made_before c b d e rest (made.OutOfMemory f) a s m = (
  record {
    parts = m.0.parts
        ∙ ap (λ (y : Core). record y { kept = Some e; due = d.due }) s;
    left = m.0.left;
  },
  m.1,
)

-- where none waits nothing was taken
pub same_free : (c b : Core) → b ≡ record c { kept = None; due = b.due } → b.due ≡ Nothing → IsFree c → b ≡ c
same_free c b s n f =
    s ∙ ap (λ (x : Due). record c { kept = None; due = x }) n
    ∙ ap (λ (o : Option Entry). record c { kept = o; due = Nothing }) (sym f.kept) ∙ ap (λ (x : Due). record c { kept = c.kept; due = x }) (sym f.due)

pub order_some : (c b : Core) (o : Option Entry) (e : Entry) → o ≡ Some e → listed o ++ waiting b ≡ waiting c → waiting c ≡ e ∷ waiting b
order_some c b o e s w = sym w ∙ ap (λ (x : Option Entry). listed x ++ waiting b) s

-- ---- what the code makes of a call

pub answered_parts : (c d : Core) (e x : Entry) (r : Reply) → c.kept ≡ None → d ≡ record c { calls = c.calls ++ (x, r) ∷ [] } → x ≡ e
    → IsAnswered c e (waiting c) r d
answered_parts c d e x r n s i = record {
  parts = s ∙ ap (λ (y : Entry). record c { calls = c.calls ++ (y, r) ∷ [] }) i
      ∙ ap (λ (o : Option Entry). record c { kept = o; calls = c.calls ++ (e, r) ∷ [] }) n
      ∙ ap (λ (u : Due). record c { kept = None; due = u; calls = c.calls ++ (e, r) ∷ [] }) (sym (ap (λ (y : Core). y.due) s));
  left = ap (λ (y : Core). waiting y) s;
}

module _ {P S : Type 0} (asks : P → S → ℕ → Entry → Made → P → S → Type 0) where
  pub called_before : (c b : Core) (k : ClientState) (p : P) (s : S) (e : Entry) (rest : List Entry) (a : EdgeTurn) (w : Life P S)
      → b ≡ record c { kept = None; due = b.due }
      → Called asks (life b k p s) e rest a w → Called asks (life c k p s) e rest a w
  called_before c b k p s e rest a w same t = record {
    came = t.came;
    asked = subst (λ (x : ℕ). asks p s x e t.came w.port w.seat) (ap (λ (y : Core). y.place) same) t.asked;
    became = made_before c b w.parts e rest t.came a same t.became;
    client = t.client;
  }

  pub called_lives : (v w : Life P S) (e : Entry) (rest : List Entry) (a : EdgeTurn) → waiting v.parts ≡ e ∷ rest → IsSound v.parts v.client
      → Called asks v e rest a w → LivesOn w.parts w.client a
  called_lives v w e rest a o s t = subst (λ (k : ClientState). LivesOn w.parts k a) (sym t.client)
      (made_lives v.parts w.parts v.client e rest t.came a o s t.became)

  pub called_did : (v w : Life P S) (e : Entry) (rest : List Entry) (a : EdgeTurn) → Called asks v e rest a w → Did a v.parts v.client w.parts w.client
  called_did v w e rest a t = subst (λ (k : ClientState). Did a v.parts v.client w.parts k) (sym t.client)
      (made_did v.parts w.parts v.client e rest t.came a t.became)

  pub called_lasts : (v w : Life P S) (e : Entry) (rest : List Entry) (a : EdgeTurn) → Called asks v e rest a w
      → lasting_of w.parts w.client ≡ lasting_of v.parts v.client
  called_lasts v w e rest a t =
      let same = same_core v.parts w.parts e rest t.came a t.became in
      ap (λ (k : ClientState). lasting_of w.parts k) t.client ∙ same_lasting v.parts w.parts v.client v.client same.0 same.1 refl refl

  module _ (busies : P → ℕ) (rises : (p : P) (s : S) (place : ℕ) (e f : Entry) (q : P) (t : S) → asks p s place e (made.Busy f) q t
      → told.Rose (busies p) (busies q)) where
    made_may : (c d : Core) (p q : P) (s t : S) (place : ℕ) (e : Entry) (rest : List Entry) (came : Made) (a : EdgeTurn) (x y : LinkCounts)
        → asks p s place e came q t → MadeAs c e rest came a d → MayBe a (busies p) (busies q) x y
    made_may c d p q s t place e rest (made.Answer r) a x y h m =
        subst (λ (z : EdgeTurn). MayBe z (busies p) (busies q) x y) (sym m.1)
        (after_by (λ (z : EdgeTurn). MayBe z (busies p) (busies q) x y) (is_begin e.call) r tt (λ by. tt) tt)
    made_may c d p q s t place e rest (made.Busy f) a x y h m =
        subst (λ (z : EdgeTurn). MayBe z (busies p) (busies q) x y) (sym m.1) (inl (rises p s place e f q t h))
    made_may c d p q s t place e rest (made.Worn f) a x y h m = subst (λ (z : EdgeTurn). MayBe z (busies p) (busies q) x y) (sym m.1) tt
    made_may c d p q s t place e rest (made.OutOfMemory f) a x y h m = subst (λ (z : EdgeTurn). MayBe z (busies p) (busies q) x y) (sym m.1) tt

    pub called_may : (v w : Life P S) (e : Entry) (rest : List Entry) (a : EdgeTurn) (x y : LinkCounts) → Called asks v e rest a w
        → MayBe a (busies v.port) (busies w.port) x y
    called_may v w e rest a x y t = made_may v.parts w.parts v.port w.port v.seat w.seat v.parts.place e rest t.came a x y t.asked t.became

  module _ {L : Type 0} (turns : ClientState → L → ClientTurn → ClientState → L → Type 0) where
    pub turn_called : (v w : Life P S) (l : L) (e : Entry) (rest : List Entry) (a : EdgeTurn) → waiting v.parts ≡ e ∷ rest → Called asks v e rest a w
        → TurnBy asks turns (waiting v.parts) v l a w l
    turn_called v w l e rest a o t = subst (λ (ws : List Entry). TurnBy asks turns ws v l a w l) (sym o) (t, refl)

    pub turn_pulled : (c d : Core) (k j : ClientState) (p : P) (s : S) (l m : L) (a : EdgeTurn) → waiting c ≡ [] → Pulls turns c k l a d j m
        → TurnBy asks turns (waiting c) (life c k p s) l a (life d j p s) m
    turn_pulled c d k j p s l m a o t = subst (λ (ws : List Entry). TurnBy asks turns ws (life c k p s) l a (life d j p s) m) (sym o) (t, refl, refl)

-- where no call was made
pub may_waits : (a : EdgeTurn) (m n : ℕ) (x y : LinkCounts) → MayWait a x y → MayBe a m n x y
may_waits Moved m n x y w = tt
may_waits Idle m n x y w = inr w
may_waits (Ended e) m n x y w = tt

module _ {P Q : Type 0} (fits : P → ℕ → Q → Type 0) (rules : P → PortRules) (root : P → Histories) (seen : Q → List Step)
    (busies : P → ℕ) where
  pub on_here : (p : P) (s : SeatState Q) → GoesOn fits rules root seen busies p s p s
  on_here p s = record {
    knows = go_on_same (known root seen p s) (known root seen p s) (λ q. refl);
    stands = λ x. x;
    roots = go_on_same (root p) (root p) (λ q. refl);
    fixed = refl;
    later = omega arith;
    passes = λ q x f. f;
  }

module _ {P Q : Type 0} (fits : P → ℕ → Q → Type 0) (rules : P → PortRules) (root : P → Histories) (seen : Q → List Step) (count : Q → ℕ) (wants : Entry
    → Type 0) (busies : P → ℕ) (Asks : P → SeatState Q → ℕ → Entry → Made → P → SeatState Q → Type 0)
    (tells : (p : P) (s : SeatState Q) (place : ℕ) (e : Entry) (r : Made) (q : P) (t : SeatState Q)
    → Asks p s place e r q t → Asked fits rules root seen count wants busies p s place e r q t) where
  pub on_called : (v w : Life P (SeatState Q)) (e : Entry) (rest : List Entry) (a : EdgeTurn)
      → Called Asks v e rest a w → GoesOn fits rules root seen busies v.port v.seat w.port w.seat
  on_called v w e rest a t = let x = tells v.port v.seat v.parts.place e t.came w.port w.seat t.asked in record {
    knows = x.knows;
    stands = x.stands;
    roots = x.roots;
    fixed = x.fixed;
    later = x.later;
    passes =
        x.passes;
  }

  -- what a turn with a call leaves
  pub record Left (c : Core) (k : ClientState) (p : P) (s : SeatState Q) (a : EdgeTurn) (d : Core) (j : ClientState) (q : P) (t : SeatState Q) : Type 0 where
    pub sound : LivesOn d j a
    pub did : Did a c k d j
    pub may : (x y : LinkCounts) → MayBe a (busies p) (busies q) x y
    pub lasts : lasting_of d j ≡ lasting_of c k
    pub on : GoesOn fits rules root seen busies p s q t

  pub called_leaves : (c b d : Core) (k j : ClientState) (p q : P) (s t : SeatState Q) (o : Option Entry) (e : Entry) (a : EdgeTurn) → o ≡ Some e
      → listed o ++ waiting b ≡ waiting c
      → b ≡ record c { kept = None; due = b.due } → IsSound c k → Called Asks (life b k p s) e (waiting b) a (life d j q t) → Left c k p s a d j q t
  called_leaves c b d k j p q s t o e a i w same sound f =
      let v : Life P (SeatState Q) = life c k p s in
      let u : Life P (SeatState Q) = life d j q t in
      let h = called_before Asks c b k p s e (waiting b) a u same f in
      record {
        sound = called_lives Asks v u e (waiting b) a (order_some c b o e i w) sound h;
        did = called_did Asks v u e (waiting b) a h;
        may = λ x y. called_may Asks busies (λ p s place e f q t x. (tells p s place e (made.Busy f) q t x).fails) v u e (waiting b) a x y h;
        lasts = called_lasts Asks v u e (waiting b) a h;
        on = on_called v u e (waiting b) a h;
      }

  pub called_turn : {L : Type 0} (turns : ClientState → L → ClientTurn → ClientState → L
      → Type 0) (c b d : Core) (k j : ClientState) (p q : P) (s t : SeatState Q) (l : L) (o : Option Entry) (e : Entry) (a : EdgeTurn) → o ≡ Some e
      → listed o ++ waiting b ≡ waiting c → b ≡ record c { kept = None; due = b.due } → Called Asks (life b k p s) e (waiting b) a (life d j q t)
      → TurnBy Asks turns (waiting c) (life c k p s) l a (life d j q t) l
  called_turn turns c b d k j p q s t l o e a i w same f =
      turn_called Asks turns (life c k p s) (life d j q t) l e (waiting b) a (order_some c b o e i w)
      (called_before Asks c b k p s e (waiting b) a (life d j q t) same f)

-- ---- none waits

pub free_of : (c b : Core) (o : Option Entry) → o ≡ None → listed o ++ waiting b ≡ waiting c → b ≡ record c { kept = None; due = b.due } → b.due ≡ Nothing
    → IsFree c
free_of c b o i w same n =
    nothing_waits c (sym w ∙ ap (λ (x : Option Entry). listed x ++ waiting b) i ∙ free_waits b (record { kept = ap (λ (y : Core). y.kept) same; due = n }))
