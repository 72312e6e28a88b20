-- What a turn leaves of a player that lives, and of one that it ends
use Rattle.std.proofs.Common.{◌≡◌, inl, inr, ℕ, ◌<◌, Bool, true, false, List, [], ◌∷◌, ◌++◌, length, take, refl, sym, ap, ◌∙◌, subst, arith}
use Rattle.std.proofs.Common.{append_assoc, append-nil, Option, Some, None, Result, Ok, Err}
use Rattle.std.specs.Option.{option_map}
use Rattle.std.proofs.lemmas.List.Elements.{All-nil, All-push}
use Rattle.relay_outside.specs.Heard.{Came, CameBytes, CameCounts, CameEnd, CameNotYet, CameFailed, CameTold, HearStep}
use Rattle.relay_outside.specs.Said.{SayStep}
use Rattle.relay_outside.specs.Told.{LinkTold, LinkCounts, with_given, with_taken}
use Rattle.relay_outside.specs.declared.link.Said.{Said}
use Rattle.relay_outside.specs.declared.link.Said.TheVariants as said
use Rattle.command_dialog.specs.declared.types.Ask.{Ask}
use Rattle.command_dialog.specs.declared.types.Grant.{Grant}
use Rattle.session_owed.specs.Talk.{Own}
use Rattle.stream_model.specs.declared.calls.Entry.{Entry}
use Rattle.stream_model.specs.declared.replies.Reply.{Reply}
use Rattle.stream_model.specs.declared.replies.Reply.TheVariants as reply
use Rattle.stream_registry.specs.Names.{PortRules}
use Rattle.stream_registry.specs.Splits.{Kin}
use Rattle.stream_registry.specs.Told.{Step, Histories}
use Rattle.turn_gate.specs.declared.view.Branch.{Branch}
use Rattle.relay_session.specs.Places.{AskedAlone}
use Rattle.relay_session.specs.SeatState.{SeatState}
use Rattle.relay_session.specs.Turns.{is_nil}
use Rattle.relay_session.specs.declared.seat_answers.Made.{Made}
use Rattle.relay_session.specs.declared.seat_answers.Made.TheVariants as made
use Rattle.relay_worker.specs.Books.{Owns}
use Rattle.relay_worker.proofs.Booking.{Holds, on_alone}
use Rattle.relay_worker.proofs.Turning.{owns_made, owns_same, rose_some, some_nil, take_less}
use Rattle.http_request.specs.Heads.{IsRead}
use Rattle.http_flv.specs.Keeping.{after_join, join_entry, take_entry}
use Rattle.http_flv.specs.Out.{Decision, JoinAt, Later, Tell, decide}
use Rattle.http_flv.specs.PlayerState.{ended_by}
use Rattle.http_flv.specs.Turns.{AfterJoin, AfterKept, CameAs, DroppedBy, EndedBy, Gone, HeardBy, Input, IsDone, IsEnded, IsTried, JoinMade, JoinedBy}
use Rattle.http_flv.specs.Turns.{KeptOn, Life, PlaceBy, ReadBy, SendBy, Sent, SentAs, TakeMade, Taken, TakenBy, ToldBy, answer, gone_of, life, noted}
use Rattle.http_flv.specs.Turns.{takes, takes_at, told, unheard}
use Rattle.http_flv.specs.declared.core_fields.Core.{Core}
use Rattle.http_flv.specs.declared.end.HttpEnd.{HttpEnd}
use Rattle.http_flv.specs.declared.end.HttpEnd.TheVariants as end
use Rattle.http_flv.specs.declared.stage.Stage.{Stage}
use Rattle.http_flv.specs.declared.stage.Stage.TheVariants as stage
use Rattle.http_flv.specs.declared.turn.HttpTurn.{HttpTurn}
use Rattle.http_flv.specs.declared.turn.HttpTurn.TheVariants as turn
use Rattle.http_worker.specs.Books.{AreAsked, AreTakes, Asks, AsksAt, CameBy, HasJoin, IsCause, IsPlaying, IsWaiting, Ties}

-- ---- the calls of a player

asked_at : (desk : Ask → Grant) (s : Stage) (who : ℕ) (x later : List ℕ) (calls : List Own) (kept : Option Entry) → AsksAt desk s who x later calls kept
    → AreAsked desk who x calls kept
asked_at desk stage.Reading who x later calls kept a = inl (a.no_call, a.no_wait)
asked_at desk (stage.Joining place) who x later calls kept a = inr (a.0, (a.1.0, inl a.1.1))
asked_at desk (stage.Telling r) who x later calls kept a = a
asked_at desk (stage.Playing place player) who x later calls kept a =
    inr (
      a.name,
      (
        a.join,
        inr (record {
          answer = reply.Joined player a.from;
          takes = a.takes;
          calls_are = a.calls_are;
          takes_are = a.takes_are;
          none = a.none;
        }),
      ),
    )

-- a Take more
asks_more : (desk : Ask → Grant) (s : Stage) (place player who : ℕ) (x later : List ℕ) (calls : List Own) (kept : Option Entry) (r : Reply)
    → s ≡ stage.Playing place player → AsksAt desk s who x later calls kept
    → AsksAt desk s who x later (calls ++ (take_entry who (length x) player, r) ∷ []) kept
asks_more desk s place player who x later calls kept r is a =
    let p : IsPlaying desk player who x calls kept = subst (λ (q : Stage). AsksAt desk q who x later calls kept) is a in
    subst (λ (q : Stage). AsksAt desk q who x later (calls ++ (take_entry who (length x) player, r) ∷ []) kept) (sym is)
    (record {
      name = p.name;
      join = p.join;
      from = p.from;
      takes = p.takes ++ (take_entry who (length x) player, r) ∷ [];
      calls_are = ap (λ (l : List Own). l ++ (take_entry who (length x) player, r) ∷ []) p.calls_are;
      takes_are = All-push (λ (t : Own). t.0 ≡ take_entry who (length x) player) p.takes (take_entry who (length x) player, r) p.takes_are refl;
      none = p.none;
    })

playing_none : (desk : Ask → Grant) (s : Stage) (place player who : ℕ) (x later : List ℕ) (calls : List Own) (kept : Option Entry)
    → s ≡ stage.Playing place player → AsksAt desk s who x later calls kept → kept ≡ None
playing_none desk s place player who x later calls kept is a =
    let p : IsPlaying desk player who x calls kept = subst (λ (q : Stage). AsksAt desk q who x later calls kept) is a in p.none

-- it plays where it takes
plays_at : (s : Stage) (b : Bool) (p : ℕ × ℕ) → takes_at s b ≡ Some p → s ≡ stage.Playing p.0 p.1
plays_at (stage.Playing place player) true p e = let f : Some (place, player) ≡ Some p = e in let g : (place, player) ≡ p = cc in
    ap (λ (q : ℕ × ℕ). stage.Playing q.0 q.1) g
plays_at (stage.Playing place player) false p e = absurd (let f : None ≡ Some p = e in cc)
plays_at stage.Reading b p e = absurd (let f : None ≡ Some p = e in cc)
plays_at (stage.Joining place) b p e = absurd (let f : None ≡ Some p = e in cc)
plays_at (stage.Telling r) b p e = absurd (let f : None ≡ Some p = e in cc)

-- its Join waits
waits_at : (desk : Ask → Grant) (s : Stage) (place who : ℕ) (x later : List ℕ) (calls : List Own) (kept : Option Entry) → PlaceBy s place
    → AsksAt desk s who x later calls kept → (name : List ℕ) × (HasJoin desk x name × IsWaiting who (length x) name calls kept)
waits_at desk stage.Reading place who x later calls kept p a = absurd p
waits_at desk (stage.Joining q) place who x later calls kept p a = a
waits_at desk (stage.Telling r) place who x later calls kept p a = absurd p
waits_at desk (stage.Playing q player) place who x later calls kept p a = absurd p

no_takes : (who at : ℕ) (r : Reply) → AreTakes who at r []
no_takes who at (reply.Joined player from) = All-nil (λ (t : Own). t.0 ≡ take_entry who at player)
no_takes who at (reply.Sent from n item) = refl
no_takes who at (reply.Began n) = refl
no_takes who at (reply.InUse by) = refl
no_takes who at (reply.Pushed n) = refl
no_takes who at (reply.NotPublisher live) = refl
no_takes who at (reply.Ended n) = refl
no_takes who at reply.Full = refl
no_takes who at (reply.NoSlot slots) = refl
no_takes who at reply.NotPlayer = refl
no_takes who at (reply.Skip from to) = refl
no_takes who at (reply.NotYet end) = refl
no_takes who at (reply.Left player) = refl
no_takes who at (reply.Counts began pushed ended joined skips) = refl

-- its Join was made
joined_now : (desk : Ask → Grant) (who : ℕ) (x name : List ℕ) (calls : List Own) (r : Reply) → HasJoin desk x name
    → calls ≡ (join_entry who (length x) name, r) ∷ [] → AreAsked desk who x calls None
joined_now desk who x name calls r j are = inr (
  name,
  (
    j,
    inr (record {
      answer = r;
      takes = [];
      calls_are = are;
      takes_are = no_takes who (length x) r;
      none = refl;
    }),
  ),
)

asks_joined : (desk : Ask → Grant) (place who : ℕ) (x later name : List ℕ) (calls : List Own) (r : Reply) → HasJoin desk x name
    → calls ≡ (join_entry who (length x) name, r) ∷ [] → AsksAt desk (after_join place r) who x later calls None
asks_joined desk place who x later name calls (reply.Joined player from) j are =
    record {
      name = name;
      join = j;
      from = from;
      takes = [];
      calls_are = are;
      takes_are = All-nil (λ (t : Own). t.0 ≡ take_entry who (length x) player);
      none = refl;
    }
asks_joined desk place who x later name calls (reply.Sent from n item) j are = joined_now desk who x name calls (reply.Sent from n item) j are
asks_joined desk place who x later name calls (reply.Began n) j are = joined_now desk who x name calls (reply.Began n) j are
asks_joined desk place who x later name calls (reply.InUse by) j are = joined_now desk who x name calls (reply.InUse by) j are
asks_joined desk place who x later name calls (reply.Pushed n) j are = joined_now desk who x name calls (reply.Pushed n) j are
asks_joined desk place who x later name calls (reply.NotPublisher live) j are = joined_now desk who x name calls (reply.NotPublisher live) j are
asks_joined desk place who x later name calls (reply.Ended n) j are = joined_now desk who x name calls (reply.Ended n) j are
asks_joined desk place who x later name calls reply.Full j are = joined_now desk who x name calls reply.Full j are
asks_joined desk place who x later name calls (reply.NoSlot slots) j are = joined_now desk who x name calls (reply.NoSlot slots) j are
asks_joined desk place who x later name calls reply.NotPlayer j are = joined_now desk who x name calls reply.NotPlayer j are
asks_joined desk place who x later name calls (reply.Skip from to) j are = joined_now desk who x name calls (reply.Skip from to) j are
asks_joined desk place who x later name calls (reply.NotYet end) j are = joined_now desk who x name calls (reply.NotYet end) j are
asks_joined desk place who x later name calls (reply.Left player) j are = joined_now desk who x name calls (reply.Left player) j are
asks_joined desk place who x later name calls (reply.Counts began pushed ended joined skips) j are = joined_now desk who x name calls
    (reply.Counts began pushed ended joined skips) j are

one_call : (calls : List Own) (e f : Entry) (r : Reply) → calls ≡ [] → e ≡ f → calls ++ (e, r) ∷ [] ≡ (f, r) ∷ []
one_call calls e f r none is = ap (λ (l : List Own). l ++ (e, r) ∷ []) none ∙ ap (λ (g : Entry). (g, r) ∷ []) is

-- what a head asks for
asks_heard : (desk : Ask → Grant) (d : Decision) (v c : Core) (b : List ℕ) (join : (place : ℕ) (name : List ℕ) → d ≡ JoinAt place name
    → HasJoin desk (v.x ++ b) name) → v.stage ≡ stage.Reading → v.later ≡ [] → v.calls ≡ [] → v.kept ≡ None → c.x ≡ v.x ++ b → IsDone d v c
    → AsksAt desk c.stage v.who (v.x ++ b) v.later v.calls c.kept
asks_heard desk Later v c b join reads later calls kept x t =
    subst (λ (s : Stage). AsksAt desk s v.who (v.x ++ b) v.later v.calls c.kept) (sym (t.0 ∙ reads)) (record {
      none = later;
      no_call = calls;
      no_wait = t.1 ∙ kept;
    })
asks_heard desk (Tell r) v c b join reads later calls kept x t =
    subst (λ (s : Stage). AsksAt desk s v.who (v.x ++ b) v.later v.calls c.kept) (sym t.0) (inl (calls, t.1 ∙ kept))
asks_heard desk (JoinAt place name) v c b join reads later calls kept x t =
    subst (λ (s : Stage). AsksAt desk s v.who (v.x ++ b) v.later v.calls c.kept) (sym t.0)
    (name, (join place name refl, (calls, t.1 ∙ ap (λ (y : List ℕ). Some (join_entry v.who (length y) name)) x)))

some_is : (e f : Entry) → Some e ≡ Some f → e ≡ f
some_is e f is = cc

owns_heard : (d : Decision) (v c : Core) (visits : List _) → IsDone d v c → Owns v.who visits v.kept → Owns v.who visits c.kept
owns_heard Later v c visits t o = record { made = o.made; waits = λ e is. o.waits e (sym t.1 ∙ is) }
owns_heard (Tell r) v c visits t o = record { made = o.made; waits = λ e is. o.waits e (sym t.1 ∙ is) }
owns_heard (JoinAt place name) v c visits t o = record {
  made = o.made;
  waits = λ e is. ap (λ (f : Entry). f.who)
      (some_is e (join_entry v.who (length c.x) name) (sym is ∙ t.1));
}

-- ---- bytes

came_all : (e : HttpEnd) (y : List ℕ) → CameBy e y y
came_all end.PeerClosed y = refl
came_all end.LinkFault y = refl
came_all (end.Answered code) y = refl
came_all end.Worn y = refl
came_all end.OutOfMemory y = ([], append-nil y)
came_all end.Closed y = refl

-- no byte was dropped before these came
came_more : (x later b : List ℕ) → later ≡ [] → (x ++ later) ++ b ≡ (x ++ b) ++ later
came_more x later b none =
    ap (λ (l : List ℕ). (x ++ l) ++ b) none ∙ (ap (λ (l : List ℕ). l ++ b) (append-nil x) ∙ (sym (append-nil (x ++ b)) ∙ ap (λ (l : List ℕ). (x ++ b) ++ l)
    (sym none)))

-- what a recv and a send leave of it
ties_given : (t t' : Option LinkTold) (came sent b : List ℕ) → t' ≡ option_map (with_given b) t → Ties t came sent → Ties t' (came ++ b) sent
ties_given None t' came sent b is k u e = absurd (let f : None ≡ Some u = sym is ∙ e in cc)
ties_given (Some t) t' came sent b is k u e =
    let same : with_given b t ≡ u = let f : Some (with_given b t) ≡ Some u = sym is ∙ e in cc in
    let p = k t refl in
    (sym (ap (λ (v : LinkTold). v.gave) same) ∙ ap (λ (g : List ℕ). g ++ b) p.0, sym (ap (λ (v : LinkTold). v.took) same) ∙ p.1)

ties_taken : (t t' : Option LinkTold) (came sent b : List ℕ) → t' ≡ option_map (with_taken b) t → Ties t came sent → Ties t' came (sent ++ b)
ties_taken None t' came sent b is k u e = absurd (let f : None ≡ Some u = sym is ∙ e in cc)
ties_taken (Some t) t' came sent b is k u e =
    let same : with_taken b t ≡ u = let f : Some (with_taken b t) ≡ Some u = sym is ∙ e in cc in
    let p = k t refl in
    (sym (ap (λ (v : LinkTold). v.gave) same) ∙ p.0, sym (ap (λ (v : LinkTold). v.took) same) ∙ ap (λ (y : List ℕ). y ++ b) p.1)

ties_told : (t t' : Option LinkTold) (came sent : List ℕ) → t' ≡ t → Ties t came sent → Ties t' came sent
ties_told t t' came sent is k u e = k u (sym is ∙ e)

module _ {P Q L : Type 0} (rules : P → PortRules) (root : P → Histories) (seen : Q → List Step) (told_by : L → Option LinkTold) (counts : L → LinkCounts)
    (desk : Ask → Grant) where
  -- WHAT A STEP LEAVES of one that lives
  pub record Alive (l : L) (c : Core) (x : P) (s : SeatState Q) : Type 0 where
    pub asks : Asks desk c
    pub ties : Ties (told_by l) (c.x ++ c.later) c.sent
    pub holds : Holds rules root seen x s
    pub owns : Owns c.who s.visits c.kept

  -- and of one that has ended
  pub record Over (e : HttpEnd) (l : L) (c : Core) (x : P) (s : SeatState Q) : Type 0 where
    pub gave : List ℕ
    pub came : CameBy e (c.x ++ c.later) gave
    pub ties : Ties (told_by l) gave c.sent
    pub cause : IsCause (counts l) e
    pub asked : AreAsked desk c.who c.x c.calls c.kept
    pub holds : Holds rules root seen x s
    pub owns : Owns c.who s.visits c.kept

  abbrev pub LeftBy : Option HttpEnd → L → Core → P → SeatState Q → Type 0
  LeftBy None l c x s = Alive l c x s
  LeftBy (Some e) l c x s = Over e l c x s

  abbrev Lives : L → Life P (SeatState Q) → Type 0
  Lives l v = Alive l v.parts v.port v.seat

  abbrev Left : HttpTurn → L → Life P (SeatState Q) → Type 0
  Left a l w = LeftBy (ended_by a) l w.parts w.port w.seat

  -- a Join that was tried
  abbrev Tried : Result Bool HttpEnd → L → Life P (SeatState Q) → Type 0
  Tried (Ok made) l w = Lives l w
  Tried (Err e) l w = Over e l w.parts w.port w.seat

  -- all that counts is the same
  alive_still : (l : L) (c d : Core) (x : P) (s : SeatState Q) → d.stage ≡ c.stage → gone_of d ≡ gone_of c → Alive l c x s → Alive l d x s
  alive_still l c d x s at is k = record {
    asks = subst (λ (q : Stage). AsksAt desk q d.who d.x d.later d.calls d.kept) (sym at)
        (subst (λ (g : Gone). AsksAt desk c.stage g.who g.x g.later g.calls g.kept) (sym is) k.asks);
    ties = subst (λ (g : Gone). Ties (told_by l) (g.x ++ g.later) g.sent) (sym is) k.ties;
    holds = k.holds;
    owns = subst (λ (g : Gone). Owns g.who s.visits g.kept) (sym is) k.owns;
  }

  over_still : (e : HttpEnd) (l : L) (c d : Core) (x y : P) (s t : SeatState Q) → gone_of d ≡ gone_of c → y ≡ x → t ≡ s → Over e l c x s → Over e l d y t
  over_still e l c d x y s t is port seat k = record {
    gave = k.gave;
    came = subst (λ (g : Gone). CameBy e (g.x ++ g.later) k.gave) (sym is) k.came;
    ties = subst (λ (g : Gone). Ties (told_by l) k.gave g.sent) (sym is) k.ties;
    cause = k.cause;
    asked = subst (λ (g : Gone). AreAsked desk g.who g.x g.calls g.kept) (sym is) k.asked;
    holds = subst (λ (p : P). Holds rules root seen p t) (sym port) (subst (Holds rules root seen x) (sym seat) k.holds);
    owns = subst (λ (q : SeatState Q). Owns d.who q.visits d.kept) (sym seat) (subst (λ (g : Gone). Owns g.who s.visits g.kept) (sym is) k.owns);
  }

  over_of : (e : HttpEnd) (l : L) (c : Core) (x : P) (s : SeatState Q) → IsCause (counts l) e → Alive l c x s → Over e l c x s
  over_of e l c x s cause k = record {
    gave = c.x ++ c.later;
    came = came_all e (c.x ++ c.later);
    ties = k.ties;
    cause = cause;
    asked = asked_at desk c.stage c.who c.x c.later c.calls c.kept k.asks;
    holds = k.holds;
    owns = k.owns;
  }

  alive_at : (l n : L) (c : Core) (x : P) (s : SeatState Q) → told_by n ≡ told_by l → Alive l c x s → Alive n c x s
  alive_at l n c x s is k = record { asks = k.asks; ties = ties_told (told_by l) (told_by n) (c.x ++ c.later) c.sent is k.ties; holds = k.holds; owns = k.owns }

  -- ---- how a turn is answered

  ends_so : (e : HttpEnd) (l : L) (a : HttpTurn) (w : Life P (SeatState Q)) → a ≡ turn.Ended e → Over e l w.parts w.port w.seat → Left a l w
  ends_so e l a w is k = subst (λ (b : HttpTurn). Left b l w) (sym is) k

  ended : (e : HttpEnd) (l : L) (v : Life P (SeatState Q)) (a : HttpTurn) (w : Life P (SeatState Q)) → IsEnded e v a w → Over e l v.parts v.port v.seat
      → Left a l w
  ended e l v a w i k = ends_so e l a w i.ended (over_still e l v.parts w.parts v.port w.port v.seat w.seat i.gone i.port i.seat k)

  lives_answer : (moved : Bool) (l : L) (w : Life P (SeatState Q)) → Lives l w → Left (answer moved) l w
  lives_answer true l w k = k
  lives_answer false l w k = k

  lives_so : (moved : Bool) (l : L) (a : HttpTurn) (w : Life P (SeatState Q)) → a ≡ answer moved → Lives l w → Left a l w
  lives_so moved l a w is k = subst (λ (b : HttpTurn). Left b l w) (sym is) (lives_answer moved l w k)

  left_to : (l : L) (a : HttpTurn) (w : Life P (SeatState Q)) (m : L) → m ≡ l → Left a l w → Left a m w
  left_to l a w m is k = subst (λ (n : L). Left a n w) (sym is) k

  module _ (fits : P → ℕ → Q → Type 0) (count : Q → ℕ) (wants : Entry → Type 0) (busies : P → ℕ)
      (adds : List Step → List Step → List Step → Type 0) (kin : P → Kin) (branches : Q → List Branch) where
    abbrev Asking : P → SeatState Q → ℕ → Entry → Made → P → SeatState Q → Type 0
    Asking = AskedAlone fits rules root seen count wants busies adds kin branches

    -- the seat after a call
    held_on : (v w : Life P (SeatState Q)) (place : ℕ) (e : Entry) (r : Made) → Asking v.port v.seat place e r w.port w.seat
        → Holds rules root seen v.port v.seat → Holds rules root seen w.port w.seat
    held_on v w place e r k = on_alone rules root seen fits count wants busies adds kin branches v.port v.seat place e r w.port w.seat k

    -- the same player where no call was made
    unmade : (v w : Life P (SeatState Q)) (place : ℕ) (e : Entry) (r : Made) (l : L) → Asking v.port v.seat place e r w.port w.seat
        → w.seat.visits ≡ v.seat.visits → w.parts ≡ v.parts → Lives l v → Lives l w
    unmade v w place e r l k visits is a =
        subst (λ (c : Core). Alive l c w.port w.seat) (sym is)
        (record {
          asks = a.asks;
          ties = a.ties;
          holds = held_on v w place e r k a.holds;
          owns = owns_same v.parts.who v.parts.who v.seat.visits w.seat.visits v.parts.kept v.parts.kept refl visits refl a.owns;
        })

    -- ---- step 6

    -- a Take was made
    took : (v w : Life P (SeatState Q)) (place at player : ℕ) (r : Reply) (l : L) → v.parts.stage ≡ stage.Playing at player
        → Asking v.port v.seat place (take_entry v.parts.who (length v.parts.x) player) (made.Answer r) w.port w.seat → Lives l v
        → Alive l (noted v.parts (take_entry v.parts.who (length v.parts.x) player) r) w.port w.seat
    took v w place at player r l is k a = record {
      asks = asks_more desk v.parts.stage at player v.parts.who v.parts.x v.parts.later v.parts.calls v.parts.kept r is a.asks;
      ties = a.ties;
      holds = held_on v w place (take_entry v.parts.who (length v.parts.x) player) (made.Answer r) k a.holds;
      owns = owns_made v.parts.who v.parts.who v.seat.visits w.seat.visits v.parts.kept v.parts.kept place
          (take_entry v.parts.who (length v.parts.x) player) r refl k.asked.makes
          (playing_none desk v.parts.stage at player v.parts.who v.parts.x v.parts.later v.parts.calls v.parts.kept is a.asks) refl a.owns;
    }

    take_made : (v w : Life P (SeatState Q)) (place at player : ℕ) (moved : Bool) (came : Made) (a : HttpTurn) (l : L) → v.parts.stage ≡ stage.Playing at player
        → Asking v.port v.seat place (take_entry v.parts.who (length v.parts.x) player) came w.port w.seat
        → TakeMade Asking v (take_entry v.parts.who (length v.parts.x) player) moved came w a → Lives l v → Left a l w
    take_made v w place at player moved (made.Answer r) a l is k (inl t) alive =
        lives_so _ l a w t.1 (alive_still l (noted v.parts (take_entry v.parts.who (length v.parts.x) player) r) w.parts w.port w.seat
        (ap (λ (c : Core). c.stage) t.0.rest) (ap gone_of t.0.rest) (took v w place at player r l is k alive))
    take_made v w place at player moved (made.Answer r) a l is k (inr t) alive =
        ends_so end.OutOfMemory l a w t.1
        (over_still end.OutOfMemory l (noted v.parts (take_entry v.parts.who (length v.parts.x) player) r) w.parts w.port w.port w.seat w.seat t.0 refl refl
        (over_of end.OutOfMemory l (noted v.parts (take_entry v.parts.who (length v.parts.x) player) r) w.port w.seat tt
        (took v w place at player r l is k alive)))
    take_made v w place at player moved (made.Busy f) a l is k t alive = lives_so moved l a w t.1 (unmade v w place _ (made.Busy f) l k k.asked.makes.1 t.0 alive)
    take_made v w place at player moved (made.Worn f) a l is k t alive = ends_so end.Worn l a w t.1 (over_of end.Worn l w.parts w.port w.seat tt
        (unmade v w place _ (made.Worn f) l k k.asked.makes.1 t.0 alive))
    take_made v w place at player moved (made.OutOfMemory f) a l is k t alive =
        ends_so end.OutOfMemory l a w t.1 (over_of end.OutOfMemory l w.parts w.port w.seat tt (unmade v w place _ (made.OutOfMemory f) l k k.asked.makes.1 t.0 alive))

    taken_by : (o : Option (ℕ × ℕ)) (v : Life P (SeatState Q)) (moved : Bool) (a : HttpTurn) (w : Life P (SeatState Q)) (l : L) → takes v.parts ≡ o
        → TakenBy Asking o v moved a w → Lives l v → Left a l w
    taken_by None v moved a w l is t k = lives_so moved l a w t.0 (subst (λ (u : Life P (SeatState Q)). Lives l u) (sym t.1) k)
    taken_by (Some p) v moved a w l is t k = take_made v w p.0 p.0 p.1 moved t.came a l (plays_at v.parts.stage (is_nil v.parts.out.left) p is) t.asked
        t.taken k

    taken : (v : Life P (SeatState Q)) (moved : Bool) (a : HttpTurn) (w : Life P (SeatState Q)) (l : L) → Taken Asking v moved a w → Lives l v → Left a l w
    taken v moved a w l t k = taken_by (takes v.parts) v moved a w l refl t k

    -- ---- its Join

    -- the Join that waited was made, and is heard or isn't
    join_heard : (v w : Life P (SeatState Q)) (place : ℕ) (e : Entry) (r : Reply) (l : L) → v.parts.kept ≡ Some e → PlaceBy v.parts.stage place
        → Asking v.port v.seat place e (made.Answer r) w.port w.seat → Lives l v
        → Alive l (record (unheard v.parts e r) { stage = after_join place r }) w.port w.seat × Over end.OutOfMemory l (unheard v.parts e r) w.port w.seat
    join_heard v w place e r l kept at k a =
        let waits = waits_at desk v.parts.stage place v.parts.who v.parts.x v.parts.later v.parts.calls v.parts.kept at a.asks in
        let entry = join_entry v.parts.who (length v.parts.x) waits.0 in
        let is : e ≡ entry = some_is e entry (sym kept ∙ waits.1.1.1) in
        let one = one_call v.parts.calls e entry r waits.1.1.0 is in
        let holds = held_on v w place e (made.Answer r) k a.holds in
        let owns = owns_made v.parts.who v.parts.who v.seat.visits w.seat.visits v.parts.kept None place e r refl k.asked.makes refl (a.owns.waits e kept) a.owns in (
          record {
            asks = asks_joined desk place v.parts.who v.parts.x v.parts.later waits.0 (v.parts.calls ++ (e, r) ∷ []) r waits.1.0 one;
            ties = a.ties;
            holds = holds;
            owns = owns;
          },
          record {
            gave = v.parts.x ++ v.parts.later;
            came = came_all end.OutOfMemory (v.parts.x ++ v.parts.later);
            ties = a.ties;
            cause = tt;
            asked = joined_now desk v.parts.who v.parts.x waits.0 (v.parts.calls ++ (e, r) ∷ []) r waits.1.0 one;
            holds = holds;
            owns = owns;
          },
        )

    join_made : (v w : Life P (SeatState Q)) (place : ℕ) (e : Entry) (came : Made) (result : Result Bool HttpEnd) (l : L) → v.parts.kept ≡ Some e
        → PlaceBy v.parts.stage place → Asking v.port v.seat place e came w.port w.seat
        → JoinMade Asking v place e came result w → Lives l v → Tried result l w
    join_made v w place e (made.Answer r) result l kept at k (inl t) a =
        subst (λ (q : Result Bool HttpEnd). Tried q l w) (sym t.0)
        (alive_still l (record (unheard v.parts e r) { stage = after_join place r }) w.parts w.port w.seat (ap (λ (c : Core). c.stage) t.1.rest)
        (ap gone_of t.1.rest) (join_heard v w place e r l kept at k a).0)
    join_made v w place e (made.Answer r) result l kept at k (inr t) a =
        subst (λ (q : Result Bool HttpEnd). Tried q l w) (sym t.0)
        (over_still end.OutOfMemory l (unheard v.parts e r) w.parts w.port w.port w.seat w.seat t.1 refl refl (join_heard v w place e r l kept at k a).1)
    join_made v w place e (made.Busy f) result l kept at k t a = subst (λ (q : Result Bool HttpEnd). Tried q l w) (sym t.0)
        (unmade v w place e (made.Busy f) l k k.asked.makes.1 t.1 a)
    join_made v w place e (made.Worn f) result l kept at k t a =
        subst (λ (q : Result Bool HttpEnd). Tried q l w) (sym t.0) (over_of end.Worn l w.parts w.port w.seat tt
        (unmade v w place e (made.Worn f) l k k.asked.makes.1 t.1 a))
    join_made v w place e (made.OutOfMemory f) result l kept at k t a =
        subst (λ (q : Result Bool HttpEnd). Tried q l w) (sym t.0) (over_of end.OutOfMemory l w.parts w.port w.seat tt
        (unmade v w place e (made.OutOfMemory f) l k k.asked.makes.1 t.1 a))

    tried : (v w : Life P (SeatState Q)) (e : Entry) (result : Result Bool HttpEnd) (l : L) → v.parts.kept ≡ Some e → IsTried Asking v e result w
        → Lives l v → Tried result l w
    tried v w e result l kept t k = join_made v w t.place e t.came result l kept t.asked.there t.asked.asked t.became k

    after_join_on : (r : Result Bool HttpEnd) (m : Life P (SeatState Q)) (a : HttpTurn) (w : Life P (SeatState Q)) (l : L) → AfterJoin Asking r m a w
        → Tried r l m → Left a l w
    after_join_on (Ok made) m a w l t k = taken m true a w l t k
    after_join_on (Err e) m a w l t k = ended e l m a w t k

    joined : (o : Option Entry) (v : Life P (SeatState Q)) (a : HttpTurn) (w : Life P (SeatState Q)) (l : L) → v.parts.kept ≡ o → JoinedBy Asking o v a w
        → Lives l v → Left a l w
    joined None v a w l is t k = taken v true a w l t k
    joined (Some e) v a w l is t k = after_join_on t.0 t.1.0 a w l t.1.1.1 (tried v t.1.0 e t.0 l is t.1.1.0 k)

    -- ---- step 5

    heard : (b : List ℕ) (v : Life P (SeatState Q)) (a : HttpTurn) (w : Life P (SeatState Q)) (l m : L) → v.parts.stage ≡ stage.Reading
        → Ties (told_by m) ((v.parts.x ++ v.parts.later) ++ b) v.parts.sent → HeardBy Asking desk b v a w → Lives l v → Left a m w
    heard b v a w l m reads ties (inl t) k =
        let c : Core = t.0 in
        let i = t.1.0 in
        let r = subst (λ (s : Stage). AsksAt desk s v.parts.who v.parts.x v.parts.later v.parts.calls v.parts.kept) reads k.asks in
        let x_is : c.x ≡ v.parts.x ++ b = ap (λ (d : Core). d.x) i.rest in
        let now : Alive m (record v.parts { x = v.parts.x ++ b; stage = c.stage; kept = c.kept }) v.port v.seat = record {
          asks = asks_heard desk (decide desk i.verdict) v.parts c b (λ place name is. record {
            verdict = i.verdict;
            read = subst (λ (y : List ℕ). IsRead y i.verdict) x_is i.read;
            place = place;
            decided = is;
          }) reads r.none r.no_call r.no_wait x_is i.done;
          ties = subst (λ (y : List ℕ). Ties (told_by m) y v.parts.sent) (came_more v.parts.x v.parts.later b r.none) ties;
          holds = k.holds;
          owns = owns_heard (decide desk i.verdict) v.parts c v.seat.visits i.done k.owns;
        } in
        joined c.kept (life c v.port v.seat) a w m refl t.1.1 (alive_still m (record v.parts { x = v.parts.x ++ b; stage = c.stage; kept = c.kept }) c
        v.port v.seat refl (ap gone_of i.rest) now)
    heard b v a w l m reads ties (inr t) k =
        let c : Core = t.0 in
        let r = subst (λ (s : Stage). AsksAt desk s v.parts.who v.parts.x v.parts.later v.parts.calls v.parts.kept) reads k.asks in
        ended end.OutOfMemory m (life c v.port v.seat) a w t.1.1 (elim t.1.0 [
          | inl gone ↦ over_still end.OutOfMemory m v.parts c v.port v.port v.seat v.seat gone refl refl (record {
            gave = (v.parts.x ++ v.parts.later) ++ b;
            came = (b, refl);
            ties = ties;
            cause = tt;
            asked = inl (r.no_call, r.no_wait);
            holds = k.holds;
            owns = k.owns;
          })
          | inr u ↦ over_still end.OutOfMemory m (record v.parts { x = v.parts.x ++ b }) c v.port v.port v.seat v.seat u.1.1 refl refl (record {
            gave = (v.parts.x ++ b) ++ v.parts.later;
            came = came_all end.OutOfMemory ((v.parts.x ++ b) ++ v.parts.later);
            ties = subst (λ (y : List ℕ). Ties (told_by m) y v.parts.sent) (came_more v.parts.x v.parts.later b r.none) ties;
            cause = tt;
            asked = inl (r.no_call, r.no_wait);
            holds = k.holds;
            owns = k.owns;
          })
        ])

    dropped : (b : List ℕ) (v : Life P (SeatState Q)) (a : HttpTurn) (w : Life P (SeatState Q)) (l m : L) → AsksAt desk v.parts.stage v.parts.who v.parts.x
        (v.parts.later ++ b) v.parts.calls v.parts.kept
        → Ties (told_by m) ((v.parts.x ++ v.parts.later) ++ b) v.parts.sent → DroppedBy Asking desk b v a w → Lives l v → Left a m w
    dropped b v a w l m asks ties t k =
        taken (life t.0 v.port v.seat) true a w m t.1.1
        (subst (λ (c : Core). Alive m c v.port v.seat) (sym t.1.0)
        (record {
          asks = asks;
          ties = subst (λ (y : List ℕ). Ties (told_by m) y v.parts.sent) (append_assoc v.parts.x v.parts.later b) ties;
          holds = k.holds;
          owns = k.owns;
        }))

    read_by : (s : Stage) (b : List ℕ) (v : Life P (SeatState Q)) (a : HttpTurn) (w : Life P (SeatState Q)) (l m : L) → v.parts.stage ≡ s
        → Ties (told_by m) ((v.parts.x ++ v.parts.later) ++ b) v.parts.sent → ReadBy Asking desk s b v a w → Lives l v → Left a m w
    read_by stage.Reading b v a w l m is ties t k = heard b v a w l m is ties t k
    read_by (stage.Joining place) b v a w l m is ties t k =
        let q = subst (λ (s : Stage). AsksAt desk s v.parts.who v.parts.x v.parts.later v.parts.calls v.parts.kept) is k.asks in
        dropped b v a w l m (subst (λ (s : Stage). AsksAt desk s v.parts.who v.parts.x (v.parts.later ++ b) v.parts.calls v.parts.kept) (sym is) q) ties t k
    read_by (stage.Telling r) b v a w l m is ties t k =
        let q = subst (λ (s : Stage). AsksAt desk s v.parts.who v.parts.x v.parts.later v.parts.calls v.parts.kept) is k.asks in
        dropped b v a w l m (subst (λ (s : Stage). AsksAt desk s v.parts.who v.parts.x (v.parts.later ++ b) v.parts.calls v.parts.kept) (sym is) q) ties t k
    read_by (stage.Playing place player) b v a w l m is ties t k =
        let q = subst (λ (s : Stage). AsksAt desk s v.parts.who v.parts.x v.parts.later v.parts.calls v.parts.kept) is k.asks in
        dropped b v a w l m (subst (λ (s : Stage). AsksAt desk s v.parts.who v.parts.x (v.parts.later ++ b) v.parts.calls v.parts.kept) (sym is) q) ties t k

    came_as : (came : Came) (v : Life P (SeatState Q)) (moved : Bool) (a : HttpTurn) (w : Life P (SeatState Q)) (l m : L)
        → CameTold (told_by l) (told_by m) came → CameCounts (counts l) (counts m) came → CameAs Asking desk came v moved a w → Lives l v → Left a m w
    came_as (CameBytes b) v moved a w l m c r t k = read_by v.parts.stage b v a w l m refl (ties_given (told_by l) (told_by m) (v.parts.x ++ v.parts.later)
        v.parts.sent b c.1 k.ties) t k
    came_as CameNotYet v moved a w l m c r t k = taken v moved a w m t (alive_at l m v.parts v.port v.seat c k)
    came_as CameEnd v moved a w l m c r t k = ended end.PeerClosed m v a w t (over_of end.PeerClosed m v.parts v.port v.seat
        (rose_some (counts l).ends (counts m).ends r.2) (alive_at l m v.parts v.port v.seat c k))
    came_as CameFailed v moved a w l m c r t k = ended end.LinkFault m v a w t (over_of end.LinkFault m v.parts v.port v.seat
        (rose_some (counts l).faults (counts m).faults r.0) (alive_at l m v.parts v.port v.seat c k))

    module _ (hears : L → ℕ → Came → L → Type 0) (hears_mean : (l : L) (room : ℕ) (answer : Came) (m : L) → 0 < room → hears l room answer m
        → HearStep room (told_by l) (told_by m) (counts l) (counts m) answer) where
      input : (v : Life P (SeatState Q)) (l : L) (moved : Bool) (a : HttpTurn) (w : Life P (SeatState Q)) (m : L) → Input Asking desk hears v l moved a w m
          → Lives l v → Left a m w
      input v l moved a w m t k =
          let step = hears_mean l 4096 t.0 m (omega arith) t.1.0 in
          came_as t.0 v moved a w l m step.told step.counts t.1.1 k

      module _ (says : L → List ℕ → Said → L → Type 0) (says_mean : (l : L) (piece : List ℕ) (answer : Said) (m : L) → 0 < length piece
          → says l piece answer m → SayStep piece (told_by l) (told_by m) (counts l) (counts m) answer) where
        -- ---- step 4

        told_all : (o : Option ℕ) (v : Life P (SeatState Q)) (l : L) (a : HttpTurn) (w : Life P (SeatState Q)) (m : L)
            → ToldBy Asking desk hears says o v l a w m → Lives l v → Left a m w
        told_all None v l a w m t k = input v l true a w m t k
        told_all (Some code) v l a w m t k = left_to l a w m t.1
            (ended (end.Answered code) l v a w t.0 (over_of (end.Answered code) l v.parts v.port v.seat tt k))

        sent_as : (q : Said) (v : Life P (SeatState Q)) (l n : L) (moved : Bool) (a : HttpTurn) (w : Life P (SeatState Q)) (m : L)
            → SayStep (take 16384 v.parts.out.left) (told_by l) (told_by n) (counts l) (counts n) q
            → SentAs Asking desk hears says q v n moved a w m → Lives l v → Left a m w
        sent_as (said.Took n) v l k moved a w m s t alive =
            let c : Core = t.0 in
            let i = t.1.0 in
            let same : take n (take 16384 v.parts.out.left) ≡ take n v.parts.out.left = take_less n 16384 v.parts.out.left s.count.1 in
            let gone : Alive k (record v.parts { sent = v.parts.sent ++ take n v.parts.out.left }) v.port v.seat = record {
              asks = alive.asks;
              ties = subst (λ (b : List ℕ). Ties (told_by k) (v.parts.x ++ v.parts.later) (v.parts.sent ++ b)) same
                  (ties_taken (told_by l) (told_by k) (v.parts.x ++ v.parts.later) v.parts.sent (take n (take 16384 v.parts.out.left)) s.told alive.ties);
              holds = alive.holds;
              owns = alive.owns;
            } in
            told_all (told c) (life c v.port v.seat) k a w m t.1.1
            (alive_still k (record v.parts { sent = v.parts.sent ++ take n v.parts.out.left }) c v.port v.seat (ap (λ (d : Core). d.stage) i.rest)
            (ap gone_of i.rest) gone)
        sent_as said.NotYet v l k moved a w m s t alive = input v k moved a w m t (alive_at l k v.parts v.port v.seat s.told alive)
        sent_as said.Failed v l k moved a w m s t alive =
            left_to k a w m t.1 (ended end.LinkFault k v a w t.0 (over_of end.LinkFault k v.parts v.port v.seat
            (rose_some (counts l).faults (counts k).faults s.counts.0) (alive_at l k v.parts v.port v.seat s.told alive)))
        sent_as said.OutOfMemory v l k moved a w m s t alive =
            left_to k a w m t.1 (ended end.OutOfMemory k v a w t.0 (over_of end.OutOfMemory k v.parts v.port v.seat tt
            (alive_at l k v.parts v.port v.seat s.told alive)))

        send_by : (b : Bool) (v : Life P (SeatState Q)) (l : L) (moved : Bool) (a : HttpTurn) (w : Life P (SeatState Q)) (m : L)
            → is_nil v.parts.out.left ≡ b → SendBy Asking desk hears says b v l moved a w m → Lives l v → Left a m w
        send_by true v l moved a w m e t k = input v l moved a w m t k
        send_by false v l moved a w m e t k = sent_as t.0 v l t.1.0 moved a w m (says_mean l (take 16384 v.parts.out.left) t.0 t.1.0
            (some_nil v.parts.out.left e) t.1.1.0) t.1.1.1 k

        sent : (v : Life P (SeatState Q)) (l : L) (moved : Bool) (a : HttpTurn) (w : Life P (SeatState Q)) (m : L)
            → Sent Asking desk hears says v l moved a w m → Lives l v → Left a m w
        sent v l moved a w m t k = send_by (is_nil v.parts.out.left) v l moved a w m refl t k

        -- ---- steps 2 and 1

        after_kept : (r : Result Bool HttpEnd) (n : Life P (SeatState Q)) (l : L) (a : HttpTurn) (w : Life P (SeatState Q)) (m : L)
            → AfterKept Asking desk hears says r n l a w m → Tried r l n → Left a m w
        after_kept (Ok true) n l a w m t k = sent n l true a w m t k
        after_kept (Ok false) n l a w m t k = left_to l a w m t.2 (lives_so false l a w t.0 (subst (λ (u : Life P (SeatState Q)). Lives l u) (sym t.1) k))
        after_kept (Err e) n l a w m t k = left_to l a w m t.1 (ended e l n a w t.0 k)

        kept_by : (o : Option Entry) (v : Life P (SeatState Q)) (l : L) (a : HttpTurn) (w : Life P (SeatState Q)) (m : L) → v.parts.kept ≡ o
            → KeptOn Asking desk hears says o v l a w m → Lives l v → Left a m w
        kept_by None v l a w m is t k = sent v l false a w m t k
        kept_by (Some e) v l a w m is t k = after_kept t.0 t.1.0 l a w m t.1.1.1 (tried v t.1.0 e t.0 l is t.1.1.0 k)

        -- A TURN of one that lives
        pub turned : (o : Option HttpEnd) (v : Life P (SeatState Q)) (l : L) (a : HttpTurn) (w : Life P (SeatState Q)) (m : L) → o ≡ None
            → EndedBy Asking desk hears says o v l a w m → Alive l v.parts v.port v.seat
            → LeftBy (ended_by a) m w.parts w.port w.seat
        turned None v l a w m n t k = kept_by v.parts.kept v l a w m refl t k
        turned (Some e) v l a w m n t k = absurd (let f : Some e ≡ None = n in cc)
