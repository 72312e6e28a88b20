-- WHAT A WORKER'S BOOKS SAY: of each link that was handed back, and of each session that is there
use Rattle.std.specs.Prelude.{◌≡◌, ◌≢◌, ◌⊎◌, ◌<◌, ◌+◌, ℕ, Bool, true, false, List, [], ◌∷◌, ◌++◌, length, drop, map, Option, Some, None, All, AllPairs}
use Rattle.slab.specs.Slab.{get, slab_len}
use Rattle.chunk_reader.specs.Sound.{IsRead}
use Rattle.chunk_wire.specs.declared.message.Message.{Message}
use Rattle.command_dialog.specs.declared.types.Ask.{Ask}
use Rattle.command_dialog.specs.declared.types.Grant.{Grant}
use Rattle.relay_outside.specs.Doors.{DoorTold, Returned}
use Rattle.relay_outside.specs.Told.{LinkCounts, LinkTold}
use Rattle.session_owed.specs.Owed.{count_of, out}
use Rattle.session_owed.specs.Talk.{Own, hand_bytes}
use Rattle.session_owed.specs.Talks.{Talks}
use Rattle.stream_model.specs.declared.calls.Call.{Call}
use Rattle.stream_model.specs.declared.calls.Call.TheVariants as call
use Rattle.stream_model.specs.declared.calls.Entry.{Entry}
use Rattle.stream_model.specs.declared.replies.Reply.{Reply}
use Rattle.stream_model.specs.declared.calls.Shape.{Shape}
use Rattle.stream_registry.specs.Names.{PortRules}
use Rattle.stream_registry.specs.Told.{Step, Histories}
use Rattle.turn_gate.specs.Histories.{Begins}
use Rattle.relay_session.specs.Acting.{ActsBy}
use Rattle.relay_session.specs.Decided.{IsDecided}
use Rattle.relay_session.specs.Session.{session}
use Rattle.relay_session.specs.SeatOwn.{Acts}
use Rattle.relay_session.specs.SeatState.{known}
use Rattle.relay_session.specs.SeatVisits.{AllStand, Visit, calls_at, calls_of}
use Rattle.relay_session.specs.Keeping.{StandsBefore}
use Rattle.relay_session.specs.SessionState.{gone_but_kept}
use Rattle.relay_session.specs.Turns.{Gone}
use Rattle.relay_session.specs.declared.core_fields.Core.{Core}
use Rattle.relay_session.specs.declared.end.End.{End}
use Rattle.relay_session.specs.declared.end.End.TheVariants as end
use Rattle.relay_worker.specs.Benches.{IsNamed, WorkerState, who_of}
use Rattle.relay_worker.specs.Running.{EachAt}
use Rattle.relay_worker.specs.Turned.{CameByTurns, IsRunning, RanOut, alive, wire}
use Rattle.relay_worker.specs.declared.bench.Bench.{Bench}
use Rattle.relay_worker.specs.declared.bench.Seated.{Seated}
use Rattle.relay_worker.specs.declared.bench.Terms.{Terms}

-- ---- why a session has ended

-- WHY A SESSION HAS ENDED whose link has these counts and gave the bytes y, of which n were fed, where the
-- byte behind these decides so. Nothing tells it to end. A session whose peer has closed was fed all that the
-- link gave. A full history and want of memory are no matter of the link: the books tell of them apart
abbrev pub IsCause : (List ℕ → ℕ → End → Type 0) → LinkCounts → List ℕ → ℕ → End → Type 0
IsCause Decided counts y n end.PeerClosed = (counts.ends ≢ 0) × (n ≡ length y)
IsCause Decided counts y n end.LinkFault = counts.faults ≢ 0
IsCause Decided counts y n (end.BadVersion at) = Decided y n (end.BadVersion at)
IsCause Decided counts y n (end.BadChunk cause at) = Decided y n (end.BadChunk cause at)
IsCause Decided counts y n (end.BadControl at) = Decided y n (end.BadControl at)
IsCause Decided counts y n (end.BadCommand at) = Decided y n (end.BadCommand at)
IsCause Decided counts y n (end.TooManyStreams at) = Decided y n (end.TooManyStreams at)
IsCause Decided counts y n end.Quit = ⊥
IsCause Decided counts y n end.Worn = Unit {0}
IsCause Decided counts y n end.OutOfMemory = Unit {0}

-- ---- a link and its session

-- what was fed begins what the link gave, which was the cause of the end, and what the link took was sent
pub record IsEndedBy (Decided : List ℕ → ℕ → End → Type 0) (e : End) (told : Option LinkTold) (counts : LinkCounts) (x sent : List ℕ) : Type 0 where
  pub y : List ℕ
  pub fed : Begins x y
  pub cause : IsCause Decided counts y (length x) e
  pub told_is : (t : LinkTold) → told ≡ Some t → (t.gave ≡ y) × (t.took ≡ sent)

-- of one that lives: what the link gave was fed or is yet to be, and what it took was sent
abbrev pub TiesBy : Option End → Option LinkTold → List ℕ → List ℕ → List ℕ → Type 0
TiesBy None told x input sent = (t : LinkTold) → told ≡ Some t → (t.gave ≡ x ++ input) × (t.took ≡ sent)
TiesBy (Some e) told x input sent = Unit {0}

-- all these calls bear the name, and so does the one that waits
pub record Owns (who : ℕ) (visits : List Visit) (kept : Option Entry) : Type 0 where
  pub made : All (λ v. v.1.0.who ≡ who) visits
  pub waits : (e : Entry) → kept ≡ Some e → e.who ≡ who

-- ---- the calls by which a session leaves

-- the call that waited as the session ended, with its reply, or none
abbrev pub IsWaited : Option Entry → List Own → Type 0
IsWaited waited calls = (calls ≡ []) ⊎ ((e : Entry) × ((r : Reply) × ((waited ≡ Some e) × (calls ≡ (e, r) ∷ []))))

-- a call that ends what was granted
abbrev pub IsParting : Call → Type 0
IsParting c = (c ≡ call.End) ⊎ ((player : ℕ) × (c ≡ call.Leave player))

-- one such call, or none
abbrev pub IsParted : List Own → Type 0
IsParted calls = (calls ≡ []) ⊎ ((c : Own) × (IsParting c.0.call × (calls ≡ c ∷ [])))

-- THE CALLS BY WHICH A SESSION LEAVES: the one that waited as it ended, if it was made, and then at most one
-- that ends what it was granted
pub record LeavesBy (waited : Option Entry) (calls : List Own) : Type 0 where
  pub first : List Own
  pub last : List Own
  pub calls_are : calls ≡ first ++ last
  pub first_is : IsWaited waited first
  pub last_is : IsParted last

-- of one that is still to leave: the call that waited waits on, or it was made
abbrev pub WaitsOrMade : Option Entry → Option Entry → List Own → Type 0
WaitsOrMade waited kept calls = ((calls ≡ []) × (kept ≡ waited)) ⊎ (IsWaited waited calls × (kept ≡ None))

-- ---- a link that was handed back

-- the name of its session, why that has ended, and what the link gave and took, with its counts. Whether it
-- told these itself
pub record Account : Type 0 where
  pub who : ℕ
  pub end : End
  pub link : Returned
  pub tells : Bool

-- ITS SESSION was fed the first bytes that the link gave. Its calls bear its name and stand in the histories
-- of their streams, each once and in their order, answered by the rules. At each of them it asked for nothing
-- but what it was granted there. They are those that the messages of these bytes ask for and its Takes, and
-- then those by which it left: so each unit that it pushed is one that its messages publish. What the link
-- took begins what is owed before this desk for these bytes and the first of these calls. The bytes that the
-- link gave are the cause of its end, where these messages and calls had left its dialogue
pub record Accounted (desk : Ask → Grant) (t : Terms) (limits : ℕ → Shape) (histories : Histories) (a : Account) : Type 0 where
  pub x : List ℕ
  pub fed : Begins x a.link.gave
  pub ms : List (ℕ × Message)
  pub read : IsRead t.limits.max_message (drop hand_bytes x) ms
  pub visits : List Visit
  pub stand : AllStand limits histories visits
  pub own : All (λ v. v.1.0.who ≡ a.who) visits
  pub acts : (q : ℕ) → Acts (calls_at q visits)
  pub calls : List Own
  -- the call that waited as it ended
  pub waited : Option Entry
  pub talks : Talks (session a.who t.limits.window desk) (count_of (session a.who t.limits.window desk) x) ms calls waited
  pub left : List Own
  pub calls_are : calls_of visits ≡ calls ++ left
  pub left_by : LeavesBy waited left
  pub owed : Begins a.link.took (out (session a.who t.limits.window desk) x ms calls)
  pub cause : IsCause (IsDecided a.who t.limits.window desk ms calls t.limits.max_message) a.link.counts a.link.gave (length x) a.end
  -- it came there by turns, from a new session to the end
  pub ran : a.tells ≡ true → CameByTurns desk a.who t.limits.window t.limits.max_message a.end x calls waited a.link

-- LINKS THAT WERE OUT AT A TIME: so many had come back when one did whose session has this name. By its name
-- it came after `who - who_of t.number 0` others, and no more of them, and it, were out than the worker has link places
abbrev pub IsBackAfter : Terms → ℕ → ℕ → Type 0
IsBackAfter t back who = who < who_of t.number (back + t.links)

-- ---- a session that is there

-- what was sent is what it owes before this desk for the bytes fed and its calls, or begins it, and these
-- calls and the one that waited are those that the messages of these bytes ask for
pub record HasSent (desk : Ask → Grant) (waited : Option Entry) (g : Gone) : Type 0 where
  pub ms : List (ℕ × Message)
  pub read : IsRead g.max (drop hand_bytes g.x) ms
  pub talks : Talks (session g.who g.window desk) (count_of (session g.who g.window desk) g.x) ms g.calls waited
  pub owed : Begins g.sent (out (session g.who g.window desk) g.x ms g.calls)

-- of one that has ended so that is all, its link told the cause, and it came there by turns
pub record HasGone (told : Option LinkTold) (counts : LinkCounts) (desk : Ask → Grant) (e : End) (waited : Option Entry) (g : Gone) : Type 0 where
  pub sent : HasSent desk waited g
  pub ran : RanOut desk e waited g (wire told counts)
  pub ending : IsEndedBy (IsDecided g.who g.window desk sent.ms g.calls g.max) e told counts g.x g.sent

-- and a call that waits is made when it is closed
pub record HasStopped (told : Option LinkTold) (counts : LinkCounts) (desk : Ask → Grant) (e : End) (c : Core) (visits : List Visit) : Type 0 where
  pub waited : Option Entry
  pub gone : HasGone told counts desk e waited (gone_but_kept c)
  pub left : List Own
  pub calls_are : calls_of visits ≡ c.calls ++ left
  pub leaving : WaitsOrMade waited c.kept left

-- one that lives came there by turns
abbrev pub RunsBy : Option LinkTold → LinkCounts → (Ask → Grant) → Option End → Core → List ℕ → List Visit → Type 0
RunsBy told counts desk None c input visits = IsRunning desk c.who c.window c.reader.max (alive c input visits) (wire told counts)
RunsBy told counts desk (Some e) c input visits = Unit {0}

-- one that lives has made these calls and no other
abbrev pub OwesBy : Option LinkTold → LinkCounts → (Ask → Grant) → Option End → Core → List Visit → Type 0
OwesBy told counts desk None c visits = StandsBefore desk c × (calls_of visits ≡ c.calls)
OwesBy told counts desk (Some e) c visits = HasStopped told counts desk e c visits

module _ {P Q L : Type 0} (rules : P → PortRules) (root : P → Histories) (seen : Q → List Step)
    (told : L → Option LinkTold) (counts : L → LinkCounts) (desk : Ask → Grant) (t : Terms) (port : P) where
  -- what was sent is what it owes or begins it, its calls stand in what is known, it asked for nothing but
  -- what it was granted, its bytes are those of its link, none of these accounts has its name, and it isn't told to end
  pub record Lives (accounts : List Account) (s : Seated P L Q) : Type 0 where
    pub window : s.session.parts.window ≡ t.limits.window
    pub max : s.session.parts.reader.max ≡ t.limits.max_message
    pub owes : OwesBy (told s.link) (counts s.link) desk s.session.ended s.session.parts s.session.seat.visits
    pub runs : RunsBy (told s.link) (counts s.link) desk s.session.ended s.session.parts s.session.input s.session.seat.visits
    pub calls : AllStand (rules port).limits (known root seen port s.session.seat) s.session.seat.visits
    pub acts : ActsBy s.session.ended s.session.parts s.session.seat
    pub own : Owns s.session.parts.who s.session.seat.visits s.session.parts.kept
    pub ties : TiesBy s.session.ended (told s.link) s.session.parts.x s.session.input s.session.parts.sent
    pub fresh : All (λ a. a.who ≢ s.session.parts.who) accounts
    pub unasked : s.session.ended ≡ None → s.session.quit ≡ false

-- ---- all together

module _ {P D Q L : Type 0} (rules : P → PortRules) (root : P → Histories) (seen : Q → List Step)
    (told : L → Option LinkTold) (counts : L → LinkCounts) (doors : D → DoorTold) (desk : Ask → Grant) where
  -- THE BOOKS: the links that the door has back are those of these accounts, each of a session of its own.
  -- Where nothing was refused for want of memory, each link that the door gave is there or back, no more were
  -- out at a time than there are link places, and no session has ended by want of memory. Where no history
  -- was found full, no session has ended by that
  pub record Works (t : Terms) (b : Bench P D Q L) : Type 0 where
    pub accounts : List Account
    pub back_is : (list : List Returned) → (doors b.door).back ≡ Some list → list ≡ map (λ a. a.link) accounts
    pub telling : (list : List Returned) → (doors b.door).back ≡ Some list → All (λ a. a.tells ≡ true) accounts
    pub accounted : All (Accounted desk t (rules b.port).limits (root b.port)) accounts
    pub named : All (λ a. IsNamed t.number b.had a.who) accounts
    pub apart : AllPairs (λ a c. a.who ≢ c.who) accounts
    pub lives : (key : ℕ) (s : Seated P L Q) → get b.sessions key ≡ Some s → Lives rules root seen told counts desk t b.port accounts s
    pub counted : b.refused ≡ false → slab_len b.sessions + length accounts ≡ b.had
    pub few : b.refused ≡ false → EachAt (λ i a. IsBackAfter t i a.who) accounts
    pub near : b.refused ≡ false → (key : ℕ) (s : Seated P L Q) → get b.sessions key ≡ Some s
        → IsBackAfter t (length accounts) s.session.parts.who
    pub spared : b.refused ≡ false → All (λ a. a.end ≢ end.OutOfMemory) accounts
    pub unspent : b.refused ≡ false → (key : ℕ) (s : Seated P L Q) → get b.sessions key ≡ Some s
        → s.session.ended ≢ Some end.OutOfMemory
    pub unworn : b.worn ≡ false → All (λ a. a.end ≢ end.Worn) accounts
    pub unfilled : b.worn ≡ false → (key : ℕ) (s : Seated P L Q) → get b.sessions key ≡ Some s
        → s.session.ended ≢ Some end.Worn

  -- the same of a worker
  abbrev pub HasBooks : {K : Type 0} → WorkerState P D K Q L → Type 0
  HasBooks w = Works w.terms w.bench

-- WHAT IS LEFT OF THEM, where no session lives: the links that the door has back are those of these accounts,
-- each of a session of its own. Where nothing was refused for want of memory, they are as many as the door
-- gave, they came back in an order in which no more were out at a time than there are link places, and no
-- session ended by that. Where no session found a history full, none ended by that
pub record Settled (desk : Ask → Grant) (t : Terms) (limits : ℕ → Shape) (histories : Histories)
    (door : DoorTold) (refused worn : Bool) : Type 0 where
  pub accounts : List Account
  pub back_is : (list : List Returned) → door.back ≡ Some list → list ≡ map (λ a. a.link) accounts
  pub telling : (list : List Returned) → door.back ≡ Some list → All (λ a. a.tells ≡ true) accounts
  pub accounted : All (Accounted desk t limits histories) accounts
  pub named : All (λ a. IsNamed t.number door.given a.who) accounts
  pub apart : AllPairs (λ a c. a.who ≢ c.who) accounts
  pub counted : refused ≡ false → length accounts ≡ door.given
  pub few : refused ≡ false → EachAt (λ i a. IsBackAfter t i a.who) accounts
  pub spared : refused ≡ false → All (λ a. a.end ≢ end.OutOfMemory) accounts
  pub unworn : worn ≡ false → All (λ a. a.end ≢ end.Worn) accounts
