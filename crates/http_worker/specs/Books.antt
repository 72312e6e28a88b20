-- WHAT A WORKER'S BOOKS SAY: of each link that was handed back, and of each player that is there
use Rattle.std.specs.Prelude.{◌≡◌, ◌≢◌, ◌⊎◌, ◌<◌, ◌+◌, ℕ, Bool, false, List, [], ◌∷◌, ◌++◌, length, map, Option, Some, None, All, AllPairs}
use Rattle.slab.specs.Slab.{get, slab_len}
use Rattle.command_dialog.specs.declared.types.Ask.{Ask}
use Rattle.command_dialog.specs.declared.types.Grant.{Grant}
use Rattle.relay_outside.specs.Doors.{DoorTold, Returned}
use Rattle.relay_outside.specs.Told.{LinkCounts, LinkTold}
use Rattle.session_owed.specs.Talk.{Own}
use Rattle.stream_model.specs.declared.calls.Entry.{Entry}
use Rattle.stream_model.specs.declared.calls.Shape.{Shape}
use Rattle.stream_model.specs.declared.replies.Reply.{Reply}
use Rattle.stream_model.specs.declared.replies.Reply.TheVariants as reply
use Rattle.stream_registry.specs.Names.{PortRules}
use Rattle.stream_registry.specs.Told.{Step, Histories}
use Rattle.turn_gate.specs.Histories.{Begins}
use Rattle.relay_session.specs.Acting.{HasGrant}
use Rattle.relay_session.specs.SeatState.{known}
use Rattle.relay_session.specs.SeatVisits.{AllStand, Visit, calls_of}
use Rattle.relay_worker.specs.Books.{LeavesBy, Owns, WaitsOrMade}
use Rattle.relay_worker.specs.Running.{EachAt}
use Rattle.http_request.specs.Heads.{IsRead, Verdict}
use Rattle.http_request.specs.Texts.{code_of, text_of}
use Rattle.http_request.specs.declared.answer.Refusal.{Refusal}
use Rattle.http_flv.specs.Keeping.{StandsBefore, join_entry, take_entry}
use Rattle.http_flv.specs.Out.{IsOwed, JoinAt, decide}
use Rattle.http_flv.specs.declared.core_fields.Core.{Core}
use Rattle.http_flv.specs.declared.end.HttpEnd.{HttpEnd}
use Rattle.http_flv.specs.declared.end.HttpEnd.TheVariants as end
use Rattle.http_flv.specs.declared.stage.Stage.{Stage}
use Rattle.http_flv.specs.declared.stage.Stage.TheVariants as stage
use Rattle.http_worker.specs.Benches.{IsNamed, WorkerState, who_of}
use Rattle.http_worker.specs.declared.bench.Bench.{Bench}
use Rattle.http_worker.specs.declared.bench.Seated.{Seated}
use Rattle.http_worker.specs.declared.bench.Terms.{Terms}

-- ---- the calls of a player

-- a request for a stream of this name that this desk grants began so
pub record HasJoin (desk : Ask → Grant) (x name : List ℕ) : Type 0 where
  pub verdict : Verdict
  pub read : IsRead x verdict
  pub place : ℕ
  pub decided : decide desk verdict ≡ JoinAt place name

-- as the player that its Join was granted; where it was granted nothing there are none
abbrev pub AreTakes : ℕ → ℕ → Reply → List Own → Type 0
AreTakes who at (reply.Joined player from) takes = All (λ t. t.0 ≡ take_entry who at player) takes
AreTakes who at _ takes = takes ≡ []

-- its Join was made, and then its Takes
pub record HasJoined (who at : ℕ) (name : List ℕ) (calls : List Own) (waited : Option Entry) : Type 0 where
  pub answer : Reply
  pub takes : List Own
  pub calls_are : calls ≡ (join_entry who at name, answer) ∷ takes
  pub takes_are : AreTakes who at answer takes
  pub none : waited ≡ None

-- its Join waits
abbrev pub IsWaiting : ℕ → ℕ → List ℕ → List Own → Option Entry → Type 0
IsWaiting who at name calls waited = (calls ≡ []) × (waited ≡ Some (join_entry who at name))

-- ITS CALLS, and the one that waits: none, or a request is granted, and they are its Join of the name that it
-- asks for, which waits or was made, and its Takes
abbrev pub AreAsked : (Ask → Grant) → ℕ → List ℕ → List Own → Option Entry → Type 0
AreAsked desk who x calls waited =
    ((calls ≡ []) × (waited ≡ None))
    ⊎ ((name : List ℕ) × (HasJoin desk x name × (IsWaiting who (length x) name calls waited ⊎ HasJoined who (length x) name calls waited)))

-- ---- a player that has ended

-- the bytes that came are all that the link gave; where there was no memory for some, they begin it
abbrev pub CameBy : HttpEnd → List ℕ → List ℕ → Type 0
CameBy end.PeerClosed came gave = came ≡ gave
CameBy end.LinkFault came gave = came ≡ gave
CameBy (end.Answered code) came gave = came ≡ gave
CameBy end.Worn came gave = came ≡ gave
CameBy end.OutOfMemory came gave = Begins came gave
CameBy end.Closed came gave = came ≡ gave

-- what was sent begins what is owed; where it was told no, it is all of that, and the text of that number
abbrev pub SentBy : HttpEnd → List ℕ → List ℕ → Type 0
SentBy end.PeerClosed out sent = Begins sent out
SentBy end.LinkFault out sent = Begins sent out
SentBy (end.Answered code) out sent = (sent ≡ out) × ((r : Refusal) × ((code ≡ code_of r) × (sent ≡ text_of r)))
SentBy end.Worn out sent = Begins sent out
SentBy end.OutOfMemory out sent = Begins sent out
SentBy end.Closed out sent = Begins sent out

-- WHY IT HAS ENDED, where its link has these counts. It isn't closed while it lives. A text that was sent is
-- told by what was sent. A full history and want of memory are no matter of the link: the books tell of them apart
abbrev pub IsCause : LinkCounts → HttpEnd → Type 0
IsCause counts end.PeerClosed = counts.ends ≢ 0
IsCause counts end.LinkFault = counts.faults ≢ 0
IsCause counts (end.Answered code) = Unit {0}
IsCause counts end.Worn = Unit {0}
IsCause counts end.OutOfMemory = Unit {0}
IsCause counts end.Closed = ⊥

-- HOW A PLAYER WAS SERVED that has ended so, whose link has these counts, gave these bytes and took those: by
-- the bytes of its head and those after it, which are dropped, and by its calls
pub record IsServed (desk : Ask → Grant) (who : ℕ) (e : HttpEnd) (counts : LinkCounts) (gave took x later : List ℕ) (calls : List Own)
    (waited : Option Entry) : Type 0 where
  pub came : CameBy e (x ++ later) gave
  pub asked : AreAsked desk who x calls waited
  pub out : List ℕ
  pub owed : IsOwed desk x calls out
  pub sent : SentBy e out took
  pub cause : IsCause counts e

-- ---- a link that was handed back

-- the name of its player, why that has ended, and what the link told then
pub record Account : Type 0 where
  pub who : ℕ
  pub end : HttpEnd
  pub link : Returned

-- ITS PLAYER was served by the bytes that the link gave. Its calls bear its name and stand in the histories
-- of their streams, each once and in their order, answered by the rules: those that it asked for, and then
-- those by which it left
pub record Accounted (desk : Ask → Grant) (limits : ℕ → Shape) (histories : Histories) (a : Account) : Type 0 where
  pub x : List ℕ
  pub later : List ℕ
  pub visits : List Visit
  pub stand : AllStand limits histories visits
  pub own : All (λ v. v.1.0.who ≡ a.who) visits
  pub calls : List Own
  -- the Join that waited as it ended
  pub waited : Option Entry
  pub served : IsServed desk a.who a.end a.link.counts a.link.gave a.link.took x later calls waited
  pub left : List Own
  pub calls_are : calls_of visits ≡ calls ++ left
  pub left_by : LeavesBy waited left

-- LINKS THAT WERE OUT AT A TIME: so many had come back when one did whose player has this name. By its name
-- it came after `who - who_of 0` others, and no more of them, and it, were out than the worker has link places
abbrev pub IsBackAfter : Terms → ℕ → ℕ → Type 0
IsBackAfter t back who = who < who_of (back + t.links)

-- ---- a player that is there

-- its calls, by how far it is. Bytes are dropped once its head was read
pub record IsReading (later : List ℕ) (calls : List Own) (kept : Option Entry) : Type 0 where
  pub none : later ≡ []
  pub no_call : calls ≡ []
  pub no_wait : kept ≡ None

pub record IsPlaying (desk : Ask → Grant) (player who : ℕ) (x : List ℕ) (calls : List Own) (kept : Option Entry) : Type 0 where
  pub name : List ℕ
  pub join : HasJoin desk x name
  pub from : ℕ
  pub takes : List Own
  pub calls_are : calls ≡ (join_entry who (length x) name, reply.Joined player from) ∷ takes
  pub takes_are : All (λ t. t.0 ≡ take_entry who (length x) player) takes
  pub none : kept ≡ None

abbrev pub AsksAt : (Ask → Grant) → Stage → ℕ → List ℕ → List ℕ → List Own → Option Entry → Type 0
AsksAt desk stage.Reading who x later calls kept = IsReading later calls kept
AsksAt desk (stage.Joining place) who x later calls kept = (name : List ℕ) × (HasJoin desk x name × IsWaiting who (length x) name calls kept)
AsksAt desk (stage.Telling r) who x later calls kept = AreAsked desk who x calls kept
AsksAt desk (stage.Playing place player) who x later calls kept = IsPlaying desk player who x calls kept

abbrev pub Asks : (Ask → Grant) → Core → Type 0
Asks desk c = AsksAt desk c.stage c.who c.x c.later c.calls c.kept

-- what its link gave came, and what it took was sent
abbrev pub Ties : Option LinkTold → List ℕ → List ℕ → Type 0
Ties told came sent = (t : LinkTold) → told ≡ Some t → (t.gave ≡ came) × (t.took ≡ sent)

-- one that lives has sent what it is owed, but for what is pending, and has made these calls and no other
pub record IsLive (told : Option LinkTold) (desk : Ask → Grant) (c : Core) (visits : List Visit) : Type 0 where
  pub stands : StandsBefore desk c
  pub asks : Asks desk c
  pub calls : calls_of visits ≡ c.calls
  pub ties : Ties told (c.x ++ c.later) c.sent

-- one that has ended was served so, and a Join that waits is made when it is closed
pub record HasStopped (told : Option LinkTold) (counts : LinkCounts) (desk : Ask → Grant) (e : HttpEnd) (c : Core) (visits : List Visit) : Type 0 where
  pub gave : List ℕ
  pub ties : Ties told gave c.sent
  pub waited : Option Entry
  pub served : IsServed desk c.who e counts gave c.sent c.x c.later c.calls waited
  pub left : List Own
  pub calls_are : calls_of visits ≡ c.calls ++ left
  pub leaving : WaitsOrMade waited c.kept left

abbrev pub LivesBy : Option LinkTold → LinkCounts → (Ask → Grant) → Option HttpEnd → Core → List Visit → Type 0
LivesBy told counts desk None c visits = IsLive told desk c visits
LivesBy told counts desk (Some e) c visits = HasStopped told counts desk e c visits

module _ {P Q L : Type 0} (rules : P → PortRules) (root : P → Histories) (seen : Q → List Step)
    (told : L → Option LinkTold) (counts : L → LinkCounts) (desk : Ask → Grant) (t : Terms) (port : P) where
  -- it sends units of that length, it lives or has stopped so, its calls stand in what is known, it is
  -- granted what they say, where it has a pass, and none of these accounts has its name
  pub record Lives (accounts : List Account) (s : Seated P L Q) : Type 0 where
    pub longest : s.player.parts.longest ≡ t.limits.max_message
    pub by : LivesBy (told s.link) (counts s.link) desk s.player.ended s.player.parts s.player.seat.visits
    pub calls : AllStand (rules port).limits (known root seen port s.player.seat) s.player.seat.visits
    pub granted : HasGrant s.player.seat.spot s.player.seat.active s.player.seat.visits
    pub own : Owns s.player.parts.who s.player.seat.visits s.player.parts.kept
    pub fresh : All (λ a. a.who ≢ s.player.parts.who) accounts

-- ---- all together

module _ {P D Q L : Type 0} (rules : P → PortRules) (root : P → Histories) (seen : Q → List Step)
    (told : L → Option LinkTold) (counts : L → LinkCounts) (doors : D → DoorTold) (desk : Ask → Grant) where
  -- THE BOOKS: the links that the door has back are those of these accounts, each of a player of its own.
  -- Where nothing was refused for want of memory, each link that the door gave is there or back, no more were
  -- out at a time than there are link places, and no player has ended by want of memory. Where no history was
  -- found full, no player has ended by that
  pub record Works (t : Terms) (b : Bench P D Q L) : Type 0 where
    pub accounts : List Account
    pub back_is : (list : List Returned) → (doors b.door).back ≡ Some list → list ≡ map (λ a. a.link) accounts
    pub accounted : All (Accounted desk (rules b.port).limits (root b.port)) accounts
    pub named : All (λ a. IsNamed b.had a.who) accounts
    pub apart : AllPairs (λ a c. a.who ≢ c.who) accounts
    pub lives : (key : ℕ) (s : Seated P L Q) → get b.players key ≡ Some s → Lives rules root seen told counts desk t b.port accounts s
    pub counted : b.refused ≡ false → slab_len b.players + length accounts ≡ b.had
    pub few : b.refused ≡ false → EachAt (λ i a. IsBackAfter t i a.who) accounts
    pub near : b.refused ≡ false → (key : ℕ) (s : Seated P L Q) → get b.players key ≡ Some s
        → IsBackAfter t (length accounts) s.player.parts.who
    pub spared : b.refused ≡ false → All (λ a. a.end ≢ end.OutOfMemory) accounts
    pub unspent : b.refused ≡ false → (key : ℕ) (s : Seated P L Q) → get b.players key ≡ Some s → s.player.ended ≢ Some end.OutOfMemory
    pub unworn : b.worn ≡ false → All (λ a. a.end ≢ end.Worn) accounts
    pub unfilled : b.worn ≡ false → (key : ℕ) (s : Seated P L Q) → get b.players key ≡ Some s → s.player.ended ≢ Some end.Worn

  -- the same of a worker
  abbrev pub HasBooks : WorkerState P D Q L → Type 0
  HasBooks w = Works w.terms w.bench

-- WHAT IS LEFT OF THEM, where no player lives: the links that the door has back are those of these accounts,
-- each of a player of its own. Where nothing was refused for want of memory, they are as many as the door
-- gave, they came back in an order in which no more were out at a time than there are link places, and no
-- player ended by that. Where none found a history full, none ended by that
pub record Settled (desk : Ask → Grant) (t : Terms) (limits : ℕ → Shape) (histories : Histories)
    (door : DoorTold) (refused worn : Bool) : Type 0 where
  pub accounts : List Account
  pub back_is : (list : List Returned) → door.back ≡ Some list → list ≡ map (λ a. a.link) accounts
  pub accounted : All (Accounted desk limits histories) accounts
  pub named : All (λ a. IsNamed door.given a.who) accounts
  pub apart : AllPairs (λ a c. a.who ≢ c.who) accounts
  pub counted : refused ≡ false → length accounts ≡ door.given
  pub few : refused ≡ false → EachAt (λ i a. IsBackAfter t i a.who) accounts
  pub spared : refused ≡ false → All (λ a. a.end ≢ end.OutOfMemory) accounts
  pub unworn : worn ≡ false → All (λ a. a.end ≢ end.Worn) accounts
