-- ONE TURN OF A SESSION, as a relation: by what the link and the port answered in it, each step with those after it
use Rattle.std.specs.Prelude.{◌≡◌, ◌⊎◌, ℕ, ◌-◌, ◌<◌, Bool, true, false, not, ◌&&◌, ◌||◌, nat_le, if◌then◌else◌, List, [], ◌∷◌, length, drop, take, Option, Some, None, Result, Ok, Err}
use Rattle.std.specs.Option.{is_some}
use Rattle.relay_outside.specs.Heard.{Came, CameBytes, CameEnd, CameNotYet, CameFailed}
use Rattle.relay_outside.specs.declared.link.Said.{Said}
use Rattle.relay_outside.specs.declared.link.Said.TheVariants as said
use Rattle.ack_window.specs.Outbound.{OutWindow}
use Rattle.command_dialog.specs.declared.types.Ask.{Ask}
use Rattle.command_dialog.specs.declared.types.Grant.{Grant}
use Rattle.command_dialog.specs.declared.types.Playing.{Playing}
use Rattle.command_dialog.specs.State.{State, playing_in}
use Rattle.stream_model.specs.declared.calls.Call.TheVariants as call
use Rattle.stream_model.specs.declared.calls.Entry.{Entry}
use Rattle.stream_model.specs.declared.replies.Reply.{Reply}
use Rattle.stream_model.specs.declared.replies.Reply.TheVariants as reply
use Rattle.chunk_reader.specs.Sound.{IsRead}
use Rattle.rtmp_handshake.specs.Answer.{bad_version}
use Rattle.session_owed.specs.Talk.{Own, hand_bytes}
use Rattle.relay_session.specs.Feeding.{Hears, IsCalled, IsFed, IsOthers, IsSent, IsStopped}
use Rattle.relay_session.specs.Keeping.{HasEnded, IsOver, IsSteady, StandsBefore}
use Rattle.relay_session.specs.Owing.{IsUnfinished, pending}
use Rattle.relay_session.specs.declared.core_fields.Core.{Core}
use Rattle.relay_session.specs.declared.end.End.{End}
use Rattle.relay_session.specs.declared.end.End.TheVariants as end
use Rattle.relay_session.specs.declared.seat_answers.Made.{Made}
use Rattle.relay_session.specs.declared.seat_answers.Made.TheVariants as made
use Rattle.relay_session.specs.declared.turn.Turn.{Turn}
use Rattle.relay_session.specs.declared.turn.Turn.TheVariants.{Moved, Idle, Ended}

-- a session that lives: what it keeps, the bytes received and not fed, the port and where it stands there
pub record Life (P S : Type 0) : Type 0 where
  pub parts : Core
  pub input : List ℕ
  pub port : P
  pub seat : S

abbrev pub life : {P S : Type 0} → Core → List ℕ → P → S → Life P S
life parts input port seat = record { parts = parts; input = input; port = port; seat = seat }

-- ---- what a turn asks of a session

abbrev pub is_nil : List ℕ → Bool
is_nil [] = true
is_nil (b ∷ l) = false

-- an acknowledgement came, and a window of bytes or more isn't acknowledged
abbrev pub is_held_back : OutWindow → Bool
is_held_back o = o.heard && nat_le o.window (o.sent - o.acknowledged)

abbrev pub takes_if : Bool → Bool → Bool → Option Playing → Option Playing
takes_if nothing held waits None = None
takes_if nothing held waits (Some p) = if nothing && (not held && (not waits && not p.paused)) then Some p else None

-- IT TAKES where it plays, nothing is pending, it isn't held back, no call waits, and it isn't paused
abbrev pub takes : Core → Option Playing
takes c = takes_if (is_nil (pending c.outgoing)) (is_held_back c.outbound) (is_some c.kept) (playing_in c.dialog.phase)

-- the Take of a player by a session that was fed so many bytes
abbrev pub take_entry : Core → Playing → Entry
take_entry c p = record { who = c.who; at = length c.x; call = call.Take p.player p.want }

-- IT IS HUNGRY where at most 8,192 of the bytes pending are of no item that was taken
abbrev pub is_hungry : Core → Bool
is_hungry c = nat_le c.outgoing.others 8192

-- a reply that finds nothing for the player
abbrev pub is_not_yet : Reply → Bool
is_not_yet (reply.NotYet end) = true
is_not_yet (reply.Began n) = false
is_not_yet (reply.InUse by) = false
is_not_yet (reply.Pushed n) = false
is_not_yet (reply.NotPublisher live) = false
is_not_yet (reply.Ended n) = false
is_not_yet (reply.Joined player from) = false
is_not_yet reply.Full = false
is_not_yet (reply.NoSlot slots) = false
is_not_yet reply.NotPlayer = false
is_not_yet (reply.Sent from n item) = false
is_not_yet (reply.Skip from to) = false
is_not_yet (reply.Left player) = false
is_not_yet (reply.Counts began pushed ended joined skips) = false

abbrev pub answer : Bool → Turn
answer true = Moved
answer false = Idle

-- more of what is pending was encoded: the bytes are the same, and a unit that was encoded whole was let go of
pub record IsFilled (old new : Core) : Type 0 where
  pub rest : new ≡ record old { outgoing = new.outgoing }
  pub bytes : pending new.outgoing ≡ pending old.outgoing
  pub writer : new.outgoing.writer ≡ old.outgoing.writer
  pub others : new.outgoing.others ≡ old.outgoing.others
  pub let_go : IsUnfinished new.outgoing.hand

-- a step goes on from where the one before it stood: where what was sent and what is pending was what is owed
-- before this desk, it is so after it, the messages read are those of the bytes fed, the version that its
-- peer sent is taken, and the bytes fed are counted
pub record StandsOnBefore (desk : Ask → Grant) (old new : Core) : Type 0 where
  pub stands : StandsBefore desk old → StandsBefore desk new
  pub read : IsRead new.reader.max (drop hand_bytes new.x) new.reader.given
  pub version : bad_version new.x ≡ None
  pub counted : new.fed ≡ length new.x

-- before each desk
abbrev pub StandsOn : Core → Core → Type 0
StandsOn old new = (desk : Ask → Grant) → StandsOnBefore desk old new

-- ---- how it ends

-- what is left of a session that has ended
pub record Gone : Type 0 where
  pub who : ℕ
  pub window : ℕ
  pub max : ℕ
  pub x : List ℕ
  pub calls : List Own
  pub sent : List ℕ
  pub kept : Option Entry
  pub place : Option ℕ
  pub fed : ℕ
  pub state : State

abbrev pub gone_of : Core → Gone
gone_of c = record { who = c.who; window = c.window; max = c.reader.max; x = c.x; calls = c.calls; sent = c.sent; kept = c.kept; place = c.place; fed = c.fed; state = c.dialog }

-- it ended so, and nothing else was received, sent, fed or called
pub record IsEnded {P S : Type 0} (e : End) (v : Life P S) (a : Turn) (w : Life P S) : Type 0 where
  pub ended : a ≡ Ended e
  pub gone : gone_of w.parts ≡ gone_of v.parts
  pub port : w.port ≡ v.port
  pub seat : w.seat ≡ v.seat

-- what a turn leaves: a session that lives is sound and stands for its past, of one that ended what was sent
-- begins what it owes
abbrev pub Lives : Core → Turn → Type 0
Lives c Moved = IsSteady c
Lives c Idle = IsSteady c
Lives c (Ended e) = HasEnded c

abbrev pub Leaves : (Ask → Grant) → Core → Turn → Type 0
Leaves desk c Moved = StandsBefore desk c
Leaves desk c Idle = StandsBefore desk c
Leaves desk c (Ended e) = IsOver desk e c

-- the same of a call that was tried: true where it was made
abbrev pub LivesTried : Core → Result Bool End → Type 0
LivesTried c (Ok made) = IsSteady c
LivesTried c (Err e) = HasEnded c

abbrev pub LeavesTried : (Ask → Grant) → Core → Result Bool End → Type 0
LeavesTried desk c (Ok made) = StandsBefore desk c
LeavesTried desk c (Err e) = IsOver desk e c

-- what the feeding of a buffer did: it ended no message, or one, or the session
pub data FedBy : Type 0 where
  Quietly : FedBy
  Loudly : FedBy
  Stopping : End → FedBy

module _ {P S : Type 0} where
  -- what a Take was answered. A busy one isn't kept
  abbrev pub TakeMade : Life P S → Entry → Bool → Made → Life P S → Turn → Type 0
  TakeMade v e moved (made.Answer r) w a =
      IsCalled v.parts e r w.parts
      × (((a ≡ answer (moved || not (is_not_yet r))) × (w.parts.outgoing.others ≡ 0) × StandsOn v.parts w.parts) ⊎ (a ≡ Ended end.OutOfMemory))
  TakeMade v e moved (made.Busy f) w a = (w.parts ≡ v.parts) × (a ≡ answer moved)
  TakeMade v e moved (made.Worn f) w a = (w.parts ≡ v.parts) × (a ≡ Ended end.Worn)
  TakeMade v e moved (made.OutOfMemory f) w a = (w.parts ≡ v.parts) × (a ≡ Ended end.OutOfMemory)

  -- what a call that waited was answered: it is heard, or it waits on
  abbrev pub CallMade : Life P S → Entry → Made → Life P S → Type 0
  CallMade v e (made.Answer r) w = IsCalled v.parts e r w.parts
  CallMade v e (made.Busy f) w = w.parts ≡ v.parts
  CallMade v e (made.Worn f) w = w.parts ≡ v.parts
  CallMade v e (made.OutOfMemory f) w = w.parts ≡ v.parts

  -- what was tried: it was heard, it waits on, or the session ends
  abbrev pub TriedAs : Life P S → Made → Result Bool End → Life P S → Type 0
  TriedAs v (made.Answer r) result m = ((result ≡ Ok true) × IsOthers v.parts m.parts × StandsOn v.parts m.parts) ⊎ (result ≡ Err end.OutOfMemory)
  TriedAs v (made.Busy f) result m = result ≡ Ok false
  TriedAs v (made.Worn f) result m = result ≡ Err end.Worn
  TriedAs v (made.OutOfMemory f) result m = result ≡ Err end.OutOfMemory

module _ {P S : Type 0} (asks : P → S → ℕ → Entry → Made → P → S → Type 0) where
  -- ---- STEP 6: one Take
  pub record TakeAsked (v : Life P S) (p : Playing) (moved : Bool) (a : Turn) (w : Life P S) : Type 0 where
    pub place : ℕ
    pub there : v.parts.place ≡ Some place
    pub came : Made
    pub asked : asks v.port v.seat place (take_entry v.parts p) came w.port w.seat
    pub taken : TakeMade v (take_entry v.parts p) moved came w a
    pub input : w.input ≡ v.input

  abbrev pub TakenBy : Option Playing → Life P S → Bool → Turn → Life P S → Type 0
  TakenBy None v moved a w = (a ≡ answer moved) × (w ≡ v)
  TakenBy (Some p) v moved a w = TakeAsked v p moved a w

  -- exactly one where it takes, none else
  abbrev pub Taken : Life P S → Bool → Turn → Life P S → Type 0
  Taken v moved a w =
      ((c : Core) × IsFilled v.parts c × TakenBy (takes c) (life c v.input v.port v.seat) moved a w) ⊎ IsEnded end.OutOfMemory v a w

  -- ---- a call that waited is made
  pub record CallAsked (v : Life P S) (e : Entry) (came : Made) (w : Life P S) : Type 0 where
    pub place : ℕ
    pub there : v.parts.place ≡ Some place
    pub asked : asks v.port v.seat place e came w.port w.seat
    pub called : CallMade v e came w
    pub input : w.input ≡ v.input

  abbrev pub IsTried : Life P S → Entry → Result Bool End → Life P S → Type 0
  IsTried v e result m = (came : Made) × (CallAsked v e came m × TriedAs v came result m)

  -- the call that a message asked for, and then step 6
  abbrev pub AfterCall : Life P S → Made → Life P S → Turn → Life P S → Type 0
  AfterCall v (made.Answer r) m a w = (IsOthers v.parts m.parts × Taken m true a w × StandsOn v.parts m.parts) ⊎ IsEnded end.OutOfMemory m a w
  AfterCall v (made.Busy f) m a w = Taken m true a w
  AfterCall v (made.Worn f) m a w = IsEnded end.Worn m a w
  AfterCall v (made.OutOfMemory f) m a w = IsEnded end.OutOfMemory m a w

  abbrev pub CalledBy : Option Entry → Life P S → Turn → Life P S → Type 0
  CalledBy None v a w = Taken v true a w
  CalledBy (Some e) v a w = (came : Made) × ((m : Life P S) × (CallAsked v e came m × AfterCall v came m a w))

  module _ (desk : Ask → Grant) where
    -- ---- STEP 5: input is fed until a message is complete and handled, or none is left
    abbrev pub FedAs : FedBy → Life P S → Bool → Turn → Life P S → Type 0
    FedAs Quietly v moved a w =
        (c : Core) × (IsFed v.parts v.input c [] × Hears desk v.parts c false × Taken (life c [] v.port v.seat) (moved || not (is_nil v.input)) a w
        × StandsOnBefore desk v.parts c)
    FedAs Loudly v moved a w =
        (c : Core) × ((left : List ℕ) × (IsFed v.parts v.input c left × Hears desk v.parts c true × CalledBy c.kept (life c left v.port v.seat) a w
        × (length v.parts.x < length c.x) × StandsOnBefore desk v.parts c))
    FedAs (Stopping e) v moved a w =
        (c : Core) × (IsStopped v.parts v.input e c × IsEnded e (life c v.input v.port v.seat) a w)

    abbrev pub Fed : Life P S → Bool → Turn → Life P S → Type 0
    Fed v moved a w = (by : FedBy) × FedAs by v moved a w

    -- what a recv into an empty buffer answered
    abbrev pub CameAs : Came → Life P S → Bool → Turn → Life P S → Type 0
    CameAs (CameBytes b) v moved a w = Fed (life v.parts b v.port v.seat) true a w ⊎ IsEnded end.OutOfMemory v a w
    CameAs CameNotYet v moved a w = Taken v moved a w
    CameAs CameEnd v moved a w = IsEnded end.PeerClosed v a w
    CameAs CameFailed v moved a w = IsEnded end.LinkFault v a w

    module _ {L : Type 0} (hears : L → ℕ → Came → L → Type 0) where
      -- a recv into an empty buffer
      abbrev pub EmptyBy : Bool → Life P S → L → Bool → Turn → Life P S → L → Type 0
      EmptyBy true v l moved a w m = (came : Came) × (hears l 4096 came m × CameAs came v moved a w)
      EmptyBy false v l moved a w m = Fed v moved a w × (m ≡ l)

      abbrev pub InputBy : Bool → Life P S → L → Bool → Turn → Life P S → L → Type 0
      InputBy true v l moved a w m = EmptyBy (is_nil v.input) v l moved a w m
      InputBy false v l moved a w m = Taken v moved a w × (m ≡ l)

      abbrev pub Input : Life P S → L → Bool → Turn → Life P S → L → Type 0
      Input v l moved a w m = InputBy (is_hungry v.parts) v l moved a w m

      module _ (says : L → List ℕ → Said → L → Type 0) where
        -- ---- STEP 4: one send of the first 16,384 bytes pending, or of all
        abbrev pub SentAs : Said → Life P S → L → Bool → Turn → Life P S → L → Type 0
        SentAs (said.Took n) v l moved a w m = (c : Core) × (IsSent v.parts n c × Input (life c v.input v.port v.seat) l true a w m × StandsOn v.parts c)
        SentAs said.NotYet v l moved a w m = Input v l moved a w m
        SentAs said.Failed v l moved a w m = IsEnded end.LinkFault v a w × (m ≡ l)
        SentAs said.OutOfMemory v l moved a w m = IsEnded end.OutOfMemory v a w × (m ≡ l)

        abbrev pub SendBy : Bool → Life P S → L → Bool → Turn → Life P S → L → Type 0
        SendBy true v l moved a w m = Input v l moved a w m
        SendBy false v l moved a w m = (q : Said) × ((k : L) × (says l (take 16384 (pending v.parts.outgoing)) q k × SentAs q v k moved a w m))

        abbrev pub Sent : Life P S → L → Bool → Turn → Life P S → L → Type 0
        Sent v l moved a w m =
            ((c : Core) × (IsFilled v.parts c × SendBy (is_nil (pending c.outgoing)) (life c v.input v.port v.seat) l moved a w m))
            ⊎ (IsEnded end.OutOfMemory v a w × (m ≡ l))

        -- ---- STEP 3: it was told to end
        abbrev pub QuitBy : Bool → Life P S → L → Bool → Turn → Life P S → L → Type 0
        QuitBy true v l moved a w m = IsEnded end.Quit v a w × (m ≡ l)
        QuitBy false v l moved a w m = Sent v l moved a w m

        -- ---- STEP 2: the call that waits is made. Where it is busy again, the turn does nothing else
        abbrev pub AfterKept : Bool → Life P S → Made → Life P S → L → Turn → Life P S → L → Type 0
        AfterKept quit v (made.Answer r) k l a w m =
            (IsOthers v.parts k.parts × QuitBy quit k l true a w m × StandsOn v.parts k.parts) ⊎ (IsEnded end.OutOfMemory k a w × (m ≡ l))
        AfterKept quit v (made.Busy f) k l a w m = (a ≡ Idle) × (w ≡ k) × (m ≡ l)
        AfterKept quit v (made.Worn f) k l a w m = IsEnded end.Worn k a w × (m ≡ l)
        AfterKept quit v (made.OutOfMemory f) k l a w m = IsEnded end.OutOfMemory k a w × (m ≡ l)

        abbrev pub KeptBy : Option Entry → Bool → Life P S → L → Turn → Life P S → L → Type 0
        KeptBy None quit v l a w m = QuitBy quit v l false a w m
        KeptBy (Some e) quit v l a w m = (came : Made) × ((k : Life P S) × (CallAsked v e came k × AfterKept quit v came k l a w m))

        -- ---- STEP 1: a session that has ended answers the same end
        abbrev pub EndedBy : Option End → Bool → Life P S → L → Turn → Life P S → L → Type 0
        EndedBy (Some e) quit v l a w m = (a ≡ Ended e) × (w ≡ v) × (m ≡ l)
        EndedBy None quit v l a w m = KeptBy v.parts.kept quit v l a w m
