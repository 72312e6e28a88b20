-- ONE TURN OF A PLAYER, as a relation: by what the link and the port answered in it, each step with those after it
use Rattle.std.specs.Prelude.{◌≡◌, ◌⊎◌, ℕ, Bool, true, false, not, ◌||◌, List, [], ◌∷◌, ◌++◌, length, take, drop, Option, Some, None, Result, Ok, Err}
use Rattle.relay_outside.specs.Heard.{Came, CameBytes, CameEnd, CameNotYet, CameFailed}
use Rattle.relay_outside.specs.declared.link.Said.{Said}
use Rattle.relay_outside.specs.declared.link.Said.TheVariants as said
use Rattle.command_dialog.specs.declared.types.Ask.{Ask}
use Rattle.command_dialog.specs.declared.types.Grant.{Grant}
use Rattle.flv_tags.specs.Text.{item_bytes}
use Rattle.http_request.specs.Heads.{IsRead, Verdict}
use Rattle.http_request.specs.Texts.{code_of, text_of}
use Rattle.stream_model.specs.declared.calls.Entry.{Entry}
use Rattle.stream_model.specs.declared.replies.Reply.{Reply}
use Rattle.stream_model.specs.declared.replies.Reply.TheVariants as reply
use Rattle.session_owed.specs.Talk.{Own}
use Rattle.relay_session.specs.Turns.{is_nil, is_not_yet}
use Rattle.relay_session.specs.declared.seat_answers.Made.{Made}
use Rattle.relay_session.specs.declared.seat_answers.Made.TheVariants as made
use Rattle.http_flv.specs.Keeping.{HasEnded, IsOver, IsSound, IsTold, StandsBefore, after_join, join_entry, take_entry}
use Rattle.http_flv.specs.Out.{Decision, JoinAt, Later, Tell, decide, owed_after}
use Rattle.http_flv.specs.declared.core_fields.Core.{Core}
use Rattle.http_flv.specs.declared.end.HttpEnd.{HttpEnd}
use Rattle.http_flv.specs.declared.end.HttpEnd.TheVariants as end
use Rattle.http_flv.specs.declared.stage.Stage.{Stage}
use Rattle.http_flv.specs.declared.stage.Stage.TheVariants as stage
use Rattle.http_flv.specs.declared.turn.HttpTurn.{HttpTurn}
use Rattle.http_flv.specs.declared.turn.HttpTurn.TheVariants.{Moved, Idle, Ended}

-- a player that lives: what it keeps, the port, and where it stands there
pub record Life (P S : Type 0) : Type 0 where
  pub parts : Core
  pub port : P
  pub seat : S

abbrev pub life : {P S : Type 0} → Core → P → S → Life P S
life parts port seat = record { parts = parts; port = port; seat = seat }

abbrev pub answer : Bool → HttpTurn
answer true = Moved
answer false = Idle

-- ---- what the steps make of what it keeps

-- what is left of a player that has ended
pub record Gone : Type 0 where
  pub who : ℕ
  pub longest : ℕ
  pub x : List ℕ
  pub later : List ℕ
  pub calls : List Own
  pub sent : List ℕ
  pub kept : Option Entry

abbrev pub gone_of : Core → Gone
gone_of c = record { who = c.who; longest = c.longest; x = c.x; later = c.later; calls = c.calls; sent = c.sent; kept = c.kept }

-- the first bytes that are left were sent
pub record IsSent (c : Core) (n : ℕ) (d : Core) : Type 0 where
  pub rest : d ≡ record c { sent = c.sent ++ take n c.out.left; out = d.out }
  pub left : d.out.left ≡ drop n c.out.left

-- bytes came after the head, and are dropped
abbrev pub IsDropped : Core → List ℕ → Core → Type 0
IsDropped c b d = d ≡ record c { later = c.later ++ b }

-- there was no memory for bytes of a head, before they counted as read or after
abbrev pub IsUnheard : Core → List ℕ → Core → Type 0
IsUnheard c b d = (gone_of d ≡ gone_of c) ⊎ ((verdict : Verdict) × (IsRead d.x verdict × (gone_of d ≡ gone_of (record c { x = c.x ++ b }))))

-- what was decided: nothing, a text that is to be sent, or a Join that is to be made
abbrev pub IsDone : Decision → Core → Core → Type 0
IsDone Later c d = d.stage ≡ c.stage × (d.kept ≡ c.kept) × (d.out ≡ c.out)
IsDone (Tell r) c d = d.stage ≡ stage.Telling r × (d.kept ≡ c.kept) × (d.out.left ≡ text_of r)
IsDone (JoinAt place name) c d = d.stage ≡ stage.Joining place × (d.kept ≡ Some (join_entry c.who (length d.x) name)) × (d.out ≡ c.out)

-- a head is kept as long as nothing is decided
abbrev pub LeavesHead : Decision → List ℕ → List ℕ → Type 0
LeavesHead Later head head' = head' ≡ head
LeavesHead (Tell r) head head' = head' ≡ []
LeavesHead (JoinAt place name) head head' = head' ≡ []

-- bytes of a head came, and were read before this desk
pub record IsHeard (desk : Ask → Grant) (c : Core) (b : List ℕ) (d : Core) : Type 0 where
  pub rest : d ≡ record c { x = c.x ++ b; head = d.head; fed = d.fed; stage = d.stage; kept = d.kept; out = d.out }
  pub verdict : Verdict
  pub read : IsRead d.x verdict
  pub done : IsDone (decide desk verdict) c d

-- its Join was answered: it plays, and the text of that and an FLV's header are to be sent, or the text that
-- there is no place
pub record IsJoined (place : ℕ) (c : Core) (e : Entry) (r : Reply) (d : Core) : Type 0 where
  pub rest : d ≡ record c { calls = c.calls ++ (e, r) ∷ []; stage = after_join place r; kept = None; out = d.out }
  pub left : d.out.left ≡ owed_after r []

-- the bytes of a reply to a Take
abbrev pub reply_bytes : Reply → List ℕ
reply_bytes (reply.Sent from n item) = item_bytes item
reply_bytes _ = []

-- its Take was answered, and the tag of the item that it was sent, if it has one, is to be sent
pub record IsTaken (c : Core) (e : Entry) (r : Reply) (d : Core) : Type 0 where
  pub rest : d ≡ record c { calls = c.calls ++ (e, r) ∷ []; out = d.out }
  pub left : d.out.left ≡ reply_bytes r

-- it is playing
abbrev pub IsPlaying : Stage → Type 0
IsPlaying (stage.Playing place player) = Unit {0}
IsPlaying stage.Reading = ⊥
IsPlaying (stage.Joining place) = ⊥
IsPlaying (stage.Telling r) = ⊥

-- one call more, of which it heard no more
abbrev pub noted : Core → Entry → Reply → Core
noted c e r = record c { calls = c.calls ++ (e, r) ∷ [] }

-- the same of the Join that waited
abbrev pub unheard : Core → Entry → Reply → Core
unheard c e r = record c { calls = c.calls ++ (e, r) ∷ []; kept = None }

-- ---- how it ends

-- it ended so, and nothing else was received, sent or called
pub record IsEnded {P S : Type 0} (e : HttpEnd) (v : Life P S) (a : HttpTurn) (w : Life P S) : Type 0 where
  pub ended : a ≡ Ended e
  pub gone : gone_of w.parts ≡ gone_of v.parts
  pub port : w.port ≡ v.port
  pub seat : w.seat ≡ v.seat

-- what a turn leaves: a player that lives is sound, and stands for what it is owed
abbrev pub Lives : Core → HttpTurn → Type 0
Lives c Moved = IsSound c
Lives c Idle = IsSound c
Lives c (Ended e) = HasEnded c

-- what was sent of what it was owed, by how it ended
abbrev pub OverBy : (Ask → Grant) → Core → HttpEnd → Type 0
OverBy desk c (end.Answered code) = IsTold desk code c
OverBy desk c end.PeerClosed = IsOver desk c
OverBy desk c end.LinkFault = IsOver desk c
OverBy desk c end.Worn = IsOver desk c
OverBy desk c end.OutOfMemory = IsOver desk c
OverBy desk c end.Closed = IsOver desk c

abbrev pub Leaves : (Ask → Grant) → Core → HttpTurn → Type 0
Leaves desk c Moved = StandsBefore desk c
Leaves desk c Idle = StandsBefore desk c
Leaves desk c (Ended e) = OverBy desk c e

-- the same of a call that was tried: true where it was made
abbrev pub LivesTried : Core → Result Bool HttpEnd → Type 0
LivesTried c (Ok made) = IsSound c
LivesTried c (Err e) = HasEnded c

abbrev pub LeavesTried : (Ask → Grant) → Core → Result Bool HttpEnd → Type 0
LeavesTried desk c (Ok made) = StandsBefore desk c
LeavesTried desk c (Err e) = OverBy desk c e

-- the place and the player for which a Take is to be made: where it plays and nothing is pending
abbrev pub takes_at : Stage → Bool → Option (ℕ × ℕ)
takes_at (stage.Playing place player) true = Some (place, player)
takes_at (stage.Playing place player) false = None
takes_at stage.Reading nothing = None
takes_at (stage.Joining place) nothing = None
takes_at (stage.Telling r) nothing = None

abbrev pub takes : Core → Option (ℕ × ℕ)
takes c = takes_at c.stage (is_nil c.out.left)

-- the number of the text, other than 200, that was sent whole
abbrev pub told_at : Stage → Bool → Option ℕ
told_at (stage.Telling r) true = Some (code_of r)
told_at (stage.Telling r) false = None
told_at stage.Reading nothing = None
told_at (stage.Joining place) nothing = None
told_at (stage.Playing place player) nothing = None

abbrev pub told : Core → Option ℕ
told c = told_at c.stage (is_nil c.out.left)

-- the place that a waiting Join names
abbrev pub PlaceBy : Stage → ℕ → Type 0
PlaceBy (stage.Joining p) place = p ≡ place
PlaceBy stage.Reading place = ⊥
PlaceBy (stage.Telling r) place = ⊥
PlaceBy (stage.Playing p player) place = ⊥

module _ {P S : Type 0} (asks : P → S → ℕ → Entry → Made → P → S → Type 0) where
  -- ---- STEP 6: one Take

  -- what it was answered. A busy one isn't kept
  abbrev pub TakeMade : Life P S → Entry → Bool → Made → Life P S → HttpTurn → Type 0
  TakeMade v e moved (made.Answer r) w a =
      (IsTaken v.parts e r w.parts × (a ≡ answer (moved || not (is_not_yet r))))
      ⊎ ((gone_of w.parts ≡ gone_of (noted v.parts e r)) × (a ≡ Ended end.OutOfMemory))
  TakeMade v e moved (made.Busy f) w a = (w.parts ≡ v.parts) × (a ≡ answer moved)
  TakeMade v e moved (made.Worn f) w a = (w.parts ≡ v.parts) × (a ≡ Ended end.Worn)
  TakeMade v e moved (made.OutOfMemory f) w a = (w.parts ≡ v.parts) × (a ≡ Ended end.OutOfMemory)

  pub record TakeAsked (v : Life P S) (place player : ℕ) (moved : Bool) (a : HttpTurn) (w : Life P S) : Type 0 where
    pub came : Made
    pub asked : asks v.port v.seat place (take_entry v.parts.who (length v.parts.x) player) came w.port w.seat
    pub taken : TakeMade v (take_entry v.parts.who (length v.parts.x) player) moved came w a

  -- exactly one where it takes, none else
  abbrev pub TakenBy : Option (ℕ × ℕ) → Life P S → Bool → HttpTurn → Life P S → Type 0
  TakenBy None v moved a w = (a ≡ answer moved) × (w ≡ v)
  TakenBy (Some p) v moved a w = TakeAsked v p.0 p.1 moved a w

  abbrev pub Taken : Life P S → Bool → HttpTurn → Life P S → Type 0
  Taken v moved a w = TakenBy (takes v.parts) v moved a w

  -- ---- its Join, which waits until it is made

  pub record JoinAsked (v : Life P S) (e : Entry) (place : ℕ) (came : Made) (w : Life P S) : Type 0 where
    pub there : PlaceBy v.parts.stage place
    pub asked : asks v.port v.seat place e came w.port w.seat

  -- what became of it: it was answered, it waits on, or the player ends
  abbrev pub JoinMade : Life P S → ℕ → Entry → Made → Result Bool HttpEnd → Life P S → Type 0
  JoinMade v place e (made.Answer r) result w =
      ((result ≡ Ok true) × IsJoined place v.parts e r w.parts)
      ⊎ ((result ≡ Err end.OutOfMemory) × (gone_of w.parts ≡ gone_of (unheard v.parts e r)))
  JoinMade v place e (made.Busy f) result w = (result ≡ Ok false) × (w.parts ≡ v.parts)
  JoinMade v place e (made.Worn f) result w = (result ≡ Err end.Worn) × (w.parts ≡ v.parts)
  JoinMade v place e (made.OutOfMemory f) result w = (result ≡ Err end.OutOfMemory) × (w.parts ≡ v.parts)

  pub record IsTried (v : Life P S) (e : Entry) (result : Result Bool HttpEnd) (w : Life P S) : Type 0 where
    pub place : ℕ
    pub came : Made
    pub asked : JoinAsked v e place came w
    pub became : JoinMade v place e came result w

  -- the Join that was asked for, and then step 6. A busy one waits
  abbrev pub AfterJoin : Result Bool HttpEnd → Life P S → HttpTurn → Life P S → Type 0
  AfterJoin (Ok made) m a w = Taken m true a w
  AfterJoin (Err e) m a w = IsEnded e m a w

  abbrev pub JoinedBy : Option Entry → Life P S → HttpTurn → Life P S → Type 0
  JoinedBy None v a w = Taken v true a w
  JoinedBy (Some e) v a w = (result : Result Bool HttpEnd) × ((m : Life P S) × (IsTried v e result m × AfterJoin result m a w))

  module _ (desk : Ask → Grant) where
    -- ---- STEP 5: one recv

    -- a head is read before this desk; there may be no memory for it, before its bytes count as fed or after
    abbrev pub HeardBy : List ℕ → Life P S → HttpTurn → Life P S → Type 0
    HeardBy b v a w =
        ((c : Core) × (IsHeard desk v.parts b c × JoinedBy c.kept (life c v.port v.seat) a w))
        ⊎ ((c : Core) × (IsUnheard v.parts b c × IsEnded end.OutOfMemory (life c v.port v.seat) a w))

    -- and bytes after it are dropped
    abbrev pub DroppedBy : List ℕ → Life P S → HttpTurn → Life P S → Type 0
    DroppedBy b v a w = (c : Core) × (IsDropped v.parts b c × Taken (life c v.port v.seat) true a w)

    abbrev pub ReadBy : Stage → List ℕ → Life P S → HttpTurn → Life P S → Type 0
    ReadBy stage.Reading b v a w = HeardBy b v a w
    ReadBy (stage.Joining place) b v a w = DroppedBy b v a w
    ReadBy (stage.Telling r) b v a w = DroppedBy b v a w
    ReadBy (stage.Playing place player) b v a w = DroppedBy b v a w

    abbrev pub CameAs : Came → Life P S → Bool → HttpTurn → Life P S → Type 0
    CameAs (CameBytes b) v moved a w = ReadBy v.parts.stage b v a w
    CameAs CameNotYet v moved a w = Taken v moved a w
    CameAs CameEnd v moved a w = IsEnded end.PeerClosed v a w
    CameAs CameFailed v moved a w = IsEnded end.LinkFault v a w

    module _ {L : Type 0} (hears : L → ℕ → Came → L → Type 0) where
      abbrev pub Input : Life P S → L → Bool → HttpTurn → Life P S → L → Type 0
      Input v l moved a w m = (came : Came) × (hears l 4096 came m × CameAs came v moved a w)

      module _ (says : L → List ℕ → Said → L → Type 0) where
        -- ---- STEP 4: one send of the first 16,384 bytes pending, or of all. Where a text other than 200 was
        -- then sent whole it ends
        abbrev pub ToldBy : Option ℕ → Life P S → L → HttpTurn → Life P S → L → Type 0
        ToldBy None v l a w m = Input v l true a w m
        ToldBy (Some code) v l a w m = IsEnded (end.Answered code) v a w × (m ≡ l)

        abbrev pub SentAs : Said → Life P S → L → Bool → HttpTurn → Life P S → L → Type 0
        SentAs (said.Took n) v l moved a w m = (c : Core) × (IsSent v.parts n c × ToldBy (told c) (life c v.port v.seat) l a w m)
        SentAs said.NotYet v l moved a w m = Input v l moved a w m
        SentAs said.Failed v l moved a w m = IsEnded end.LinkFault v a w × (m ≡ l)
        SentAs said.OutOfMemory v l moved a w m = IsEnded end.OutOfMemory v a w × (m ≡ l)

        abbrev pub SendBy : Bool → Life P S → L → Bool → HttpTurn → Life P S → L → Type 0
        SendBy true v l moved a w m = Input v l moved a w m
        SendBy false v l moved a w m = (q : Said) × ((k : L) × (says l (take 16384 v.parts.out.left) q k × SentAs q v k moved a w m))

        abbrev pub Sent : Life P S → L → Bool → HttpTurn → Life P S → L → Type 0
        Sent v l moved a w m = SendBy (is_nil v.parts.out.left) v l moved a w m

        -- ---- STEP 2: the Join that waits is made. Where it is busy again, the turn does nothing else
        abbrev pub AfterKept : Result Bool HttpEnd → Life P S → L → HttpTurn → Life P S → L → Type 0
        AfterKept (Ok true) k l a w m = Sent k l true a w m
        AfterKept (Ok false) k l a w m = (a ≡ Idle) × (w ≡ k) × (m ≡ l)
        AfterKept (Err e) k l a w m = IsEnded e k a w × (m ≡ l)

        abbrev pub KeptOn : Option Entry → Life P S → L → HttpTurn → Life P S → L → Type 0
        KeptOn None v l a w m = Sent v l false a w m
        KeptOn (Some e) v l a w m = (result : Result Bool HttpEnd) × ((k : Life P S) × (IsTried v e result k × AfterKept result k l a w m))

        -- ---- STEP 1: a player that has ended answers the same end
        abbrev pub EndedBy : Option HttpEnd → Life P S → L → HttpTurn → Life P S → L → Type 0
        EndedBy (Some e) v l a w m = (a ≡ Ended e) × (w ≡ v) × (m ≡ l)
        EndedBy None v l a w m = KeptOn v.parts.kept v l a w m
