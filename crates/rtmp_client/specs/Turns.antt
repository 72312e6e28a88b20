-- ONE TURN OF A CLIENT, as a relation: by what the link answered in it, each step with those after it
use Rattle.std.specs.Prelude.{◌≡◌, ◌⊎◌, ℕ, ◌<◌, Bool, true, false, not, ◌&&◌, ◌||◌, nat_le, List, [], ◌∷◌, drop, length, take, Option, Some, None, is_some, Result, Ok, Err}
use Rattle.relay_outside.specs.Heard.{Came, CameBytes, CameEnd, CameNotYet, CameFailed}
use Rattle.relay_outside.specs.declared.link.Said.{Said}
use Rattle.relay_outside.specs.declared.link.Said.TheVariants as said
use Rattle.chunk_reader.specs.Sound.{IsRead}
use Rattle.rtmp_handshake.specs.Answer.{bad_version}
use Rattle.session_owed.specs.Talk.{hand_bytes}
use Rattle.client_owed.specs.declared.types.Asked.{Asked}
use Rattle.client_owed.specs.declared.types.Gave.{Gave}
use Rattle.client_owed.specs.declared.types.Gift.{Gift}
use Rattle.client_owed.specs.declared.types.Phase.{Phase}
use Rattle.rtmp_client.specs.Feeding.{Hears, IsFed, IsSent, IsStopped}
use Rattle.rtmp_client.specs.Keeping.{StandsNow}
use Rattle.rtmp_client.specs.declared.core_fields.Core.{Core}
use Rattle.rtmp_client.specs.declared.end.ClientEnd.{ClientEnd}
use Rattle.rtmp_client.specs.declared.end.ClientEnd.TheVariants as end
use Rattle.rtmp_client.specs.declared.end.ClientTurn.{ClientTurn}
use Rattle.rtmp_client.specs.declared.end.ClientTurn.TheVariants.{Moved, Idle, Ended}

-- a client: what it keeps, and the bytes received and not fed
pub record Life : Type 0 where
  pub parts : Core
  pub input : List ℕ

abbrev pub life : Core → List ℕ → Life
life parts input = record { parts = parts; input = input }

-- the answer of a turn by what it comes to: whether something moved, or why the client has ended
abbrev pub turn_of : Result Bool ClientEnd → ClientTurn
turn_of (Ok true) = Moved
turn_of (Ok false) = Idle
turn_of (Err e) = Ended

abbrev pub end_of : Result Bool ClientEnd → Option ClientEnd
end_of (Ok moved) = None
end_of (Err e) = Some e

-- ---- what a turn asks of a client

abbrev pub is_nil : List ℕ → Bool
is_nil [] = true
is_nil (b ∷ l) = false

-- IT TAKES INPUT where no gift waits and at most 8,192 of the bytes pending are of no tag
abbrev pub is_hungry : Core → Bool
is_hungry c = not (is_some c.gift) && nat_le c.outgoing.others 8192

-- IT IS DONE where it was finished and nothing is pending
abbrev pub is_done : Core → Bool
is_done c = c.finished && is_nil c.outgoing.pending

-- IT STANDS FOR THE BYTES FED: their version is taken, they are counted, the messages read are theirs, and
-- what was sent and what is pending is what it owes for them
pub record StandsFed (c : Core) : Type 0 where
  pub version : bad_version c.y ≡ None
  pub counted : c.fed ≡ length c.y
  pub read : IsRead c.reader.max (drop hand_bytes c.y) c.reader.given
  pub stands : StandsNow c

-- ---- how it ends

-- what is left of a client that has ended
pub record Gone : Type 0 where
  pub asked : Asked
  pub max : ℕ
  pub y : List ℕ
  pub gave : List Gave
  pub sent : List ℕ
  pub taken : List Gift
  pub gift : Option Gift
  pub finished : Bool
  pub fed : ℕ
  pub phase : Phase
  pub pending : List ℕ

abbrev pub gone_of : Core → Gone
gone_of c = record {
  asked = c.asked;
  max = c.reader.max;
  y = c.y;
  gave = c.gave;
  sent = c.sent;
  taken = c.taken;
  gift = c.gift;
  finished = c.finished;
  fed = c.fed;
  phase = c.phase;
  pending = c.outgoing.pending;
}

-- it ended so, and nothing else was received, sent or fed
pub record IsEnded (e : ClientEnd) (v : Life) (a : Result Bool ClientEnd) (w : Life) : Type 0 where
  pub ended : a ≡ Err e
  pub gone : gone_of w.parts ≡ gone_of v.parts

-- what the feeding of a buffer did: it ended no message, or one, or the client
pub data FedBy : Type 0 where
  Quietly : FedBy
  Loudly : FedBy
  Stopping : ClientEnd → FedBy

-- ---- STEP 4: input is fed until a message is complete and handled, or none is left
abbrev pub FedAs : FedBy → Life → Bool → Result Bool ClientEnd → Life → Type 0
FedAs Quietly v moved a w =
    IsFed v.parts v.input w.parts [] × Hears v.parts w.parts false × (w.input ≡ []) × (a ≡ Ok (moved || not (is_nil v.input))) × StandsFed w.parts
FedAs Loudly v moved a w =
    IsFed v.parts v.input w.parts w.input × Hears v.parts w.parts true × (length v.parts.y < length w.parts.y) × (a ≡ Ok true) × StandsFed w.parts
FedAs (Stopping e) v moved a w = IsStopped v.parts v.input e w.parts × (a ≡ Err e)

abbrev pub Fed : Life → Bool → Result Bool ClientEnd → Life → Type 0
Fed v moved a w = (by : FedBy) × FedAs by v moved a w

-- what a recv into an empty buffer answered
abbrev pub CameAs : Came → Life → Bool → Result Bool ClientEnd → Life → Type 0
CameAs (CameBytes b) v moved a w = Fed (life v.parts b) true a w ⊎ IsEnded end.OutOfMemory v a w
CameAs CameNotYet v moved a w = (a ≡ Ok moved) × (w ≡ v)
CameAs CameEnd v moved a w = IsEnded end.PeerClosed v a w
CameAs CameFailed v moved a w = IsEnded end.LinkFault v a w

module _ {L : Type 0} (hears : L → ℕ → Came → L → Type 0) where
  -- ---- STEP 3: a recv into an empty buffer, where it takes input
  abbrev pub EmptyBy : Bool → Life → L → Bool → Result Bool ClientEnd → Life → L → Type 0
  EmptyBy true v l moved a w m = (came : Came) × (hears l 4096 came m × CameAs came v moved a w)
  EmptyBy false v l moved a w m = Fed v moved a w × (m ≡ l)

  abbrev pub InputBy : Bool → Life → L → Bool → Result Bool ClientEnd → Life → L → Type 0
  InputBy true v l moved a w m = EmptyBy (is_nil v.input) v l moved a w m
  InputBy false v l moved a w m = (a ≡ Ok moved) × (w ≡ v) × (m ≡ l)

  abbrev pub Input : Life → L → Bool → Result Bool ClientEnd → Life → L → Type 0
  Input v l moved a w m = InputBy (is_hungry v.parts) v l moved a w m

  -- ---- STEP 2: it ends where it is done
  abbrev pub DoneBy : Bool → Life → L → Bool → Result Bool ClientEnd → Life → L → Type 0
  DoneBy true v l moved a w m = IsEnded end.Done v a w × (m ≡ l)
  DoneBy false v l moved a w m = Input v l moved a w m

  abbrev pub Finish : Life → L → Bool → Result Bool ClientEnd → Life → L → Type 0
  Finish v l moved a w m = DoneBy (is_done v.parts) v l moved a w m

  module _ (says : L → List ℕ → Said → L → Type 0) where
    -- ---- STEP 1: one send of the first 16,384 bytes pending, or of all
    abbrev pub SentAs : Said → Life → L → Result Bool ClientEnd → Life → L → Type 0
    SentAs (said.Took n) v l a w m = (c : Core) × (IsSent v.parts n c × Finish (life c v.input) l true a w m)
    SentAs said.NotYet v l a w m = Finish v l false a w m
    SentAs said.Failed v l a w m = IsEnded end.LinkFault v a w × (m ≡ l)
    SentAs said.OutOfMemory v l a w m = IsEnded end.OutOfMemory v a w × (m ≡ l)

    abbrev pub SendBy : Bool → Life → L → Result Bool ClientEnd → Life → L → Type 0
    SendBy true v l a w m = Finish v l false a w m
    SendBy false v l a w m = (q : Said) × ((k : L) × (says l (take 16384 v.parts.outgoing.pending) q k × SentAs q v k a w m))

    abbrev pub Sent : Life → L → Result Bool ClientEnd → Life → L → Type 0
    Sent v l a w m = SendBy (is_nil v.parts.outgoing.pending) v l a w m

    -- a client that has ended does nothing, and has ended as before
    abbrev pub EndedBy : Option ClientEnd → Life → L → Result Bool ClientEnd → Life → L → Type 0
    EndedBy (Some e) v l a w m = (a ≡ Err e) × (w ≡ v) × (m ≡ l)
    EndedBy None v l a w m = Sent v l a w m
