-- WHAT A CLIENT OWES for the bytes that it was sent and what it was given, all at once. It knows no cutting of either.
use Rattle.std.specs.Prelude.{◌≡◌, ◌≤◌, ◌<◌, ◌^◌, ℕ, ◌-◌, ◌+◌, true, nat_le, if◌then◌else◌, List, [], ◌∷◌, ◌++◌, length, map, take, drop, replicate, Option, Some, None}
use Rattle.chunk_wire.specs.declared.message.Message.{Message}
use Rattle.chunk_writer.specs.WriterKnown as writer
use Rattle.chunk_writer.specs.Written.{written}
use Rattle.flv_tags.specs.Layout.{is_kind}
use Rattle.session_owed.specs.Acks.{acks_at}
use Rattle.session_owed.specs.Owed.{upto}
use Rattle.session_owed.specs.Talk.{hand_bytes, says_at}
use Rattle.client_owed.specs.declared.types.Wish.{Wish}
use Rattle.client_owed.specs.declared.types.Wish.TheVariants as wish
use Rattle.client_owed.specs.declared.types.Asked.{Asked}
use Rattle.client_owed.specs.declared.types.Gave.{Gave}
use Rattle.client_owed.specs.declared.types.Given.{Given}
use Rattle.client_owed.specs.declared.types.Given.TheVariants.{Send, Finish}
use Rattle.client_owed.specs.declared.types.Phase.{Phase}
use Rattle.client_owed.specs.declared.types.Phase.TheVariants.{Connecting, Creating, Asking, Started}
use Rattle.client_owed.specs.Client.{connect, delete_stream, does}

-- ---- what it is given

-- the message of what is given, on the message stream that was created
abbrev pub sent_on : ℕ → Given → Message
sent_on id (Send t) = record { kind = t.kind; stream = id; time = t.time; body = t.body }
sent_on id Finish = delete_stream id

-- the place of the message among those of the answers, which count bytes of chunks
abbrev pub gave_on : ℕ → Gave → ℕ × List Message
gave_on id g = (g.at - hand_bytes, sent_on id g.given ∷ [])

-- ---- the handshake

-- C0 and C1 (5.2.2, 5.2.3): the version, the time 0, zeros, and 1,528 bytes that are zero too (own)
abbrev pub hello : List ℕ
hello = 3 ∷ replicate 1536 0

-- S1: the 1,536 bytes after S0
abbrev pub s1 : List ℕ → List ℕ
s1 y = take 1536 (drop 1 y)

-- C2 (5.2.4): the time of S1, the time 0 at which it was read (own), and the random bytes of S1
abbrev pub c2 : List ℕ → List ℕ
c2 y = take 4 (s1 y) ++ (replicate 4 0 ++ drop 8 (s1 y))

-- ---- the dialogue

-- the window with which a client begins (own)
abbrev pub first_window : ℕ
first_window = 2500000

-- the message stream that was created
abbrev pub id_of : Phase → ℕ
id_of Connecting = 0
id_of Creating = 0
id_of (Asking id) = id
id_of (Started id) = id

module _ (k : Asked) where
  -- where the dialogue stands after these messages
  unfoldable pub phase_after : Phase → List (ℕ × Message) → Phase
  phase_after p [] = p
  phase_after p (m ∷ ms) = phase_after (does k p m.1).phase ms

  -- what each of them is answered, with its place
  unfoldable pub said_after : Phase → List (ℕ × Message) → List (ℕ × List Message)
  said_after p [] = []
  said_after p (m ∷ ms) = (m.0, (does k p m.1).says) ∷ said_after (does k p m.1).phase ms

  -- where it stands after all that was read
  abbrev pub phase_of : List (ℕ × Message) → Phase
  phase_of ms = phase_after Connecting ms

  -- ---- what it owes

  -- what is owed at a count of bytes: the acknowledgement, the answers, and what was given then
  unfoldable pub at_count : List (ℕ × Message) → List Gave → ℕ → List Message
  at_count ms T n = acks_at first_window ms n ++ (says_at n (said_after Connecting ms) ++ says_at n (map (gave_on (id_of (phase_of ms))) T))

  -- THE MESSAGES OWED after n bytes of chunks that read as the messages ms: connect, and what stands at each count
  unfoldable pub owed : ℕ → List (ℕ × Message) → List Gave → List Message
  owed n ms T = connect k ∷ upto (at_count ms T) n

  -- THE BYTES OWED for the bytes y: the handshake, and once that of the server is there, these messages by
  -- the writer's rule
  unfoldable pub out : List ℕ → List (ℕ × Message) → List Gave → List ℕ
  out y ms T = hello ++ (if nat_le hand_bytes (length y) then c2 y ++ written writer.fresh (owed (length y - hand_bytes) ms T) else [])

-- ---- what a client may be given

-- nothing comes after a finish
abbrev pub EndsAt : Given → List Gave → Type 0
EndsAt (Send t) T = Unit {0}
EndsAt Finish T = T ≡ []

-- a tag is given to a client that publishes, is of a type that is sent, and isn't longer than the longest message
abbrev pub MayGive : Wish → ℕ → Given → Type 0
MayGive w max (Send t) = (w ≡ wish.Push) × (is_kind t.kind ≡ true) × (length t.body ≤ max) × (t.time < 2 ^ 32)
MayGive w max Finish = Unit {0}

-- their places rise from one count to another
abbrev pub Follow : Wish → ℕ → ℕ → ℕ → List Gave → Type 0
Follow w max from to [] = from ≤ to
Follow w max from to (g ∷ T) = (from ≤ g.at) × MayGive w max g.given × EndsAt g.given T × Follow w max g.at to T

abbrev pub start_if : Phase → ℕ → Option ℕ → Option ℕ
start_if (Started id) n later = Some n
start_if _ n later = later

-- the place of the message by which the client has started
unfoldable pub start_from : Asked → Phase → List (ℕ × Message) → Option ℕ
start_from k p [] = None
start_from k p (m ∷ ms) = start_if (does k p m.1).phase m.0 (start_from k (does k p m.1).phase ms)

-- IT MAY BE GIVEN THESE after n bytes of chunks that read as the messages ms: each since it has started
abbrev pub AreGiven : Asked → ℕ → ℕ → List (ℕ × Message) → List Gave → Type 0
AreGiven k max n ms [] = Unit {0}
AreGiven k max n ms (g ∷ T) = (s : ℕ) × (start_from k Connecting ms ≡ Some s) × Follow k.wish max (hand_bytes + s) (hand_bytes + n) (g ∷ T)
