-- What a client that plays is told of the items that its session was sent
use Rattle.std.specs.Prelude.{◌≡◌, ◌<◌, ◌≤◌, ◌^◌, ◌+◌, ◌-◌, ℕ, true, if◌then◌else◌, List, [], ◌∷◌, ◌++◌, length, drop}
use Rattle.std.specs.Option.{is_some}
use Rattle.av_unit.specs.Classes.{message_type}
use Rattle.av_unit.specs.declared.item.Item.{Item}
use Rattle.av_unit.specs.declared.item.Item.TheVariants as item
use Rattle.chunk_reader.specs.Sound.{IsRead}
use Rattle.chunk_writer.specs.WriterKnown.{fresh}
use Rattle.chunk_writer.specs.Written.{written}
use Rattle.chunk_law.specs.ReadBack.{AreReadable}
use Rattle.chunk_wire.specs.declared.message.Message.{Message}
use Rattle.command_dialog.specs.State.{State, playing_in}
use Rattle.stream_model.specs.declared.replies.Reply.{Reply}
use Rattle.stream_model.specs.declared.replies.Reply.TheVariants as reply
use Rattle.session_owed.specs.Dialogue.{Dialogue}
use Rattle.session_owed.specs.Owed as session
use Rattle.session_owed.specs.Talk.{Own, hand_bytes, is_take, talk}
use Rattle.session_owed.specs.Talks as talks
use Rattle.client_owed.specs.declared.types.Gift.{Gift}
use Rattle.client_owed.specs.declared.types.Gift.TheVariants as gift
use Rattle.client_owed.specs.declared.types.Asked.{Asked}
use Rattle.client_owed.specs.declared.types.Gave.{Gave}
use Rattle.client_owed.specs.declared.types.Phase.TheVariants.{Started}
use Rattle.client_owed.specs.Owed.{AreGiven, out, owed}
use Rattle.client_law.specs.Laws.{IsNamed}
use Rattle.client_owed.specs.Pulled.{gift_in, pulled}
use Rattle.client_law.specs.Loud.{Rise, bare}

-- what an item tells
abbrev pub gift_of : Item → Gift
gift_of item.Begin = gift.Published
gift_of (item.Unit u) = gift.Tag (record { kind = message_type u.kind; time = u.time; body = u.body })
gift_of item.End = gift.Unpublished

-- the item that a reply brings
abbrev pub item_in : Reply → List Item
item_in (reply.Sent from n item) = item ∷ []
item_in _ = []

-- the item that a call was sent, where it is a Take
abbrev pub item_for : Own → List Item
item_for c = if is_take c.0.call then item_in c.1 else []

-- THE ITEMS that these calls were sent, in their order
unfoldable pub items_sent : List Own → List Item
items_sent [] = []
items_sent (c ∷ C) = item_for c ++ items_sent C

-- what they tell
unfoldable pub gifts_of : List Item → List Gift
gifts_of [] = []
gifts_of (i ∷ is) = gift_of i ∷ gifts_of is

-- what messages tell a client that has started on a message stream
unfoldable pub gifts_in : ℕ → List Message → List Gift
gifts_in id [] = []
gifts_in id (m ∷ ms) = gift_in (Started id) m ++ gifts_in id ms

-- a play is granted
abbrev pub Plays : State → Type 0
Plays s = is_some (playing_in s.phase) ≡ true

-- THEY HAVE READ EACH OTHER so far: the client the messages ns, with which the session's begin, in n bytes of
-- chunks, and the session the messages ms, with which the client's begin, in o bytes of chunks. The places of
-- the session's calls rise, and its Takes were made while a play was granted
pub record HaveHeard (k : Asked) (d : Dialogue State) (max n o : ℕ) (ns ms : List (ℕ × Message)) (T : List Gave) (C : List Own) : Type 0 where
  pub named : IsNamed k
  pub rise : Rise 0 n ns
  pub rose : Rise 0 o ms
  pub given : AreGiven k max n ns T
  pub rest : List Message
  pub heard : bare ms ++ rest ≡ owed k n ns T
  pub later : List Message
  pub told : bare ns ++ later ≡ session.owed d o ms C
  pub plays : talks.Rise d (talk d C ms).states hand_bytes (hand_bytes + o) C

-- THE FIRST BYTES OF EACH HAVE COME TO THE OTHER, which take messages of up to max bytes, and what the
-- session owes can be read. It made no call in the handshake, the places of its calls rise, and its Takes
-- were made while a play was granted
pub record HavePlayed (k : Asked) (d : Dialogue State) (max : ℕ) (x y : List ℕ) (ms ns : List (ℕ × Message)) (T : List Gave) (C : List Own) : Type 0 where
  pub named : IsNamed k
  pub least : 4096 ≤ max
  pub most : max ≤ 4194304
  pub given : AreGiven k max (length y - hand_bytes) ns T
  pub rest : List ℕ
  pub sent : x ++ rest ≡ out k y ns T
  pub left : List ℕ
  pub told : y ++ left ≡ session.out d x ms C
  pub session_read : IsRead max (drop hand_bytes x) ms
  pub client_read : IsRead max (drop hand_bytes y) ns
  pub client_near : length (written fresh (owed k (length y - hand_bytes) ns T)) ≤ 2 ^ 62
  pub session_says : AreReadable max (session.owed d (session.count_of d x) ms C)
  pub session_near : length (written fresh (session.owed d (session.count_of d x) ms C)) ≤ 2 ^ 62
  pub early : length x < hand_bytes → C ≡ []
  pub plays : talks.Rise d (talk d C ms).states hand_bytes (hand_bytes + session.count_of d x) C

-- WHAT THE CLIENT WAS TOLD begins what the items tell that its session was sent
abbrev pub IsTold : Asked → List (ℕ × Message) → List Own → Type 0
IsTold k ns C = (later : List Gift) × (pulled k ns ++ later ≡ gifts_of (items_sent C))
