-- The dialogue of a client: what it says to publish or play a stream, by what its server tells it (RTMP 1.0,
-- section 7.2).
use Rattle.std.specs.Prelude.{ℕ, ◌+◌, ◌-◌, ◌/◌, ◌%◌, ◌^◌, nat_lt, List, [], ◌∷◌, ◌++◌, codes, Option, Some, None, ◌==◌, ◌&&◌, if◌then◌else◌, Bool, Result, Ok, Err}
use Rattle.amf0_value.specs.Tree.{Tree, number, text, object, null, member, no_members, Items, no_items, item}
use Rattle.amf0_value.specs.Pattern.{pattern}
use Rattle.amf0_value.specs.Encoding.{items_spelling}
use Rattle.rtmp_command.specs.declared.command.CommandFail.{CommandFail}
use Rattle.chunk_wire.specs.declared.message.Message.{Message}
use Rattle.ack_window.specs.declared.control.Control.{Control}
use Rattle.ack_window.specs.declared.control.Control.TheVariants as control
use Rattle.ack_window.specs.declared.control.BadControl.{BadControl}
use Rattle.ack_window.specs.Controls.{control_in, message_of, ping_answer_of}
use Rattle.client_owed.specs.declared.types.Wish.{Wish}
use Rattle.client_owed.specs.declared.types.Wish.TheVariants as wish
use Rattle.client_owed.specs.declared.types.Asked.{Asked}
use Rattle.client_owed.specs.declared.types.News.{News}
use Rattle.client_owed.specs.declared.types.News.TheVariants.{Done, Status}
use Rattle.client_owed.specs.declared.types.Phase.{Phase}
use Rattle.client_owed.specs.declared.types.Phase.TheVariants.{Connecting, Creating, Asking, Started}
use Rattle.client_owed.specs.News.{is_text, news_in}

-- ---- what it says

-- a command with these values
abbrev pub command : ℕ → Items → Message
command stream vs = record { kind = 20; stream = stream; time = 0; body = items_spelling vs }

-- name and transaction before the other values
abbrev pub called : List ℕ → ℕ → Items → Items
called name transaction more = item (text name) (item (number (pattern transaction)) more)

-- the program, in the form that servers know (own)
abbrev pub flash_ver : List ℕ
flash_ver = codes "FMLE/3.0 (compatible; relay)"

-- the app at its server, whose address is as it was dialled
abbrev pub tc_url : Asked → List ℕ
tc_url k = codes "rtmp://" ++ (k.address ++ (codes "/" ++ k.app))

-- what a client tells of itself: of the pairs that 7.2.1.1 has those that servers ask for
abbrev pub described : Asked → Tree
described k = object (member (codes "app") (text k.app) (member (codes "flashVer") (text flash_ver) (member (codes "tcUrl") (text (tc_url k)) no_members)))

-- 7.2.1.1
abbrev pub connects : Asked → Items
connects k = called (codes "connect") 1 (item (described k) no_items)

abbrev pub connect : Asked → Message
connect k = command 0 (connects k)

-- 7.2.1.3
abbrev pub creates : Items
creates = called (codes "createStream") 2 (item null no_items)

abbrev pub create_stream : Message
create_stream = command 0 creates

-- 7.2.2.6 and 7.2.2.1
abbrev pub asks : Wish → List ℕ → Items
asks wish.Push name = called (codes "publish") 3 (item null (item (text name) (item (text (codes "live")) no_items)))
asks wish.Pull name = called (codes "play") 3 (item null (item (text name) no_items))

abbrev pub ask : Asked → ℕ → Message
ask k id = command id (asks k.wish k.name)

-- 7.2.2.3
abbrev pub deletes : ℕ → Items
deletes id = called (codes "deleteStream") 4 (item null (item (number (pattern id)) no_items))

abbrev pub delete_stream : ℕ → Message
delete_stream id = command 0 (deletes id)

-- the chunks of a client have 4,096 bytes of payload once it is connected (own)
abbrev pub chunk_size : Message
chunk_size = message_of (control.ChunkSize 4096)

-- the code of the status by which it has started
abbrev pub start_code : Wish → List ℕ
start_code wish.Push = codes "NetStream.Publish.Start"
start_code wish.Pull = codes "NetStream.Play.Start"

-- ---- what a message does

-- where the dialogue stands then, and what is said
pub record Did : Type 0 where
  pub phase : Phase
  pub says : List Message

abbrev pub stays : Phase → Did
stays p = record { phase = p; says = [] }

-- the whole number whose pattern this is, if there is one
abbrev pub whole : ℕ → ℕ
whole bits = (2 ^ 52 + bits % 2 ^ 52) / 2 ^ (1075 - bits / 2 ^ 52)

-- that number is a message stream id
abbrev pub is_id : ℕ → Bool
is_id bits = (pattern (whole bits) == bits) && (nat_lt 0 (whole bits) && nat_lt (whole bits) (2 ^ 32))

-- the message stream that was created is asked for
abbrev pub created : Asked → Option ℕ → Did
created k (Some bits) = if is_id bits then record { phase = Asking (whole bits); says = ask k (whole bits) ∷ [] } else stays Creating
created k None = stays Creating

-- by what is made known: each of the three answers counts once, in its turn
abbrev pub learns : Asked → Phase → News → Did
learns k Connecting (Done n v) = if n == pattern 1 then record { phase = Creating; says = chunk_size ∷ create_stream ∷ [] } else stays Connecting
learns k Creating (Done n v) = if n == pattern 2 then created k v else stays Creating
learns k (Asking id) (Status code) = if is_text code (start_code k.wish) then stays (Started id) else stays (Asking id)
learns k p _ = stays p

abbrev pub learns_by : Asked → Phase → Result News CommandFail → Did
learns_by k p (Ok n) = learns k p n
learns_by k p (Err e) = stays p

-- the answer to a ping request (7.1.7)
abbrev pub pongs : Option Control → List Message
pongs None = []
pongs (Some c) = message_of c ∷ []

-- a control message, or a command, which has type 20 (7.1.1)
abbrev pub does_by : Asked → Phase → Message → Result (Option Control) BadControl → Did
does_by k p m (Ok None) = if m.kind == 20 then learns_by k p (news_in m.body) else stays p
does_by k p m (Ok (Some c)) = record { phase = p; says = pongs (ping_answer_of c) }
does_by k p m (Err e) = stays p

-- WHAT A MESSAGE DOES
unfoldable pub does : Asked → Phase → Message → Did
does k p m = does_by k p m (control_in m)
