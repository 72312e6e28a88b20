-- What a control message says: types 1, 2, 3, 5 and 6 (RTMP 1.0, 5.4), and 4, user control (6.2, 7.1.7). What is named
-- own is this project's choice.
use Rattle.std.specs.Prelude.{◌≡◌, ◌⊎◌, ℕ, ◌<◌, ◌^◌, ◌==◌, nat_le, nat_lt, if◌then◌else◌}
use Rattle.std.specs.Prelude.{List, [], ◌∷◌, ◌++◌, length, drop, slice_index, find, Option, Some, None, Result, Ok, Err}
use Rattle.std.specs.Int.{bytes_high_first}
use Rattle.std.specs.Option.{option_map_or}
use Rattle.relay_base.specs.Numbers.{be16_of, be32_of}
use Rattle.chunk_wire.specs.declared.message.Message.{Message}
use Rattle.ack_window.specs.declared.control.Control.{Control}
use Rattle.ack_window.specs.declared.control.Control.TheVariants.{ChunkSize, Abort, Acknowledgement, User, Window, Bandwidth}
use Rattle.ack_window.specs.declared.control.BadControl.{BadControl}

-- a row of the table of control messages: the message type, how many bytes such a body has at least, and what it says
pub record Row : Type 0 where
  pub kind : ℕ
  pub least : List ℕ → ℕ
  pub says : List ℕ → Control

abbrev pub row_for : ℕ → (List ℕ → ℕ) → (List ℕ → Control) → Row
row_for kind least says = record { kind = kind; least = least; says = says }

-- the event of a user control message (6.2)
abbrev pub event_in : List ℕ → ℕ
event_in body = be16_of body

-- the four bytes after the event, or 0 where fewer stand there (own)
abbrev pub value_in : List ℕ → ℕ
value_in body = if nat_le 6 (length body) then be32_of (drop 2 body) else 0

-- how many bytes a user control message has at least: the event, and for event 6, a ping request, its value (7.1.7)
abbrev pub least_user : List ℕ → ℕ
least_user body = if event_in body == 6 then 6 else 2

-- THE TABLE. Longer bodies are accepted (own)
abbrev pub table : List Row
table =
    row_for 1 (λ _. 4) (λ body. ChunkSize (be32_of body))
    ∷ row_for 2 (λ _. 4) (λ body. Abort (be32_of body))
    ∷ row_for 3 (λ _. 4) (λ body. Acknowledgement (be32_of body))
    ∷ row_for 4 least_user (λ body. User (event_in body) (value_in body))
    ∷ row_for 5 (λ _. 4) (λ body. Window (be32_of body))
    ∷ row_for 6 (λ _. 5) (λ body. Bandwidth (be32_of body) (slice_index body 4))
    ∷ []

-- the row of a type
abbrev pub row_of : ℕ → Option Row
row_of kind = find (λ r. r.kind == kind) table

-- the refusal of a message
abbrev pub refusal : Message → BadControl
refusal m = record { kind = m.kind; length = length m.body }

-- an answer, or the refusal where the body has fewer bytes than this
abbrev pub unless_short : {X : Type 0} → Message → ℕ → X → Result X BadControl
unless_short m least x = if nat_lt (length m.body) least then Err (refusal m) else Ok x

-- what a message says by the row of its type
abbrev pub read_by : Option Row → Message → Result (Option Control) BadControl
read_by None m = Ok None
read_by (Some r) m = unless_short m (r.least m.body) (Some (r.says m.body))

-- WHAT A MESSAGE SAYS
unfoldable pub control_in : Message → Result (Option Control) BadControl
control_in m = read_by (row_of m.kind) m

-- how many bytes the body of a message has at least
unfoldable pub least_of : Message → ℕ
least_of m = option_map_or (λ r. r.least m.body) (row_of m.kind) 0

-- a type of no control message
abbrev pub IsOther : ℕ → Type 0
IsOther kind = (kind ≡ 0) ⊎ (6 < kind)

-- the message type of a control
abbrev pub kind_of : Control → ℕ
kind_of (ChunkSize _) = 1
kind_of (Abort _) = 2
kind_of (Acknowledgement _) = 3
kind_of (User _ _) = 4
kind_of (Window _) = 5
kind_of (Bandwidth _ _) = 6

-- the body in which it is written
abbrev pub body_of : Control → List ℕ
body_of (ChunkSize size) = bytes_high_first 4 size
body_of (Abort id) = bytes_high_first 4 id
body_of (Acknowledgement count) = bytes_high_first 4 count
body_of (User event value) = bytes_high_first 2 event ++ bytes_high_first 4 value
body_of (Window size) = bytes_high_first 4 size
body_of (Bandwidth size limit) = bytes_high_first 4 size ++ limit ∷ []

-- a message of the type of a control, with any body
abbrev pub with_body : Control → List ℕ → Message
with_body control body = record { kind = kind_of control; stream = 0; time = 0; body = body }

-- THE MESSAGE of a control: on message stream 0 (5.4), at time 0 (own)
abbrev pub message_of : Control → Message
message_of control = with_body control (body_of control)

-- its numbers are within their fields
abbrev pub InRange : Control → Type 0
InRange (ChunkSize size) = size < 2 ^ 32
InRange (Abort id) = id < 2 ^ 32
InRange (Acknowledgement count) = count < 2 ^ 32
InRange (User event value) = (event < 2 ^ 16) × (value < 2 ^ 32)
InRange (Window size) = size < 2 ^ 32
InRange (Bandwidth size limit) = (size < 2 ^ 32) × (limit < 2 ^ 8)

-- the answer to a ping request, event 6, is a ping response, event 7, with the same value (7.1.7)
abbrev pub ping_answer_of : Control → Option Control
ping_answer_of (User event value) = if event == 6 then Some (User 7 value) else None
ping_answer_of (ChunkSize _) = None
ping_answer_of (Abort _) = None
ping_answer_of (Acknowledgement _) = None
ping_answer_of (Window _) = None
ping_answer_of (Bandwidth _ _) = None
