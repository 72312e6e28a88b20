-- WHAT A SESSION OWES for its input and its own calls with their replies, all at once. It knows no cutting of
-- the input.
use Rattle.std.specs.Prelude.{ℕ, zero, suc, ◌-◌, List, ◌++◌, length}
use Rattle.chunk_wire.specs.declared.message.Message.{Message}
use Rattle.chunk_writer.specs.WriterKnown.{WriterKnown}
use Rattle.chunk_writer.specs.WriterKnown as writer
use Rattle.chunk_writer.specs.Written.{written, after_all}
use Rattle.rtmp_handshake.specs.Answer.{answered}
use Rattle.ack_window.specs.Window.{window_of}
use Rattle.session_owed.specs.Dialogue.{Dialogue}
use Rattle.session_owed.specs.Acks.{acks_at}
use Rattle.session_owed.specs.Talk.{Own, Talk, talk, hand_bytes, state_at, says_at, items_at}

-- what stands at each count up to n, in order
unfoldable pub upto : {X : Type 0} → (ℕ → List X) → ℕ → List X
upto f zero = f 0
upto f (suc n) = upto f n ++ f (suc n)

module _ {S : Type 0} (d : Dialogue S) where
  -- the answers at a count, and then the items taken there
  unfoldable pub talk_at : Talk S → List Own → ℕ → List Message
  talk_at t C n = says_at n t.said ++ items_at d (state_at n d.start t.states) n C

  -- what is owed at a count: first the acknowledgement
  unfoldable pub at_count : Talk S → List (ℕ × Message) → List Own → ℕ → List Message
  at_count t ms C n = acks_at (window_of d.window) ms n ++ talk_at t C n

  -- THE MESSAGES OWED after n bytes of chunks that read as the messages ms, and the calls C
  unfoldable pub owed : ℕ → List (ℕ × Message) → List Own → List Message
  owed n ms C = upto (at_count (talk d C ms) ms C) n

  -- how many bytes of chunks stand in the input
  abbrev pub count_of : List ℕ → ℕ
  count_of x = length x - hand_bytes

  -- THE BYTES OWED for the input x: the handshake's answer, and these messages by the writer's rule
  unfoldable pub out : List ℕ → List (ℕ × Message) → List Own → List ℕ
  out x ms C = answered x ++ written writer.fresh (owed (count_of x) ms C)

  -- the writer then
  unfoldable pub writer_after : List ℕ → List (ℕ × Message) → List Own → WriterKnown
  writer_after x ms C = after_all writer.fresh (owed (count_of x) ms C)
