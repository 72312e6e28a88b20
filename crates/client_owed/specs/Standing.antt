-- What a client keeps of what it owes and is told, and how it stands for what it was fed and given
use Rattle.std.specs.Prelude.{◌≡◌, ◌⊎◌, ℕ, ◌-◌, ◌<◌, nat_le, Bool, true, false, ◌||◌, if◌then◌else◌, List, [], ◌∷◌, ◌++◌, length, Option, Some, None}
use Rattle.chunk_wire.specs.declared.message.Message.{Message}
use Rattle.chunk_writer.specs.WriterKnown.{WriterKnown}
use Rattle.chunk_writer.specs.WriterKnown as writer
use Rattle.chunk_writer.specs.Written.{written, after_all}
use Rattle.ack_window.specs.Inbound.{InWindow, ack_of, in_took}
use Rattle.session_owed.specs.Acks.{ack_messages, inbound, window_by}
use Rattle.session_owed.specs.Talk.{hand_bytes}
use Rattle.client_owed.specs.declared.types.Asked.{Asked}
use Rattle.client_owed.specs.declared.types.Gave.{Gave}
use Rattle.client_owed.specs.declared.types.Gift.{Gift}
use Rattle.client_owed.specs.declared.types.Given.{Given}
use Rattle.client_owed.specs.declared.types.Given.TheVariants.{Send, Finish}
use Rattle.client_owed.specs.declared.types.Phase.{Phase}
use Rattle.client_owed.specs.declared.types.Phase.TheVariants.{Connecting, Creating, Asking, Started}
use Rattle.client_owed.specs.Client.{Did, connect, does}
use Rattle.client_owed.specs.Growth.{Reaches}
use Rattle.client_owed.specs.Owed.{AreGiven, c2, first_window, hello, id_of, out, owed, phase_of, sent_on}
use Rattle.client_owed.specs.Pulled.{gift_for, pulled}

-- the bytes fed, the messages that they read as, what was given, the bytes sent, and the gifts taken
pub record Past : Type 0 where
  pub y : List ℕ
  pub ms : List (ℕ × Message)
  pub gave : List Gave
  pub sent : List ℕ
  pub taken : List Gift

-- the bytes that are to be sent, the writer, the window, where the dialogue stands, whether a finish was
-- given, and the gift that waits
pub record Keeps : Type 0 where
  pub pending : List ℕ
  pub writer : WriterKnown
  pub window : InWindow
  pub phase : Phase
  pub finished : Bool
  pub gift : Option Gift

-- how many bytes of chunks stand in the input
abbrev pub count_of : List ℕ → ℕ
count_of y = length y - hand_bytes

-- the writer after all that is owed
unfoldable pub writer_after : Asked → List ℕ → List (ℕ × Message) → List Gave → WriterKnown
writer_after k y ms T = if nat_le hand_bytes (length y) then after_all writer.fresh (owed k (count_of y) ms T) else writer.fresh

abbrev pub is_finish : Given → Bool
is_finish (Send t) = false
is_finish Finish = true

-- a finish was given
unfoldable pub is_finished : List Gave → Bool
is_finished [] = false
is_finished (g ∷ T) = is_finish g.given || is_finished T

abbrev pub listed : Option Gift → List Gift
listed None = []
listed (Some g) = g ∷ []

-- in the handshake there is no message, and nothing is given
pub record IsEarly (p : Past) : Type 0 where
  pub messages : p.ms ≡ []
  pub gave : p.gave ≡ []

-- IT STANDS FOR ITS PAST: what was sent and what is pending is what it owes, what was taken and what waits is
-- what it was told, and the rest is what goes on from there
pub record Stands (k : Asked) (max : ℕ) (p : Past) (q : Keeps) : Type 0 where
  pub early : length p.y < hand_bytes → IsEarly p
  pub reaches : Reaches (count_of p.y) p.ms p.gave
  pub owes : p.sent ++ q.pending ≡ out k p.y p.ms p.gave
  pub writer : q.writer ≡ writer_after k p.y p.ms p.gave
  pub window : q.window ≡ inbound first_window (count_of p.y) p.ms
  pub phase : q.phase ≡ phase_of k p.ms
  pub given : AreGiven k max (count_of p.y) p.ms p.gave
  pub finished : q.finished ≡ is_finished p.gave
  pub told : p.taken ++ listed q.gift ≡ pulled k p.ms

-- nothing has happened yet, and the client's first bytes are to be sent
abbrev pub new_past : Past
new_past = record { y = []; ms = []; gave = []; sent = []; taken = [] }

abbrev pub new_keeps : Keeps
new_keeps = record { pending = hello; writer = writer.fresh; window = inbound first_window 0 []; phase = Connecting; finished = false; gift = None }

-- ---- steps: bytes more sent or fed, a message, a thing given, a gift taken

abbrev pub sent_more : Past → List ℕ → Past
sent_more p b = record p { sent = p.sent ++ b }

abbrev pub fed_more : Past → List ℕ → Past
fed_more p b = record p { y = p.y ++ b }

abbrev pub with_message : Past → List ℕ → Message → Past
with_message p b m = record p { y = p.y ++ b; ms = p.ms ++ (count_of (p.y ++ b), m) ∷ [] }

abbrev pub with_given : Past → Gave → Past
with_given p g = record p { gave = p.gave ++ g ∷ [] }

abbrev pub with_taken : Past → Gift → Past
with_taken p g = record p { taken = p.taken ++ g ∷ [] }

abbrev pub pending_now : Keeps → List ℕ → Keeps
pending_now q b = record q { pending = b }

-- messages more to be sent
abbrev pub says_more : Keeps → List Message → Keeps
says_more q l = record q { pending = q.pending ++ written q.writer l; writer = after_all q.writer l }

-- the handshake is over: C2 and connect are to be sent
abbrev pub greeted : Asked → List ℕ → Keeps → Keeps
greeted k y q = record q { pending = q.pending ++ (c2 y ++ written writer.fresh (connect k ∷ [])); writer = after_all writer.fresh (connect k ∷ []) }

-- bytes of chunks were taken, up to the next place of an acknowledgement: this is said where they reach it
abbrev pub took : Keeps → ℕ → Keeps
took q n = record q {
  pending = q.pending ++ written q.writer (ack_messages (ack_of q.window n));
  writer = after_all q.writer (ack_messages (ack_of q.window n));
  window = in_took q.window n;
}

-- and then a message ends, which may tell something
abbrev pub stepped : Keeps → Message → Did → Option Gift → Keeps
stepped q m d g = record q {
  pending = q.pending ++ written q.writer d.says;
  writer = after_all q.writer d.says;
  window = record { window = window_by q.window.window m; taken = q.window.taken };
  phase = d.phase;
  gift = g;
}

-- a thing is given
abbrev pub gave_more : Keeps → Given → Keeps
gave_more q g = record q {
  pending = q.pending ++ written q.writer (sent_on (id_of q.phase) g ∷ []);
  writer = after_all q.writer (sent_on (id_of q.phase) g ∷ []);
  finished = is_finish g;
}

abbrev pub gift_now : Keeps → Option Gift → Keeps
gift_now q g = record q { gift = g }

-- it has started
abbrev pub HasStarted : Phase → Type 0
HasStarted Connecting = ⊥
HasStarted Creating = ⊥
HasStarted (Asking id) = ⊥
HasStarted (Started id) = Unit {0}
