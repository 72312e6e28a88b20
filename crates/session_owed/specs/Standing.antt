-- What a session keeps of what it owes, and how it stands for what it was fed and did
use Rattle.std.specs.Prelude.{◌≡◌, ℕ, ◌<◌, List, [], ◌∷◌, ◌++◌, length, Option, None}
use Rattle.chunk_wire.specs.declared.message.Message.{Message}
use Rattle.chunk_writer.specs.WriterKnown.{WriterKnown}
use Rattle.chunk_writer.specs.WriterKnown as writer
use Rattle.chunk_writer.specs.Written.{written, after_all}
use Rattle.stream_model.specs.declared.calls.Entry.{Entry}
use Rattle.stream_model.specs.declared.replies.Reply.{Reply}
use Rattle.ack_window.specs.Inbound.{InWindow, ack_of, in_took}
use Rattle.session_owed.specs.Dialogue.{Dialogue, Step, Told}
use Rattle.session_owed.specs.Acks.{ack_messages, inbound, window_by}
use Rattle.session_owed.specs.Talk.{Own, talk, hand_bytes}
use Rattle.session_owed.specs.Owed.{count_of, out, writer_after}
use Rattle.session_owed.specs.Talks.{Talks}

-- the bytes fed, the messages that they read as, the calls with their replies, the call that waits, and the bytes sent
pub record Past : Type 0 where
  pub x : List ℕ
  pub ms : List (ℕ × Message)
  pub calls : List Own
  pub kept : Option Entry
  pub sent : List ℕ

-- the bytes that are to be sent, the writer, the window, and the state of the dialogue
pub record Keeps (S : Type 0) : Type 0 where
  pub pending : List ℕ
  pub writer : WriterKnown
  pub window : InWindow
  pub state : S

-- in the handshake there is no message and no call
pub record IsEarly (p : Past) : Type 0 where
  pub messages : p.ms ≡ []
  pub calls : p.calls ≡ []
  pub kept : p.kept ≡ None

-- IT STANDS FOR ITS PAST: what was sent and what is pending is what it owes, and the rest is what goes on from there
pub record Stands {S : Type 0} (d : Dialogue S) (p : Past) (k : Keeps S) : Type 0 where
  pub early : length p.x < hand_bytes → IsEarly p
  pub talks : Talks d (count_of d p.x) p.ms p.calls p.kept
  pub owes : p.sent ++ k.pending ≡ out d p.x p.ms p.calls
  pub writer : k.writer ≡ writer_after d p.x p.ms p.calls
  pub window : k.window ≡ inbound d.window (count_of d p.x) p.ms
  pub state : k.state ≡ (talk d p.calls p.ms).state

-- nothing has happened yet
abbrev pub new_past : Past
new_past = record { x = []; ms = []; calls = []; kept = None; sent = [] }

-- bytes more sent, or fed; a message, a reply to the call that waits, a Take
abbrev pub sent_more : Past → List ℕ → Past
sent_more p b = record { x = p.x; ms = p.ms; calls = p.calls; kept = p.kept; sent = p.sent ++ b }

abbrev pub fed_more : Past → List ℕ → Past
fed_more p q = record { x = p.x ++ q; ms = p.ms; calls = p.calls; kept = p.kept; sent = p.sent }

abbrev pub with_message : Past → List ℕ → ℕ → Message → Option Entry → Past
with_message p q o m kept = record { x = p.x ++ q; ms = p.ms ++ (o, m) ∷ []; calls = p.calls; kept = kept; sent = p.sent }

abbrev pub with_call : Past → Entry → Reply → Past
with_call p e r = record { x = p.x; ms = p.ms; calls = p.calls ++ (e, r) ∷ []; kept = None; sent = p.sent }

module _ {S : Type 0} where
  -- messages more to be sent
  abbrev pub says_more : Keeps S → List Message → Keeps S
  says_more k l = record { pending = k.pending ++ written k.writer l; writer = after_all k.writer l; window = k.window; state = k.state }

  abbrev pub in_state : Keeps S → S → Keeps S
  in_state k s = record { pending = k.pending; writer = k.writer; window = k.window; state = s }

  -- bytes of chunks were taken, up to the next place of an acknowledgement: this is said where they reach it
  abbrev pub took : Keeps S → ℕ → Keeps S
  took k n = record {
    pending = k.pending ++ written k.writer (ack_messages (ack_of k.window n));
    writer = after_all k.writer (ack_messages (ack_of k.window n));
    window = in_took k.window n;
    state = k.state;
  }

  -- and then a message ends: its window counts from the next byte on
  abbrev pub rewindowed : Keeps S → Message → Keeps S
  rewindowed k m = record {
    pending = k.pending;
    writer = k.writer;
    window = record { window = window_by k.window.window m; taken = k.window.taken };
    state = k.state;
  }

  abbrev pub stepped : Keeps S → Message → Step S → Keeps S
  stepped k m s = says_more (in_state (rewindowed k m) s.state) s.says

  abbrev pub answered_so : Keeps S → Told S → Keeps S
  answered_so k t = says_more (in_state k t.state) t.says

  abbrev pub pending_now : Keeps S → List ℕ → Keeps S
  pending_now k b = record { pending = b; writer = k.writer; window = k.window; state = k.state }

  abbrev pub new_keeps : Dialogue S → Keeps S
  new_keeps d = record { pending = []; writer = writer.fresh; window = inbound d.window 0 []; state = d.start }
