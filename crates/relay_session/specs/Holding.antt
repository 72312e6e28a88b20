-- What a session holds: the lengths of its lists of bytes, each counted once
use Rattle.std.specs.Prelude.{◌≡◌, ◌≤◌, ℕ, ◌+◌, List, length, Option, Some, None, is_some, true, false}
use Rattle.chunk_reader.specs.Feeds.{IsHeld}
use Rattle.chunk_reader.specs.ReaderKnown.{ReaderKnown}
use Rattle.command_dialog.specs.State.{app_length}
use Rattle.rtmp_handshake.specs.Handshake.{held_of}
use Rattle.session_owed.specs.Chunks.{Hand}
use Rattle.relay_session.specs.Bounds.{kept_bytes, kept_name}
use Rattle.relay_session.specs.declared.core_fields.Core.{Core}

-- of messages in progress: a reader that has failed holds nothing
pub record IsParts (k : ReaderKnown) (n : ℕ) : Type 0 where
  pub lives : is_some k.failed ≡ false → IsHeld k n
  pub failed : is_some k.failed ≡ true → n ≡ 0

-- of the unit in hand, whole
abbrev pub unit_bytes : Option Hand → ℕ
unit_bytes None = 0
unit_bytes (Some h) = length h.body

pub record Held : Type 0 where
  -- received and not fed
  pub input : ℕ
  -- of messages in progress
  pub parts : ℕ
  -- encoded and not sent: items and answers, those that stand after the unit in hand too
  pub encoded : ℕ
  -- of the unit in hand, whole
  pub unit : ℕ
  -- of the unit that the call that waits publishes
  pub kept : ℕ
  -- of the name that it asks for
  pub name : ℕ
  -- of the app that the dialogue keeps
  pub app : ℕ
  -- of the handshake in progress, for its answer
  pub hand : ℕ

-- with so many bytes of messages in progress
abbrev pub held_with : Core → List ℕ → ℕ → Held
held_with c input parts = record {
  input = length input;
  parts = parts;
  encoded = length c.outgoing.ready + length c.outgoing.later;
  unit = unit_bytes c.outgoing.hand;
  kept = kept_bytes c.kept;
  name = kept_name c.kept;
  app = app_length c.dialog.app;
  hand = held_of c.hand;
}

abbrev pub sum_of : Held → ℕ
sum_of h = h.input + (h.parts + (h.encoded + (h.unit + (h.kept + (h.name + (h.app + h.hand))))))

-- A SESSION WITH THIS INPUT HOLDS SO MANY BYTES
pub record IsHolding (c : Core) (input : List ℕ) (n : ℕ) : Type 0 where
  pub parts : ℕ
  pub read : IsParts c.reader parts
  pub sum : n ≡ sum_of (held_with c input parts)

-- a unit in hand is no longer than the longest message that the session takes
pub record UnitFits (hand : Option Hand) (longest max : ℕ) : Type 0 where
  pub unit : unit_bytes hand ≤ longest
  pub same : longest ≡ max

abbrev pub HandFits : Core → Type 0
HandFits c = UnitFits c.outgoing.hand c.longest c.reader.max

-- IT HOLDS NO MORE THAN so many bytes, where it takes messages of at most M bytes and no unit that it sends
-- is longer than m: 4,096 of input; M and 65,536 of messages in progress, with the unit of the call that
-- waits, or of the handshake in progress; 32,768 of answers, of encoded bytes, of the app and of the name
-- that the call that waits asks for; and m
abbrev pub most_held : ℕ → ℕ → ℕ
most_held max m = 4096 + ((max + 65536) + (32768 + m))
