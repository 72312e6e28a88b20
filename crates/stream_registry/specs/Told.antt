-- Histories as a caller sees them: each call with its reply, the oldest first, without the calls that were
-- refused for memory
use Rattle.std.specs.Prelude.{ℕ, ◌+◌, ◌-◌, ◌≤◌, ◌^◌, min, List, reverse}
use Rattle.stream_model.specs.declared.calls.Entry.{Entry}
use Rattle.stream_model.specs.declared.calls.Shape.{Shape}
use Rattle.stream_model.specs.declared.replies.Reply.{Reply}
use Rattle.stream_model.specs.Shape.{IsShapeLawful, IsLegalAt}

-- a call with its reply
abbrev pub Step : Type 0
Step = Entry × Reply

-- a history for each place
abbrev pub Histories : Type 0
Histories = ℕ → List Step

-- each reply is the one that the rules give after the calls before it, and what each player was sent at a
-- slot keeps the viewer's law. A stream is its own one slot
pub record Keeps (limits : Shape) (seen : List Step) : Type 0 where
  pub rules : IsShapeLawful limits (reverse seen)
  pub viewers : (slot player : ℕ) → IsLegalAt limits (reverse seen) slot player

-- one more than a count, or its type's end
abbrev pub risen : ℕ → ℕ
risen before = min (before + 1) (2 ^ 64 - 1)

-- a count has risen, or stands at its type's end
abbrev pub Rose : ℕ → ℕ → Type 0
Rose before now = risen before ≤ now
