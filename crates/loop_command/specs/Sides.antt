-- Only proofs and private functions use it.
-- What a run has left of each client and each session
use Rattle.std.specs.Prelude.{◌≡◌, ◌<◌, ◌+◌, ◌++◌, ℕ, List, [], length, drop, None}
use Rattle.relay_outside.specs.MemLinks.{MemLinkState}
use Rattle.chunk_reader.specs.Sound.{IsRead}
use Rattle.chunk_wire.specs.declared.message.Message.{Message}
use Rattle.session_owed.specs.Owed.{count_of, out}
use Rattle.session_owed.specs.Published.{published, pushed_by}
use Rattle.session_owed.specs.Talk.{Own, hand_bytes, talk}
use Rattle.session_owed.specs.Talks.{Rise, Talks}
use Rattle.stream_registry.specs.Told.{Step}
use Rattle.loop_command.specs.Desk.{dialogue, max_message}
use Rattle.loop_command.specs.Looped.{StandIn}

-- a session was fed the bytes x of those that its link gave, and made these calls, which stand in this
-- history. What its link took is all that it owes for them, no call of its waits, and its Pushes are the
-- units of its messages
pub record SessionSide (who : ℕ) (m : MemLinkState) (x : List ℕ) (calls : List Own) (history : List Step) : Type 0 where
  pub rest : List ℕ
  pub ms : List (ℕ × Message)
  pub gave : m.gave ≡ x ++ rest
  pub early : length x < hand_bytes → calls ≡ []
  pub read : IsRead max_message (drop hand_bytes x) ms
  pub owes : m.handed ++ m.sent ≡ out (dialogue who) x ms calls
  pub talks : Talks (dialogue who) (count_of (dialogue who) x) ms calls None
  pub units : pushed_by calls ≡ published (dialogue who) ms calls
  pub rise : Rise (dialogue who) (talk (dialogue who) calls ms).states hand_bytes (hand_bytes + count_of (dialogue who) x) calls
  pub stand : StandIn calls history
