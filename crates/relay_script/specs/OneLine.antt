-- Texts of one line.
use Rattle.std.specs.Prelude.{◌≡◌, ℕ, ◌<◌, ◌^◌, List, [], ◌∷◌, ◌++◌, length, None, Some}
use Rattle.std.specs.declared.option.Option.{Option}
use Rattle.av_unit.specs.declared.item.Item.{Item}
use Rattle.av_unit.specs.declared.item.Item.TheVariants as item
use Rattle.stream_model.specs.declared.replies.Reply.{Reply}
use Rattle.stream_model.specs.declared.replies.Reply.TheVariants.{Began, InUse, Pushed, NotPublisher, Ended, Joined, Full, NotPlayer, Sent, Skip, NotYet}
use Rattle.stream_model.specs.declared.replies.Reply.TheVariants.{Left, Counts, NoSlot}
use Rattle.relay_script.specs.Script.{NoLineFeed}

-- an LF stands at its end, and nowhere else
pub record IsOneLine (text : List ℕ) : Type 0 where
  pub line : List ℕ
  pub ends : text ≡ line ++ 10 ∷ []
  pub clean : NoLineFeed line

-- the numbers are those of a u64
abbrev pub IsU64 : ℕ → Type 0
IsU64 n = n < 2 ^ 64

abbrev pub IsLive : Option ℕ → Type 0
IsLive None = Unit {0}
IsLive (Some by) = IsU64 by

abbrev pub IsItem : Item → Type 0
IsItem item.Begin = Unit {0}
IsItem item.End = Unit {0}
IsItem (item.Unit u) = IsU64 u.time × IsU64 (length u.body)

abbrev pub IsReply : Reply → Type 0
IsReply (Began n) = IsU64 n
IsReply (InUse by) = IsU64 by
IsReply (Pushed n) = IsU64 n
IsReply (NotPublisher live) = IsLive live
IsReply (Ended n) = IsU64 n
IsReply (Joined player from) = IsU64 player × IsU64 from
IsReply Full = Unit {0}
IsReply NotPlayer = Unit {0}
IsReply (Sent from n x) = IsU64 from × IsU64 n × IsItem x
IsReply (Skip from to) = IsU64 from × IsU64 to
IsReply (NotYet end) = IsU64 end
IsReply (Left player) = IsU64 player
IsReply (Counts began pushed ended joined skips) = IsU64 began × IsU64 pushed × IsU64 ended × IsU64 joined × IsU64 skips
IsReply (NoSlot slots) = IsU64 slots
