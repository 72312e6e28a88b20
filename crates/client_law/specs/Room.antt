-- The items that have room in a message
use Rattle.std.specs.Prelude.{◌≤◌, ◌<◌, ◌^◌, ℕ, List, [], ◌∷◌, length}
use Rattle.av_unit.specs.declared.item.Item.{Item}
use Rattle.av_unit.specs.declared.item.Item.TheVariants as item
use Rattle.stream_model.specs.declared.replies.Reply.{Reply}
use Rattle.stream_model.specs.declared.replies.Reply.TheVariants as reply
use Rattle.session_owed.specs.Talk.{Own}

-- one of a message of at most max bytes, with a time of 32 bits
abbrev pub HasRoom : ℕ → Item → Type 0
HasRoom max item.Begin = Unit {0}
HasRoom max (item.Unit u) = (length u.body ≤ max) × (u.time < 2 ^ 32)
HasRoom max item.End = Unit {0}

-- the item that a reply brings, if it brings one
abbrev pub BringsRoom : ℕ → Reply → Type 0
BringsRoom max (reply.Sent from n item) = HasRoom max item
BringsRoom max _ = Unit {0}

-- each item that these calls were sent
abbrev pub HaveRoom : ℕ → List Own → Type 0
HaveRoom max [] = Unit {0}
HaveRoom max (c ∷ C) = BringsRoom max c.1 × HaveRoom max C
