-- The session of an origin that plays
use Rattle.std.specs.Prelude.{◌≡◌, ℕ, List, [], ◌∷◌}
use Rattle.av_unit.specs.declared.item.Item.{Item}
use Rattle.stream_model.specs.History.{History}
use Rattle.stream_model.specs.Spell.{spell}
use Rattle.session_owed.specs.Talk.{Own}
use Rattle.client_law.specs.Pull.{items_sent}
use Rattle.origin_calls.specs.Origin.{given}

abbrev pub items_in : List (ℕ × Item) → List Item
items_in [] = []
items_in (p ∷ ps) = p.1 ∷ items_in ps

-- THE SESSION'S CALLS PLAY THERE: what they were sent is what this player was, since its last Join
abbrev pub PlaysAt : History → ℕ → List Own → Type 0
PlaysAt origin player C = items_sent C ≡ items_in (given (spell origin player).answers)
