-- What it means that a slot has taken a name.
use Rattle.std.specs.Prelude.{◌≡◌, ℕ, ◌≤◌, Bool, true, false, ◌||◌, ◌==◌, List, [], ◌∷◌, ◌++◌, length, Some}
use Rattle.std.specs.List.{All}
use Rattle.stream_model.specs.declared.replies.Reply.{Reply}
use Rattle.stream_model.specs.declared.replies.Reply.TheVariants.{Joined}
use Rattle.stream_model.specs.History.{History, items_of}
use Rattle.stream_model.specs.Spell.{spell, sent}
use Rattle.stream_model.specs.Known.{StreamKnown}
use Rattle.stream_model.specs.Pool.{name_asked, is_free, cleared}

-- each call that asks for a name asks for this one
abbrev pub AskFor : List ℕ → History → Type 0
AskFor name [] = Unit {0}
AskFor name (step ∷ past) = ((other : List ℕ) → name_asked step.0.call ≡ Some other → other ≡ name) × AskFor name past

-- A slot that nobody published or played at took the name, with the items Begin and End, and since then each
-- of its calls that asks for a name asks for this one.
pub record HasTaken (name : List ℕ) (k : StreamKnown) : Type 0 where
  pub older : StreamKnown
  pub limits_are : older.limits ≡ k.limits
  pub free : is_free older ≡ true
  pub newer : History
  pub past_is : k.past ≡ newer ++ (cleared older).past
  pub asks : AskFor name newer

-- A player at the place of a slot of that name was sent nothing that stood there before the slot took the
-- name: no number below that of the items which the slot had then, with the markers of the name.
pub record SentOfItsName (name : List ℕ) (k : StreamKnown) (place : ℕ) : Type 0 where
  pub taken : HasTaken name k
  pub since : All (λ n. length (items_of (cleared taken.older).past) ≤ n) (sent (spell k.past place))

abbrev pub is_join_of : Reply → ℕ → Bool
is_join_of (Joined player from) place = player == place
is_join_of _ place = false

-- some call was given the place
abbrev pub joins : History → ℕ → Bool
joins [] place = false
joins (step ∷ past) place = is_join_of step.1 place || joins past place
