-- WHAT A FILM BECOMES that goes through the relay and back
use Rattle.std.specs.Prelude.{◌≡◌, ◌⊎◌, ◌++◌, ℕ, List, [], ◌∷◌, map, reverse}
use Rattle.av_unit.specs.Media.{Media}
use Rattle.av_unit.specs.declared.item.Item.{Item}
use Rattle.av_unit.specs.declared.item.Item.TheVariants as item
use Rattle.av_unit.specs.declared.item.Item.TheVariants.{End}
use Rattle.flv_tags.specs.declared.tag.Tag.{Tag}
use Rattle.flv_tags.specs.Text.{flv_text}
use Rattle.client_owed.specs.declared.types.Gave.{Gave}
use Rattle.client_owed.specs.declared.types.Given.TheVariants.{Send}
use Rattle.client_law.specs.Loud.{units}
use Rattle.client_law.specs.Pull.{items_sent}
use Rattle.session_owed.specs.Published.{pushed_by}
use Rattle.session_owed.specs.Talk.{Own}
use Rattle.stream_model.specs.History.{items_of}
use Rattle.stream_registry.specs.Told.{Keeps, Step}
use Rattle.relay_session.specs.SeatVisits.{Stand}
use Rattle.loop_command.specs.Desk.{shape}

-- a tag that is given
abbrev pub gave_tag : Tag → Gave
gave_tag t = record { at = 0; given = Send t }

-- the units of tags, each by the length size that those before it tell
abbrev pub units_of : List Tag → List Media
units_of tags = units (map gave_tag tags)

-- these are among those, in their order, each once
abbrev pub AreAmong : {X : Type 0} → List X → List X → Type 0
AreAmong [] ys = Unit {0}
AreAmong (x ∷ xs) [] = ⊥
AreAmong (x ∷ xs) (y ∷ ys) = ((x ≡ y) × AreAmong xs ys) ⊎ AreAmong (x ∷ xs) ys

abbrev pub unit_in : Item → List Media
unit_in item.Begin = []
unit_in (item.Unit u) = u ∷ []
unit_in item.End = []

-- the units of items, in their order
abbrev pub units_in : List Item → List Media
units_in [] = []
units_in (i ∷ items) = unit_in i ++ units_in items

-- these calls stand in a history in their order, each once
abbrev pub StandIn : List Own → List Step → Type 0
StandIn calls history = Stand shape (reverse calls) history

-- A STREAM HAD THIS HISTORY, by its rules, so that what each player was sent keeps the viewer's law. A
-- publisher pushed the units of the tags, in order, and no other unit, and nobody else pushed any; and a
-- player was sent items of which the last is an End, and whose text this is
pub record IsLooped (tags : List Tag) (text : List ℕ) : Type 0 where
  pub history : List Step
  pub keeps : Keeps shape history
  -- the calls of the publisher
  pub publishes : List Own
  pub published : StandIn publishes history
  pub pushed : pushed_by publishes ≡ units_of tags
  -- the stream's units are those of the film, and no others
  pub own : units_in (items_of (reverse history)) ≡ units_of tags
  -- the calls of the player
  pub plays : List Own
  pub played : StandIn plays history
  -- the items that it was sent
  pub before : List Item
  pub sent : items_sent plays ≡ before ++ End ∷ []
  -- WHAT CAME BACK IS THE FILM'S OWN: its units are units of the film, in its order, each at most once
  pub back : AreAmong (units_in (items_sent plays)) (units_of tags)
  pub text_is : text ≡ flv_text (items_sent plays)
