-- What a recorder takes is what a player is sent
use Rattle.std.specs.Prelude.{◌≡◌, ℕ, if◌then◌else◌, ◌==◌, List, [], ◌∷◌, ◌++◌}
use Rattle.av_unit.specs.declared.item.Item.{Item}
use Rattle.av_unit.specs.declared.head.Want.{Want}
use Rattle.stream_model.specs.declared.calls.Call.{Call}
use Rattle.stream_model.specs.declared.calls.Call.TheVariants.{Take}
use Rattle.stream_model.specs.declared.replies.Taken.{Taken}
use Rattle.stream_model.specs.declared.replies.Taken.TheVariants.{Sent, Skip, NotYet}
use Rattle.stream_model.specs.History.{History}
use Rattle.stream_registry.specs.Told.{Step}

-- the items that a player was sent, in order
abbrev pub items_sent : List Taken → List Item
items_sent [] = []
items_sent (Sent from n item ∷ before) = items_sent before ++ item ∷ []
items_sent (Skip from to ∷ before) = items_sent before
items_sent (NotYet end ∷ before) = items_sent before

abbrev pub IsTakeAt : ℕ → Call → Type 0
IsTakeAt place call = (want : Want) × (call ≡ Take place want)

-- each call that bears the name is a Take at this place
abbrev pub TakesOnly : ℕ → ℕ → History → Type 0
TakesOnly who place [] = Unit {0}
TakesOnly who place (step ∷ past) = (step.0.who ≡ who → IsTakeAt place step.0.call) × TakesOnly who place past

-- the calls that bear the name, the oldest first
abbrev pub calls_of : ℕ → History → List Step
calls_of who [] = []
calls_of who (step ∷ past) = if step.0.who == who then calls_of who past ++ step ∷ [] else calls_of who past
