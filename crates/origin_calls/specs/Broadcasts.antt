-- What the calls of an edge are, whatever it is told: broadcasts with their units
use Rattle.std.specs.Prelude.{◌≡◌, Bool, true, false, List, [], ◌∷◌, ◌++◌, Option, Some, None}
use Rattle.av_unit.specs.Media.{Media}
use Rattle.stream_model.specs.declared.calls.Call.{Call}
use Rattle.stream_model.specs.declared.calls.Call.TheVariants as call
use Rattle.session_owed.specs.Published.{unit_of}
use Rattle.client_owed.specs.declared.types.Gift.{Gift}
use Rattle.client_owed.specs.declared.types.Gift.TheVariants as gift
use Rattle.origin_calls.specs.Calls.{unit_in}

-- BROADCASTS: each begins where none is live, and what is pushed and what ends is live
abbrev pub AreBroadcasts : Bool → List Call → Type 0
AreBroadcasts live [] = Unit {0}
AreBroadcasts live (call.Begin ∷ cs) = (live ≡ false) × AreBroadcasts true cs
AreBroadcasts live (call.Push u ∷ cs) = (live ≡ true) × AreBroadcasts live cs
AreBroadcasts live (call.End ∷ cs) = (live ≡ true) × AreBroadcasts false cs
AreBroadcasts live (call.Join ∷ cs) = ⊥
AreBroadcasts live (call.Take player want ∷ cs) = ⊥
AreBroadcasts live (call.Leave player ∷ cs) = ⊥
AreBroadcasts live (call.Count ∷ cs) = ⊥
AreBroadcasts live (call.BeginAs name ∷ cs) = ⊥
AreBroadcasts live (call.JoinAs name ∷ cs) = ⊥

-- the units of these calls, in their order
abbrev pub units_of : List Call → List Media
units_of [] = []
units_of (c ∷ cs) = unit_of c ++ units_of cs

abbrev pub listed_unit : Option Media → List Media
listed_unit None = []
listed_unit (Some u) = u ∷ []

-- and those of the tags among what it is told
abbrev pub unit_for : Gift → List Media
unit_for gift.Published = []
unit_for gift.Unpublished = []
unit_for (gift.Tag t) = listed_unit (unit_in t)

abbrev pub units_for : List Gift → List Media
units_for [] = []
units_for (g ∷ gs) = unit_for g ++ units_for gs
