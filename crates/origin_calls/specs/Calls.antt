-- WHAT AN EDGE CALLS at its place for what its client is told: the broadcasts of its origin, with their units.
use Rattle.std.specs.Prelude.{ℕ, Bool, true, false, List, [], ◌∷◌, ◌++◌, Option, Some, None}
use Rattle.av_unit.specs.Classes.{unit_from}
use Rattle.av_unit.specs.Media.{Media}
use Rattle.flv_tags.specs.declared.tag.Tag.{Tag}
use Rattle.stream_model.specs.declared.calls.Call.{Call}
use Rattle.stream_model.specs.declared.calls.Call.TheVariants as call
use Rattle.stream_model.specs.declared.calls.Entry.{Entry}
use Rattle.client_owed.specs.declared.types.Gift.{Gift}
use Rattle.client_owed.specs.declared.types.Gift.TheVariants as gift

-- the unit that a tag is, if it is one. No picture is told apart as one that no other needs: where the origin
-- skips, its player may not be told of a new broadcast, whose lengths of NAL units may be others
abbrev pub unit_in : Tag → Option Media
unit_in t = unit_from t.kind t.time t.body 0

-- a broadcast that is live ends
abbrev pub ends : Bool → List Call
ends true = call.End ∷ []
ends false = []

-- and where none is one begins
abbrev pub begins : Bool → List Call
begins true = []
begins false = call.Begin ∷ []

-- a tag that is a unit is pushed, and begins a broadcast where none is live. Another makes no call
abbrev pub pushes : Bool → Option Media → List Call
pushes live None = []
pushes live (Some u) = begins live ++ call.Push u ∷ []

abbrev pub live_with : Bool → Option Media → Bool
live_with live None = live
live_with live (Some u) = true

-- the calls for one thing that it is told, by whether a broadcast is live
abbrev pub calls_for : Bool → Gift → List Call
calls_for live gift.Published = ends live ++ call.Begin ∷ []
calls_for live gift.Unpublished = ends live
calls_for live (gift.Tag t) = pushes live (unit_in t)

-- whether one is live then
abbrev pub live_by : Bool → Gift → Bool
live_by live gift.Published = true
live_by live gift.Unpublished = false
live_by live (gift.Tag t) = live_with live (unit_in t)

unfoldable pub live_after : Bool → List Gift → Bool
live_after live [] = live
live_after live (g ∷ gs) = live_after (live_by live g) gs

-- THE CALLS OF AN EDGE for all that its client is told, from where a broadcast is live or none is
unfoldable pub edge_calls : Bool → List Gift → List Call
edge_calls live [] = []
edge_calls live (g ∷ gs) = calls_for live g ++ edge_calls (live_by live g) gs

-- the same as entries of this name
abbrev pub entry_of : ℕ → Call → Entry
entry_of who c = record { who = who; at = 0; call = c }

abbrev pub entries : ℕ → List Call → List Entry
entries who [] = []
entries who (c ∷ cs) = entry_of who c ∷ entries who cs
