-- Whatever an edge is told, its calls are broadcasts with the units that it is told of
use Rattle.std.proofs.Common.{◌≡◌, Bool, true, false, List, [], ◌∷◌, ◌++◌, Option, Some, None, refl, sym, ap, ◌∙◌, append_assoc}
use Rattle.av_unit.specs.Media.{Media}
use Rattle.stream_model.specs.declared.calls.Call.{Call}
use Rattle.session_owed.specs.Published.{unit_of}
use Rattle.client_owed.specs.declared.types.Gift.{Gift}
use Rattle.client_owed.specs.declared.types.Gift.TheVariants as gift
use Rattle.origin_calls.specs.Broadcasts.{AreBroadcasts, listed_unit, unit_for, units_for, units_of}
use Rattle.origin_calls.specs.Calls.{calls_for, edge_calls, live_by, live_with, pushes, unit_in}

-- ---- what follows the calls for one thing

pushed_whole : (live : Bool) (o : Option Media) (cs : List Call) → AreBroadcasts (live_with live o) cs → AreBroadcasts live (pushes live o ++ cs)
pushed_whole live None cs b = b
pushed_whole true (Some u) cs b = (refl, b)
pushed_whole false (Some u) cs b = (refl, (refl, b))

for_whole : (live : Bool) (g : Gift) (cs : List Call) → AreBroadcasts (live_by live g) cs → AreBroadcasts live (calls_for live g ++ cs)
for_whole true gift.Published cs b = (refl, (refl, b))
for_whole false gift.Published cs b = (refl, b)
for_whole true gift.Unpublished cs b = (refl, b)
for_whole false gift.Unpublished cs b = b
for_whole live (gift.Tag t) cs b = pushed_whole live (unit_in t) cs b

pub are_broadcasts : (live : Bool) (gs : List Gift) → AreBroadcasts live (edge_calls live gs)
unfolding edge_calls
are_broadcasts live [] = tt
are_broadcasts live (g ∷ gs) = for_whole live g (edge_calls (live_by live g) gs) (are_broadcasts (live_by live g) gs)

-- ---- the units

units_join : (a b : List Call) → units_of (a ++ b) ≡ units_of a ++ units_of b
units_join [] b = refl
units_join (c ∷ a) b = ap (λ (l : List Media). unit_of c ++ l) (units_join a b) ∙ sym (append_assoc (unit_of c) (units_of a) (units_of b))

pushed_units : (live : Bool) (o : Option Media) → units_of (pushes live o) ≡ listed_unit o
pushed_units live None = refl
pushed_units true (Some u) = refl
pushed_units false (Some u) = refl

for_units : (live : Bool) (g : Gift) → units_of (calls_for live g) ≡ unit_for g
for_units true gift.Published = refl
for_units false gift.Published = refl
for_units true gift.Unpublished = refl
for_units false gift.Unpublished = refl
for_units live (gift.Tag t) = pushed_units live (unit_in t)

pub are_units : (live : Bool) (gs : List Gift) → units_of (edge_calls live gs) ≡ units_for gs
unfolding edge_calls
are_units live [] = refl
are_units live (g ∷ gs) =
    units_join (calls_for live g) (edge_calls (live_by live g) gs) ∙ ap (λ (l : List Media). l ++ units_of (edge_calls (live_by live g) gs)) (for_units live g)
    ∙ ap (λ (l : List Media). unit_for g ++ l) (are_units (live_by live g) gs)
