-- The names of streams and of open tables, and which place has a pair of names
use Rattle.std.specs.Prelude.{◌≡◌, ℕ, ◌+◌, ◌<◌, ◌≤◌, ◌⊎◌, true, false, List, [], ◌∷◌, ◌++◌, length, map, slice_get, All, Option, Some, None}
use Rattle.std.specs.declared.result.Result.{Result}
use Rattle.std.specs.declared.result.Result.TheVariants.{Ok, Err}
use Rattle.stream_model.specs.declared.calls.StreamLimits.{StreamLimits}
use Rattle.stream_model.specs.declared.calls.Shape.{Shape}
use Rattle.stream_model.specs.Shape.{stream_shape, pool_shape, AreFewSlots}
use Rattle.stream_model.specs.Names.{is_name}
use Rattle.turn_gate.specs.Known.{GateId}
use Rattle.stream_registry.specs.declared.place_table.Site.{Site}
use Rattle.stream_registry.specs.declared.names.Name.{Name}
use Rattle.stream_registry.specs.declared.names.OpenName.{OpenName}
use Rattle.stream_registry.specs.declared.names.NotFound.{NotFound}

abbrev pub IsNamed : Name → List ℕ → List ℕ → Type 0
IsNamed n app name = (n.app ≡ app) × (n.name ≡ name)

abbrev pub IsNamedAt : List Name → ℕ → List ℕ → List ℕ → Type 0
IsNamedAt names place app name = (n : Name) × (slice_get names place ≡ Some n) × IsNamed n app name

-- none of the first k has that pair
abbrev pub NoneNamed : List Name → ℕ → List ℕ → List ℕ → Type 0
NoneNamed names k app name = (q : ℕ) (n : Name) → q < k → slice_get names q ≡ Some n → IsNamed n app name → ⊥

-- the first place that has that pair, or none has it
abbrev pub IsListedAt : List Name → List ℕ → List ℕ → Option ℕ → Type 0
IsListedAt names app name (Some place) = (place < length names) × IsNamedAt names place app name × NoneNamed names place app name
IsListedAt names app name None = NoneNamed names (length names) app name

abbrev pub IsOpenAt : List OpenName → ℕ → List ℕ → Type 0
IsOpenAt opens table app = (o : OpenName) × (slice_get opens table ≡ Some o) × (o.app ≡ app)

-- none of the first k open tables has that app
abbrev pub NoneOpen : List OpenName → ℕ → List ℕ → Type 0
NoneOpen opens k app = (q : ℕ) (o : OpenName) → q < k → slice_get opens q ≡ Some o → o.app ≡ app → ⊥

-- the first open table that has that app, or none has it
abbrev pub IsOpenOf : List OpenName → List ℕ → Option ℕ → Type 0
IsOpenOf opens app (Some table) = (table < length opens) × IsOpenAt opens table app × NoneOpen opens table app
IsOpenOf opens app None = NoneOpen opens (length opens) app

-- The open table that a pair of names has where no stream has it: the one of its app, if the name is one that
-- a caller may give. Its place is behind those of the streams.
pub record IsOpenPlace (names : List Name) (opens : List OpenName) (app name : List ℕ) (place : ℕ) : Type 0 where
  pub unlisted : NoneNamed names (length names) app name
  pub given : is_name name ≡ true
  pub table : ℕ
  pub open_there : IsOpenOf opens app (Some table)
  pub place_is : place ≡ length names + table

-- THE PLACE of a pair: that of the first stream that has it, else that of the first open table of its app.
-- There is none exactly where no stream has the pair and either no open table has the app or the name isn't
-- one that a caller may give
abbrev pub IsPlaceOf : List Name → List OpenName → List ℕ → List ℕ → Result ℕ NotFound → Type 0
IsPlaceOf names opens app name (Ok place) = IsListedAt names app name (Some place) ⊎ IsOpenPlace names opens app name place
IsPlaceOf names opens app name (Err e) = NoneNamed names (length names) app name × (NoneOpen opens (length opens) app ⊎ (is_name name ≡ false))

-- what the places have, the streams first: each stream and each slot has these limits
abbrev pub shapes_of : StreamLimits → List Name → List OpenName → List Shape
shapes_of limits names opens = map (λ n. stream_shape limits) names ++ map (λ o. pool_shape limits o.slots) opens

-- there are few of them, and each pool among them has few slots
abbrev pub AreTables : List Shape → Type 0
AreTables shapes = All (λ s. AreFewSlots s.slots) shapes × (length shapes ≤ 64)

-- what stands for a place where there is none
abbrev pub no_shape : Shape
no_shape = stream_shape (record { bytes = 0; items = 0; players = 0 })

abbrev pub shape_or_none : Option Shape → Shape
shape_or_none None = no_shape
shape_or_none (Some s) = s

abbrev pub shape_at : List Shape → ℕ → Shape
shape_at shapes place = shape_or_none (slice_get shapes place)

-- how many slots the open tables have together
abbrev pub slots_sum : List OpenName → ℕ
slots_sum [] = 0
slots_sum (o ∷ opens) = o.slots + slots_sum opens

abbrev pub HaveSlots : List OpenName → Type 0
HaveSlots [] = Unit {0}
HaveSlots (o ∷ opens) = (1 ≤ o.slots) × HaveSlots opens

-- each open table has a slot at least, and the streams and all slots together are at most 64
pub record AreFew (names : List Name) (opens : List OpenName) : Type 0 where
  pub some : HaveSlots opens
  pub most : length names + slots_sum opens ≤ 64

-- what never changes of a port
pub record PortRules : Type 0 where
  -- the names of the streams, which have the first places
  pub names : List Name
  -- the open tables, which have the places behind them
  pub opens : List OpenName
  -- what each place has, and its limits
  pub limits : ℕ → Shape
  -- the gates behind which the places stand, or none where no other port serves them
  pub gates : List (GateId Site)

-- how many places there are
abbrev pub places : PortRules → ℕ
places r = length r.names + length r.opens
