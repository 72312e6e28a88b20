-- What contracts see of a shared port
use Rattle.std.specs.Prelude.{◌≡◌, ℕ, ◌+◌, ◌<◌, ◌≤◌, List, [], ◌∷◌, ◌++◌, length, All, slice_get, Option, Some, None}
use Rattle.std.proofs.Common.{ap, sym}
use Rattle.stream_model.specs.declared.calls.StreamLimits.{StreamLimits}
use Rattle.stream_model.specs.declared.calls.Shape.{Shape}
use Rattle.turn_gate.specs.Known.{GateId}
use Rattle.stream_registry.specs.Pasts.{Attempt}
use Rattle.stream_registry.specs.declared.place_table.Site.{Site}
use Rattle.stream_registry.specs.declared.names.Name.{Name}
use Rattle.stream_registry.specs.declared.names.OpenName.{OpenName}
use Rattle.stream_registry.specs.Roots.{Root, Unlearned, kin_at, gates}
use Rattle.stream_registry.specs.Splits.{Kin}
use Rattle.turn_gate.specs.declared.view.Branch.{Branch}
use Rattle.turn_gate.specs.Branches.{branch, offshoot}
use Rattle.stream_registry.specs.Gates.{told_at}
use Rattle.stream_registry.specs.Names.{PortRules, no_shape, shapes_of}
use Rattle.stream_registry.specs.Sites.{AreSites, AreApart}

pub record SharedState (A E : Type 0) : Type 0 where
  -- the names of the streams at its first places
  pub names : List Name
  -- the open tables at those behind them
  pub opens : List OpenName
  -- what its root has seen at each place
  pub roots : List (Root A E)
  pub busies : ℕ

-- roots that were split off from these
abbrev pub IsShoot : Kin → Kin → Type 0
IsShoot kin other = (q : ℕ) → other q ≡ offshoot (kin q)

-- another port to the same gates, which has seen the same, and met nobody. Each of its roots was split off
-- from the first port's, and none was yet split off from them
abbrev pub IsFork : {A E : Type 0} → SharedState A E → SharedState A E → Type 0
IsFork s p = (p.names ≡ s.names) × (p.opens ≡ s.opens) × Unlearned s.roots p.roots × (p.busies ≡ 0) × IsShoot (kin_at s.roots) (kin_at p.roots)

-- a port from which others were split off, and which has learned nothing
abbrev pub IsAsBefore : {A E : Type 0} → SharedState A E → SharedState A E → Type 0
IsAsBefore s p = (p.names ≡ s.names) × (p.opens ≡ s.opens) × Unlearned s.roots p.roots × (p.busies ≡ s.busies)

-- a port to streams and pools
abbrev pub Streams : Type 0
Streams = SharedState Site Attempt

-- what stands behind a gate, and no room where there is no gate
abbrev pub limits_of : Option (GateId Site) → Shape
limits_of None = no_shape
limits_of (Some g) = g.about.limits

pub limits_at : (o : Option (GateId Site)) (g : GateId Site) → o ≡ Some g → g.about.limits ≡ limits_of o
limits_at o g e = sym (ap limits_of e)

-- what never changes of it
abbrev pub shared_rules : Streams → PortRules
shared_rules s = record { names = s.names; opens = s.opens; limits = λ place. limits_of (slice_get (gates s.roots) place); gates = gates s.roots }

-- a port to these gates that has seen nothing yet
pub record IsNewPort (names : List Name) (opens : List OpenName) (ids : List (GateId Site)) (s : Streams) : Type 0 where
  pub names_are : s.names ≡ names
  pub opens_are : s.opens ≡ opens
  pub gates_are : gates s.roots ≡ ids
  pub unseen : (place : ℕ) → told_at s.roots place ≡ []
  pub no_busies : s.busies ≡ 0

-- so stands the root at each of the first n places
abbrev pub HasKin : ℕ → List Branch → Streams → Type 0
HasKin n kin s = (q : ℕ) → q < n → kin_at s.roots q ≡ kin

-- EACH PORT BUT THE LAST WAS SPLIT OFF FROM THE LAST, at each of n places, and no other pass was
pub record AreSplit (n : ℕ) (ports : List Streams) : Type 0 where
  pub others : List Streams
  pub last : Streams
  pub are : ports ≡ others ++ last ∷ []
  pub each : All (HasKin n (branch 1 0 ∷ [])) others
  pub last_is : HasKin n (branch 0 (length others) ∷ []) last

-- so many new ports, which have the same gate at each place, and at no two places
pub record AreNewPorts (names : List Name) (opens : List OpenName) (limits : StreamLimits) (count : ℕ) (ports : List Streams) : Type 0 where
  pub ids : List (GateId Site)
  pub a_gate_each : length ids ≡ length names + length opens
  pub sites_are : AreSites (shapes_of limits names opens) ids
  pub apart : AreApart ids
  pub each : All (IsNewPort names opens ids) ports
  pub all : length ports ≡ count
  pub kin : 1 ≤ count → AreSplit (length ids) ports

-- the branches of the roots of all these ports at a place
abbrev pub all_kin : List Streams → ℕ → List Branch
all_kin [] place = []
all_kin (p ∷ ps) place = kin_at p.roots place ++ all_kin ps place
