-- What the places of a port have.
use Rattle.std.proofs.Common.{◌≡◌, ℕ, zero, suc, ◌+◌, ◌<◌, ◌≤◌, List, [], ◌∷◌, length, get_or, map, slice_get, Some, refl, ap, subst, arith, length-append, All}
use Rattle.std.proofs.lemmas.List.{length-map}
use Rattle.std.proofs.lemmas.List.Elements.{All-nil, All-cons}
use Rattle.stream_model.specs.declared.calls.StreamLimits.{StreamLimits}
use Rattle.stream_model.specs.declared.calls.Shape.{Shape}
use Rattle.stream_model.specs.Shape.{stream_shape, pool_shape, AreFewSlots}
use Rattle.stream_registry.specs.declared.names.Name.{Name}
use Rattle.stream_registry.specs.declared.names.OpenName.{OpenName}
use Rattle.stream_registry.specs.Names.{AreFew, AreTables, HaveSlots, shapes_of, shape_at, slots_sum}

-- what is read at a place is what the place has
pub shape_got : (shapes : List Shape) (place : ℕ) (d : Shape) → place < length shapes → shape_at shapes place ≡ get_or shapes place d
shape_got [] place d l = absurd (omega (arith, l))
shape_got (s ∷ shapes) zero d l = refl
shape_got (s ∷ shapes) (suc place) d l = shape_got shapes place d (omega (arith, l))

abbrev Few : Shape → Type 0
Few s = AreFewSlots s.slots

pools_few : (limits : StreamLimits) (opens : List OpenName) → slots_sum opens ≤ 64 → All Few (map (λ o. pool_shape limits o.slots) opens)
pools_few limits [] h = All-nil Few
pools_few limits (o ∷ opens) h = All-cons Few (pool_shape limits o.slots) (map (λ (k : OpenName). pool_shape limits k.slots) opens) (omega arith) (pools_few limits opens (omega arith))

all_few : (limits : StreamLimits) (names : List Name) (opens : List OpenName) → slots_sum opens ≤ 64 → All Few (shapes_of limits names opens)
all_few limits [] opens h = pools_few limits opens h
all_few limits (n ∷ names) opens h = All-cons Few (stream_shape limits) (shapes_of limits names opens) tt (all_few limits names opens h)

-- there are no more open tables than slots
pub few_opens : (opens : List OpenName) → HaveSlots opens → length opens ≤ slots_sum opens
few_opens [] h = omega arith
few_opens (o ∷ opens) h = let one = h.0 in omega (arith, few_opens opens h.1)

pub shapes_length : (limits : StreamLimits) (names : List Name) (opens : List OpenName) → length (shapes_of limits names opens) ≡ length names + length opens
shapes_length limits names opens =
    omega (
      arith,
      length-append (map (λ (n : Name). stream_shape limits) names) (map (λ (o : OpenName). pool_shape limits o.slots) opens),
      length-map names (λ (n : Name). stream_shape limits),
      length-map opens (λ (o : OpenName). pool_shape limits o.slots),
    )

pub few_places : (names : List Name) (opens : List OpenName) → AreFew names opens → length names + length opens ≤ 64
few_places names opens f = let m = f.most in omega (arith, few_opens opens f.some)

pub tables : (limits : StreamLimits) (names : List Name) (opens : List OpenName) → AreFew names opens → AreTables (shapes_of limits names opens)
tables limits names opens f =
    let m = f.most in
    (all_few limits names opens (omega arith), let few = few_places names opens f in omega (arith, shapes_length limits names opens))

-- a listed place has a stream
pub listed : (limits : StreamLimits) (names : List Name) (opens : List OpenName) (place : ℕ) → place < length names → shape_at (shapes_of limits names opens) place ≡ stream_shape limits
listed limits [] opens place l = absurd (omega (arith, l))
listed limits (n ∷ names) opens zero l = refl
listed limits (n ∷ names) opens (suc place) l = listed limits names opens place (omega (arith, l))

pool_at : (limits : StreamLimits) (opens : List OpenName) (table : ℕ) (o : OpenName) → slice_get opens table ≡ Some o → shape_at (map (λ k. pool_shape limits k.slots) opens) table ≡ pool_shape limits o.slots
pool_at limits [] table o e = absurd (cc)
pool_at limits (x ∷ opens) zero o e = let same : x ≡ o = cc in ap (λ (k : OpenName). pool_shape limits k.slots) same
pool_at limits (x ∷ opens) (suc table) o e = pool_at limits opens table o e

-- a place behind the listed ones has the pool of its open table
pub pooled : (limits : StreamLimits) (names : List Name) (opens : List OpenName) (table : ℕ) (o : OpenName) → slice_get opens table ≡ Some o → shape_at (shapes_of limits names opens) (length names + table) ≡ pool_shape limits o.slots
pooled limits [] opens table o e =
    let same : table ≡ length {A = Name} [] + table = omega arith in
    subst (λ (k : ℕ). shape_at (shapes_of limits [] opens) k ≡ pool_shape limits o.slots) same (pool_at limits opens table o e)
pooled limits (n ∷ names) opens table o e =
    let same : suc (length names + table) ≡ length (n ∷ names) + table = omega arith in
    subst (λ (k : ℕ). shape_at (shapes_of limits (n ∷ names) opens) k ≡ pool_shape limits o.slots) same (pooled limits names opens table o e)
