-- What stands at a port's places
use Rattle.std.proofs.Common.{◌≡◌, ◌+◌, ◌<◌, ℕ, zero, suc, List, [], ◌∷◌, length, map, None, Some, slice_get, refl, ap, sym, ◌∙◌, arith}
use Rattle.std.specs.Option.{option_map}
use Rattle.std.proofs.lemmas.List.{length-map}
use Rattle.std.proofs.lemmas.Option.{slice_get_within}
use Rattle.turn_gate.specs.Known.{GateId}
use Rattle.relay_config.specs.declared.config.Config.{Config}
use Rattle.stream_model.specs.declared.calls.StreamLimits.{StreamLimits}
use Rattle.stream_model.specs.Shape.{pool_shape, stream_shape}
use Rattle.stream_registry.specs.declared.place_table.Site.{Site}
use Rattle.stream_registry.specs.declared.names.Name.{Name}
use Rattle.stream_registry.specs.declared.names.OpenName.{OpenName}
use Rattle.stream_registry.specs.Names.{shape_at, shapes_of}
use Rattle.stream_registry.specs.Roots.{gates}
use Rattle.stream_registry.specs.SharedState.{Streams, limits_of, shared_rules}
use Rattle.stream_registry.specs.Sites.{AreSites}
use Rattle.relay_serve.specs.Places.{AreShaped, limits_in, name_of, open_of}

there_is : {X : Type 0} (xs : List X) (n : ℕ) → n < length xs → (x : X) × (slice_get xs n ≡ Some x)
there_is [] n l = absurd (omega (arith, l))
there_is (x ∷ xs) zero l = (x, refl)
there_is (x ∷ xs) (suc n) l = there_is xs n (omega (arith, l))

got_map : {X Y : Type 0} (f : X → Y) (xs : List X) (n : ℕ) (x : X) → slice_get xs n ≡ Some x → slice_get (map f xs) n ≡ Some (f x)
got_map f [] n x e = absurd (let g : None ≡ Some x = e in cc)
got_map f (y ∷ ys) zero x e = ap (option_map f) e
got_map f (y ∷ ys) (suc n) x e = got_map f ys n x e

module _ (config : Config) (names : List Name) (opens : List OpenName) (ids : List (GateId Site)) (port : Streams) (same : gates port.roots ≡ ids)
    (sites : AreSites (shapes_of (limits_in config) names opens) ids) where
  shape_there : (place : ℕ) → place < length ids → (shared_rules port).limits place ≡ shape_at (shapes_of (limits_in config) names opens) place
  shape_there place l =
      let t = there_is ids place l in
      ap (λ (h : List (GateId Site)). limits_of (slice_get h place)) same ∙ (ap limits_of t.1 ∙ ap (λ (s : Site). s.limits) (sites place t.0 t.1))

  -- those of a new port
  pub new_shapes : ((limits : StreamLimits) (names : List Name) (opens : List OpenName) (place : ℕ) → place < length names
      → shape_at (shapes_of limits names opens) place ≡ stream_shape limits)
      → ((limits : StreamLimits) (names : List Name) (opens : List OpenName) (table : ℕ) (o : OpenName) → slice_get opens table ≡ Some o
      → shape_at (shapes_of limits names opens) (length names + table) ≡ pool_shape limits o.slots)
      → names ≡ map name_of config.places → opens ≡ map open_of config.opens → length ids ≡ length names + length opens
      → AreShaped config (shared_rules port).limits
  new_shapes listed pooled n o each =
      let long : length names ≡ length config.places = ap length n ∙ length-map config.places name_of in
      record {
        streams = λ place l. shape_there place (omega (arith, l, each, long)) ∙ listed (limits_in config) names opens place (omega (arith, l, long));
        pools = λ table r e.
            let there : slice_get opens table ≡ Some (open_of r) = ap (λ (os : List OpenName). slice_get os table) o ∙ got_map open_of config.opens table r e in
            let l : table < length opens = slice_get_within opens table (open_of r) there in
            ap (λ (k : ℕ). (shared_rules port).limits (k + table)) (sym long)
            ∙ (shape_there (length names + table) (omega (arith, l, each)) ∙ pooled (limits_in config) names opens table (open_of r) there);
      }
