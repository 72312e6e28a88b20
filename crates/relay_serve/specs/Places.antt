-- The places of a configuration: its streams, and behind them its open tables
use Rattle.std.specs.Prelude.{◌≡◌, ◌+◌, ◌<◌, ℕ, length, slice_get, Some}
use Rattle.relay_config.specs.declared.config.Config.{Config}
use Rattle.relay_config.specs.declared.config.OpenRule.{OpenRule}
use Rattle.relay_config.specs.declared.config.PlaceRule.{PlaceRule}
use Rattle.stream_model.specs.declared.calls.Shape.{Shape}
use Rattle.stream_model.specs.declared.calls.StreamLimits.{StreamLimits}
use Rattle.stream_model.specs.Shape.{pool_shape, stream_shape}
use Rattle.stream_registry.specs.declared.names.Name.{Name}
use Rattle.stream_registry.specs.declared.names.OpenName.{OpenName}
use Rattle.stream_registry.specs.Names.{PortRules}

-- the name of the stream at a place
abbrev pub name_of : PlaceRule → Name
name_of p = record { app = p.app; name = p.name }

-- an open table, with a slot for each of its names
abbrev pub open_of : OpenRule → OpenName
open_of o = record { app = o.app; slots = o.names }

-- how many places there are
abbrev pub places_in : Config → ℕ
places_in c = length c.places + length c.opens

-- the limits of each stream and of each slot
abbrev pub limits_in : Config → StreamLimits
limits_in c = record { bytes = c.limits.ring_bytes; items = c.limits.ring_items; players = c.limits.players }

-- WHAT STANDS AT THE PLACES: the streams, and behind them the pools of the open tables, each with a slot for each name
pub record AreShaped (config : Config) (shapes : ℕ → Shape) : Type 0 where
  pub streams : (place : ℕ) → place < length config.places → shapes place ≡ stream_shape (limits_in config)
  pub pools : (table : ℕ) (o : OpenRule) → slice_get config.opens table ≡ Some o
      → shapes (length config.places + table) ≡ pool_shape (limits_in config) o.names

-- a port with as many streams and open tables as are configured
pub record HasPlaces (config : Config) (rules : PortRules) : Type 0 where
  pub streams : length config.places ≡ length rules.names
  pub opens : length config.opens ≡ length rules.opens
