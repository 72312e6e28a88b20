-- The bound on the memory that a relay holds, in bytes
use Rattle.std.specs.Prelude.{ℕ, ◌+◌, ◌*◌, ◌<◌, ◌≤◌, ◌^◌, List, [], ◌∷◌, length, count_by, is_some, if◌then◌else◌, Option, Some, None, IfSome}
use Rattle.std.specs.Option.{unwrap_or}
use Rattle.std.specs.Int.{div_ceil}
use Rattle.relay_base.specs.declared.limits.Limits.{Limits}
use Rattle.relay_config.specs.declared.config.Config.{Config}
use Rattle.relay_config.specs.declared.config.PlaceRule.{PlaceRule}
use Rattle.relay_config.specs.declared.config.OpenRule.{OpenRule}

-- a stream: its ring, and one configuration of each kind
abbrev pub stream_bytes : Limits → ℕ
stream_bytes limits = limits.ring_bytes + 196608

-- a name of an open table: those of a stream, and the name itself
abbrev pub name_bytes : Limits → ℕ
name_bytes limits = limits.ring_bytes + 196672

-- a session: its input, what its reader assembles, its answers, and the unit in its hand as it is and in chunks
abbrev pub session_bytes : Limits → ℕ
session_bytes limits = 4096 + (limits.max_message + 65536) + 32768 + limits.max_message + div_ceil limits.max_message 512

-- an HTTP player: the head of its request, and the tag of the unit in its hand
abbrev pub player_bytes : Limits → ℕ
player_bytes limits = 4096 + (limits.max_message + 256)

abbrev pub recorder_bytes : Limits → ℕ
recorder_bytes limits = 4 * limits.max_message + 262144

abbrev pub total_of : Limits → ℕ → ℕ → ℕ → ℕ → ℕ
total_of limits streams names sessions recorders =
    streams * stream_bytes limits + names * name_bytes limits + sessions * session_bytes limits + recorders * recorder_bytes limits

-- the recordings that a configuration names
abbrev pub recorders_of : List PlaceRule → ℕ
recorders_of places = count_by (λ p. is_some p.flv) places + count_by (λ p. is_some p.ts) places

-- the names that open tables have together
abbrev pub names_of : List OpenRule → ℕ
names_of [] = 0
names_of (o ∷ opens) = o.names + names_of opens

-- the workers that serve players that speak HTTP
abbrev pub http_workers : Config → ℕ
http_workers config = if is_some config.http then 1 else 0

-- the link places of HTTP players
abbrev pub http_room : Config → ℕ
http_room config = unwrap_or config.http_links config.links

-- the link places that are reckoned as sessions: also those of HTTP players, unless they have a number of
-- their own
abbrev pub sessions_by : ℕ → ℕ → ℕ → Option ℕ → ℕ
sessions_by workers http links None = (workers + http) * links
sessions_by workers http links (Some own) = workers * links

abbrev pub sessions_of : Config → ℕ
sessions_of config = sessions_by config.workers (http_workers config) config.links config.http_links

-- and those that are reckoned as HTTP players
abbrev pub players_of : Config → ℕ
players_of config = http_workers config * unwrap_or config.http_links 0

-- the configured sum
abbrev pub configured_sum : Config → ℕ
configured_sum config =
    total_of config.limits (length config.places) (names_of config.opens) (sessions_of config) (recorders_of config.places)
    + players_of config * player_bytes config.limits

-- the ranges of a configuration's numbers
pub record InRange (config : Config) : Type 0 where
  pub workers : (1 ≤ config.workers) × (config.workers ≤ 16)
  pub links : (1 ≤ config.links) × (config.links ≤ 64)
  pub accept : config.accept ≤ 1000000
  pub http_links : IfSome config.http_links (λ n. (1 ≤ n) × (n ≤ 1024))
  pub max_message : (4096 ≤ config.limits.max_message) × (config.limits.max_message ≤ 4194304)
  pub ring_bytes : (config.limits.max_message + 64 ≤ config.limits.ring_bytes) × (config.limits.ring_bytes ≤ 268435456)
  pub ring_items : (16 ≤ config.limits.ring_items) × (config.limits.ring_items ≤ 65536)
  pub players : (4 ≤ config.limits.players) × (config.limits.players ≤ 256)
  pub window : (1000 ≤ config.limits.window) × (config.limits.window < 2 ^ 31)
