-- What the holders of a server hold at most, each by itself
use Rattle.std.specs.Prelude.{ℕ, ◌+◌, ◌*◌, ◌≤◌, List, [], ◌∷◌, length, All}
use Rattle.http_flv.specs.PlayerState.{most_held as most_played}
use Rattle.relay_config.specs.Sum.{http_room, http_workers, recorders_of}
use Rattle.relay_config.specs.declared.config.Config.{Config}
use Rattle.relay_config.specs.declared.config.OpenRule.{OpenRule}
use Rattle.media_recorder.specs.Mediums.{most_held as most_recorded}
use Rattle.relay_session.specs.Holding.{most_held}

-- a stream's window, and one configuration of each kind
abbrev pub most_streamed : ℕ → ℕ
most_streamed window = window + 196608

-- the open tables, as many as were configured or fewer: each of its names holds at most a window, one
-- configuration of each kind, and the name itself
abbrev pub AreTables : ℕ → List OpenRule → List ℕ → Type 0
AreTables window opens [] = Unit {0}
AreTables window [] (n ∷ tables) = ⊥
AreTables window (o ∷ opens) (n ∷ tables) = (n ≤ o.names * (window + 196672)) × AreTables window opens tables

-- SO MANY BYTES EACH HOLDS: the streams, the open tables, the sessions of each worker, the HTTP players, and
-- the recorders. Each holds no more than its own bound, and there are no more of them than the configuration has
pub record AreWithin (config : Config) (streams tables : List ℕ) (workers : List (List ℕ)) (players recorders : List ℕ) : Type 0 where
  pub few_streams : length streams ≤ length config.places
  pub each_stream : All (λ n. n ≤ most_streamed config.limits.ring_bytes) streams
  pub each_table : AreTables config.limits.ring_bytes config.opens tables
  pub few_workers : length workers ≤ config.workers
  pub few_sessions : All (λ w. length w ≤ config.links) workers
  pub each_session : All (λ w. All (λ n. n ≤ most_held config.limits.max_message config.limits.max_message) w) workers
  pub few_players : length players ≤ http_workers config * http_room config
  pub each_player : All (λ n. n ≤ most_played config.limits.max_message) players
  pub few_recorders : length recorders ≤ recorders_of config.places
  pub each_recorder : All (λ n. n ≤ most_recorded config.limits.max_message) recorders
