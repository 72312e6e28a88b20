-- The configuration that a table tells, with its defaults
use Rattle.std.specs.Prelude.{ℕ, List, [], map, if◌then◌else◌, Result, Ok, Err}
use Rattle.std.specs.Option.{unwrap_or, option_map_or}
use Rattle.std.specs.List.{filter_map}
use Rattle.hex.specs.Hex.{decode_of}
use Rattle.hex.specs.declared.error.FromHexError.{FromHexError}
use Rattle.toml.specs.Data.{Data, as_str}
use Rattle.key_guard.specs.declared.check.Grants.{Grants}
use Rattle.key_guard.specs.declared.check.Grants.TheVariants as grants
use Rattle.key_guard.specs.declared.check.Mode.{Mode}
use Rattle.key_guard.specs.declared.check.Mode.TheVariants as mode
use Rattle.relay_base.specs.declared.limits.Limits.{Limits}
use Rattle.relay_config.specs.declared.config.Config.{Config}
use Rattle.relay_config.specs.declared.config.PlaceRule.{PlaceRule}
use Rattle.relay_config.specs.declared.config.OpenRule.{OpenRule}
use Rattle.relay_config.specs.declared.key.Key.{Key}
use Rattle.relay_config.specs.declared.key.Key.TheVariants.{Stream, Open, Listen, Http, Workers, Links, Accept, MaxMessage, RingBytes, RingItems, Players}
use Rattle.relay_config.specs.declared.key.Key.TheVariants.{Window, HttpLinks, App, Name, Names, Publish, Play, Digest, Flv, Ts}
use Rattle.relay_config.specs.Forms.{value_at, elements, number_at, number_or, text_at, is_true_at}

-- the bytes that hexadecimal digits name, and a key as it is kept
abbrev pub or_none : Result (List ℕ) FromHexError → List ℕ
or_none (Ok bytes) = bytes
or_none (Err e) = []

abbrev pub kept : Mode → List ℕ → List ℕ
kept mode.Plain text = text
kept mode.Digest text = or_none (decode_of text)
kept mode.Named text = or_none (decode_of text)

abbrev pub keys_of_texts : Mode → List Data → List (List ℕ)
keys_of_texts m list = map (kept m) (filter_map as_str list)

-- how a table keeps its keys: in the mode of its kind of digests, where it has digests
abbrev pub mode_by : Mode → Data → Mode
mode_by digests d = if is_true_at Digest d then digests else mode.Plain

abbrev pub mode_of : Data → Mode
mode_of d = mode_by mode.Digest d

-- the digests of an open table are each for one name
abbrev pub open_mode_of : Data → Mode
open_mode_of d = mode_by mode.Named d

-- absent keys are open grants
abbrev pub grants_at : Key → Mode → Data → Grants
grants_at key m d = option_map_or (λ list. grants.Keys (keys_of_texts m (elements list))) (value_at key d) grants.Open

abbrev pub place_of : Data → PlaceRule
place_of d = record {
  app = unwrap_or (text_at App d) [];
  name = unwrap_or (text_at Name d) [];
  publish = grants_at Publish (mode_of d) d;
  play = grants_at Play (mode_of d) d;
  mode = mode_of d;
  flv = text_at Flv d;
  ts = text_at Ts d;
}

abbrev pub open_of : Data → OpenRule
open_of d = record {
  app = unwrap_or (text_at App d) [];
  names = number_or Names 0 d;
  publish = grants_at Publish (open_mode_of d) d;
  play = grants_at Play (open_mode_of d) d;
  mode = open_mode_of d;
}

abbrev pub limits_of : Data → Limits
limits_of relay = record {
  max_message = number_or MaxMessage 4194304 relay;
  ring_bytes = number_or RingBytes 33554432 relay;
  ring_items = number_or RingItems 16384 relay;
  players = number_or Players 256 relay;
  window = number_or Window 2500000 relay;
}

-- of the table `relay`, the tables `stream` and the tables `open`
abbrev pub config_of : Data → List Data → List Data → Config
config_of relay streams opens = record {
  listen = unwrap_or (text_at Listen relay) [];
  http = text_at Http relay;
  workers = number_or Workers 2 relay;
  links = number_or Links 32 relay;
  http_links = number_at HttpLinks relay;
  accept = number_or Accept 0 relay;
  limits = limits_of relay;
  places = map place_of streams;
  opens = map open_of opens;
}

-- the tables of a list, none where it isn't there
abbrev pub tables_at : Key → Data → List Data
tables_at key d = option_map_or elements (value_at key d) []

abbrev pub streams_of : Data → List Data
streams_of d = tables_at Stream d

abbrev pub opens_of : Data → List Data
opens_of d = tables_at Open d
