-- How the keys of a configuration are written
use Rattle.std.specs.Prelude.{ℕ, List, codes}
use Rattle.relay_config.specs.declared.key.Key.{Key}
use Rattle.relay_config.specs.declared.key.Key.TheVariants.{Relay, Stream, Open, Listen, Http, Workers, Links, Accept, MaxMessage, RingBytes, RingItems, Players}
use Rattle.relay_config.specs.declared.key.Key.TheVariants.{Window, HttpLinks, App, Name, Names, Publish, Play, Digest, Flv, Ts}

abbrev pub name_of : Key → List ℕ
name_of Relay = codes "relay"
name_of Stream = codes "stream"
name_of Open = codes "open"
name_of Listen = codes "listen"
name_of Http = codes "http"
name_of Workers = codes "workers"
name_of Links = codes "links"
name_of Accept = codes "accept"
name_of MaxMessage = codes "max_message"
name_of RingBytes = codes "ring_bytes"
name_of RingItems = codes "ring_items"
name_of Players = codes "players"
name_of Window = codes "window"
name_of HttpLinks = codes "http_links"
name_of App = codes "app"
name_of Name = codes "name"
name_of Names = codes "names"
name_of Publish = codes "publish"
name_of Play = codes "play"
name_of Digest = codes "digest"
name_of Flv = codes "flv"
name_of Ts = codes "ts"
