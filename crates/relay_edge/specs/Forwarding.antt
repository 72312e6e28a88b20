-- For whom an HTTP proxy asks, by the words of the field `X-Forwarded-For`
use Rattle.std.specs.Prelude.{ℕ, List, [], ◌∷◌, Option, None, Some, ⊤}
use Rattle.std.specs.Net.Grammar.{IsIpText}
use Rattle.std.specs.declared.net.ip_addr.IpAddr.{IpAddr}
use Rattle.relay_edge.specs.declared.forwarded.Word.{Word}
use Rattle.relay_edge.specs.declared.forwarded.Word.TheVariants.{Proxy, Other, NoAddress}
use Rattle.relay_edge.specs.declared.proxies.Unlisted.{Unlisted}
use Rattle.relay_edge.specs.declared.proxies.Unlisted.TheVariants as unlisted

-- what a word is that has this text
abbrev pub IsWordOf : List ℕ → Word → Type 0
IsWordOf text (Proxy a) = IsIpText text a
IsWordOf text (Other a) = IsIpText text a
IsWordOf text NoAddress = (a : IpAddr) → ¬ (IsIpText text a)

-- behind a proxy, if there is one: each proxy tells its peer, so the first that is no proxy in front asks, and if there is none, the proxy that is
-- farthest away. What is no address tells nobody.
abbrev pub who_asks_behind : Option IpAddr → List Word → Option IpAddr
who_asks_behind proxy [] = proxy
who_asks_behind proxy (Proxy a ∷ words) = who_asks_behind (Some a) words
who_asks_behind proxy (Other a ∷ words) = Some a
who_asks_behind proxy (NoAddress ∷ words) = None

-- Who asks, by the words from the nearest to the farthest. Each proxy adds one at the end of the field, so the nearest is the field's last.
abbrev pub who_asks : List Word → Option IpAddr
who_asks words = who_asks_behind None words

-- a list of addresses is refused for a word that is none
abbrev pub IsRefused : Unlisted → Type 0
IsRefused (unlisted.NoAddress word) = (a : IpAddr) → ¬ (IsIpText word.now a)
IsRefused unlisted.OutOfMemory = ⊤
