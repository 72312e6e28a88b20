-- What the sessions of a replay were sent begins what they owe, and so of players over HTTP and edges.
use Rattle.std.specs.Prelude.{◌≡◌, All, Option, None, Some}
use Rattle.command_dialog.specs.declared.types.Ask.{Ask}
use Rattle.command_dialog.specs.declared.types.Grant.{Grant}
use Rattle.stream_registry.specs.Books.{SeenState}
use Rattle.relay_session.specs.Acting.{ActsBy}
use Rattle.relay_session.specs.SessionState.{BeginsOwed, SessionState, StandsFor}
use Rattle.relay_session.specs.declared.end.End.{End}
use Rattle.http_flv.specs.PlayerState as http
use Rattle.http_flv.specs.PlayerState.{PlayerState}
use Rattle.http_flv.specs.declared.end.HttpEnd.{HttpEnd}
use Rattle.origin_pull.specs.EdgeState as edge
use Rattle.relay_replay.specs.Guests.{ConnState, PlayState, PullState}
use Rattle.relay_replay.specs.declared.guest.Guest.{Guest}
use Rattle.relay_replay.specs.declared.guest.Guest.TheVariants as guest
use Rattle.relay_replay.specs.Cast.{CastState}
use Rattle.relay_replay.specs.Scenes.{SceneState, desk_of}

-- one that lives stands for what it was fed and its calls
abbrev pub StandsIf : Option End → (Ask → Grant) → SessionState SeenState → Type 0
StandsIf None desk s = StandsFor desk s
StandsIf (Some e) desk s = Unit {0}

-- WHAT A SESSION WAS SENT BEGINS WHAT IT OWES before this desk: for the bytes that it was fed, the messages
-- that they read as, and its calls with their replies. Its link took just that. It asked for nothing but what
-- it was granted
pub record IsServed (desk : Ask → Grant) (c : ConnState) : Type 0 where
  pub stands : StandsIf c.ended desk c.session
  pub owed : BeginsOwed desk c.session.parts
  pub took : c.link.sent ≡ c.session.parts.sent
  pub acts : ActsBy c.session.ended c.session.parts c.session.seat

abbrev pub PlayerStandsIf : Option HttpEnd → (Ask → Grant) → PlayerState SeenState → Type 0
PlayerStandsIf None desk s = http.StandsFor desk s
PlayerStandsIf (Some e) desk s = Unit {0}

-- and what a player over HTTP was sent begins what it owes
pub record PlayerServed (desk : Ask → Grant) (c : PlayState) : Type 0 where
  pub stands : PlayerStandsIf c.ended desk c.player
  pub owed : http.BeginsOwed desk c.player.parts
  pub took : c.link.sent ≡ c.player.parts.sent

-- AN EDGE'S LINK took what its client sent; its calls, and those that wait, are those of what its client was told
pub record EdgeServed (c : PullState) : Type 0 where
  pub stands : edge.StandsFor c.edge
  pub took : c.link.sent ≡ c.edge.client.parts.sent

abbrev pub GuestServed : (Ask → Grant) → Guest → Type 0
GuestServed desk (guest.Session c) = IsServed desk c
GuestServed desk (guest.Player c) = PlayerServed desk c
GuestServed desk (guest.Edge c) = EdgeServed c

abbrev pub ServedIn : (Ask → Grant) → CastState → Type 0
ServedIn desk c = All (GuestServed desk) c.sessions

abbrev pub ServedIf : (Ask → Grant) → Option CastState → Type 0
ServedIf desk None = Unit {0}
ServedIf desk (Some c) = ServedIn desk c

-- of a replay between two lines: before the desk of its streams and open tables
abbrev pub AreServed : SceneState → Type 0
AreServed s = ServedIf (desk_of s) s.cast

-- of what is printed of it
abbrev pub IsServedIn : SceneState → CastState → Type 0
IsServedIn s c = ServedIn (desk_of s) c
