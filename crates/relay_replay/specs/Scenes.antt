-- A replay between two lines of its script.
use Rattle.std.specs.Prelude.{◌≡◌, ℕ, ◌+◌, ◌^◌, ◌<◌, ◌≤◌, Bool, true, false, List, [], ◌∷◌, length, map, All, Option, None, Some}
use Rattle.std.specs.Option.{option_map}
use Rattle.command_dialog.specs.declared.types.Ask.{Ask}
use Rattle.command_dialog.specs.declared.types.Grant.{Grant}
use Rattle.relay_base.specs.declared.limits.Limits.{Limits as AllLimits}
use Rattle.relay_config.specs.declared.config.PlaceRule.{PlaceRule}
use Rattle.relay_config.specs.declared.config.OpenRule.{OpenRule}
use Rattle.relay_config.specs.Sum.{names_of}
use Rattle.media_recorder.specs.Ports.{FitsIf}
use Rattle.stream_model.specs.declared.calls.StreamLimits.{StreamLimits}
use Rattle.stream_registry.specs.Books.{SoleState, SeenState, FitsSole, journal_at, sole_rules}
use Rattle.stream_registry.specs.Names.{PortRules, places}
use Rattle.stream_registry.specs.declared.names.Name.{Name}
use Rattle.stream_registry.specs.declared.names.OpenName.{OpenName}
use Rattle.config_desk.specs.Grants.{granted_from}
use Rattle.relay_session.specs.Places.{IsAt}
use Rattle.relay_session.specs.SessionState.{SessionState}
use Rattle.relay_session.specs.declared.end.End.{End}
use Rattle.relay_script.specs.declared.replay.ReplayLine.{ReplayLine}
use Rattle.relay_script.specs.declared.replay.ReplayLine.TheVariants.{Nothing, Limits, Stream, Guard, Recorder, Session, Piece, Eof, Room, FailRecv, FailSend}
use Rattle.relay_script.specs.declared.replay.ReplayLine.TheVariants.{FailPut, Turn, Rec, Quit, OpenApp, GuardOpen, OpenHttp, OpenEdge}
use Rattle.relay_replay.specs.declared.recording.Plan.{Plan}
use Rattle.relay_replay.specs.Stand.{Stand, acted, after, count, defaults}
use Rattle.http_flv.specs.Keeping as http
use Rattle.http_flv.specs.PlayerState.{PlayerState}
use Rattle.http_flv.specs.declared.end.HttpEnd.{HttpEnd}
use Rattle.origin_pull.specs.Keeping as edge
use Rattle.origin_pull.specs.EdgeState.{EdgeState}
use Rattle.origin_pull.specs.declared.end.EdgeEnd.{EdgeEnd}
use Rattle.relay_replay.specs.Guests.{ConnState}
use Rattle.relay_replay.specs.declared.guest.Guest.{Guest}
use Rattle.relay_replay.specs.declared.guest.Guest.TheVariants as guest
use Rattle.relay_replay.specs.Cast.{RecState, CastState, SettledBy, text_in}
use Rattle.relay_replay.specs.Plays.{Plays}

pub record SceneState : Type 0 where
  -- no line has done something
  pub fresh : Bool
  pub limits : AllLimits
  pub places : List PlaceRule
  pub opens : List OpenRule
  pub recorders : List Plan
  -- what runs, once a line has acted
  pub cast : Option CastState

abbrev pub start : SceneState
start = record { fresh = true; limits = defaults; places = []; opens = []; recorders = []; cast = None }

-- what its lines have said
abbrev pub stand_of : SceneState → Stand
stand_of s = record {
  fresh = s.fresh;
  limits = s.limits;
  places = s.places;
  opens = s.opens;
  recorders = s.recorders;
  sessions = option_map (λ c. length c.sessions) s.cast;
}

-- its desk: what its streams and open tables grant
abbrev pub desk_of : SceneState → Ask → Grant
desk_of s = granted_from 0 s.places s.opens

-- ---- what runs at first

abbrev pub stream_limits : AllLimits → StreamLimits
stream_limits l = record { bytes = l.ring_bytes; items = l.ring_items; players = l.players }

abbrev pub name_of : PlaceRule → Name
name_of p = record { app = p.app; name = p.name }

abbrev pub open_name : OpenRule → OpenName
open_name o = record { app = o.app; slots = o.names }

-- A port of these streams and open tables, each of which has its place
pub record IsPortOf (streams : List PlaceRule) (opens : List OpenRule) (port : SoleState) : Type 0 where
  pub names : port.rules.names ≡ map name_of streams
  pub tables : port.rules.opens ≡ map open_name opens

-- a recorder of that name, as it was planned, which has made no call. The text of no items is pending
pub record IsNewRecorder (who : ℕ) (p : Plan) (r : RecState) : Type 0 where
  pub form : r.form ≡ p.form
  pub seat : r.recorder.seat ≡ record { who = who; place = p.stream; pass = None; calls = [] }
  pub player : r.recorder.player ≡ None
  pub tape : (r.recorder.tape.items ≡ []) × (r.recorder.tape.sent ≡ []) × (r.recorder.tape.pending ≡ text_in p.form [])
  pub live : r.recorder.end ≡ None
  pub file : r.file ≡ record { bytes = []; put_fails = false; faults = 0 }
  pub ended : r.ended ≡ None

-- those that were planned, each named by its number from n on
abbrev pub AreNew : ℕ → List Plan → List RecState → Type 0
AreNew n [] [] = Unit {0}
AreNew n [] (r ∷ rs) = ⊥
AreNew n (p ∷ ps) [] = ⊥
AreNew n (p ∷ ps) (r ∷ rs) = IsNewRecorder (2 ^ 60 + n) p r × AreNew (n + 1) ps rs

-- EMPTY HISTORIES, no session, and a fresh recorder for each that was named
pub record IsNewCast (s : SceneState) (c : CastState) : Type 0 where
  pub port : IsPortOf s.places s.opens c.port
  pub limits : c.port.rules.limits ≡ stream_limits s.limits
  pub empty : (q : ℕ) → journal_at c.port.books q ≡ []
  pub sessions : c.sessions ≡ []
  pub recorders : AreNew 0 s.recorders c.recorders
  pub longest : All (λ r. r.recorder.tape.longest ≡ s.limits.max_message) c.recorders

abbrev pub IsOpen : Option CastState → SceneState → CastState → Type 0
IsOpen None s c = IsNewCast s c
IsOpen (Some d) s c = c ≡ d

-- ---- one line

-- whether it acts, and doesn't only say what is to run
abbrev pub is_acting : ReplayLine → Bool
is_acting Nothing = false
is_acting (Limits message bytes items players window) = false
is_acting (Stream app name) = false
is_acting (Guard n side mode key) = false
is_acting (OpenApp app n) = false
is_acting (GuardOpen n side mode key) = false
is_acting (Recorder n form) = false
is_acting _ = true

pub record Acts (line : ReplayLine) (s t : SceneState) : Type 0 where
  pub before : CastState
  pub opened : IsOpen s.cast s before
  pub now : CastState
  pub plays : Plays s.limits (desk_of s) line before now
  pub cast : t.cast ≡ Some now

abbrev pub CastBy : Bool → ReplayLine → SceneState → SceneState → Type 0
CastBy false line s t = t.cast ≡ s.cast
CastBy true line s t = Acts line s t

-- WHAT A LINE DOES
pub record Does (line : ReplayLine) (s t : SceneState) : Type 0 where
  pub stand : stand_of t ≡ after line (stand_of s)
  pub cast : CastBy (is_acting line) line s t

-- TURNS OF A SESSION until it is idle, or has ended, so many at most; where it isn't done, all of them moved something
pub record SettledIn (done : Bool) (most n : ℕ) (s t : SceneState) : Type 0 where
  pub stand : stand_of t ≡ acted (count (stand_of s).sessions) (stand_of s)
  pub before : CastState
  pub opened : IsOpen s.cast s before
  pub now : CastState
  pub turns : SettledBy done most (desk_of s) n before now
  pub cast : t.cast ≡ Some now

-- ---- what stays true

-- a session that lives belongs to the streams
abbrev pub ReadyBy : Option End → SoleState → SessionState SeenState → Type 0
ReadyBy None port s = IsAt (FitsSole port) (places (sole_rules port.rules)) s.parts s.seat
ReadyBy (Some e) port s = Unit {0}

abbrev pub Ready : SoleState → ConnState → Type 0
Ready port c = ReadyBy c.ended port c.session

abbrev pub PlayerReady : Option HttpEnd → SoleState → PlayerState SeenState → Type 0
PlayerReady None port s = http.IsAt (FitsSole port) (places (sole_rules port.rules)) s.parts s.seat
PlayerReady (Some e) port s = Unit {0}

abbrev pub EdgeReady : Option EdgeEnd → SoleState → EdgeState SeenState → Type 0
EdgeReady None port s = edge.IsAt (FitsSole port) (places (sole_rules port.rules)) s.parts s.seat
EdgeReady (Some e) port s = Unit {0}

-- so does a player, and an edge
abbrev pub ReadyGuest : SoleState → Guest → Type 0
ReadyGuest port (guest.Session c) = Ready port c
ReadyGuest port (guest.Player c) = PlayerReady c.ended port c.player
ReadyGuest port (guest.Edge c) = EdgeReady c.ended port c.edge

-- and so does a recorder
abbrev pub Fits : SoleState → RecState → Type 0
Fits port r = (r.recorder.seat.place < length (sole_rules port.rules).names) × FitsIf (FitsSole port r.recorder.seat.place) r.recorder.seat.pass

-- at these streams and open tables, with so many recorders
pub record Sits (streams : List PlaceRule) (opens : List OpenRule) (files : ℕ) (c : CastState) : Type 0 where
  pub port : IsPortOf streams opens c.port
  pub few : length c.sessions ≤ 64
  pub sessions : All (ReadyGuest c.port) c.sessions
  pub count : length c.recorders ≡ files
  pub recorders : All (Fits c.port) c.recorders

abbrev pub SitsIf : List PlaceRule → List OpenRule → ℕ → Option CastState → Type 0
SitsIf streams opens recorders None = Unit {0}
SitsIf streams opens recorders (Some c) = Sits streams opens recorders c

-- each place has these limits
abbrev pub HaveLimits : AllLimits → PortRules → Type 0
HaveLimits l r = (q : ℕ) → q < places r → (r.limits q).limits ≡ stream_limits l

-- the longest message that it takes or sends
abbrev pub max_of : Guest → ℕ
max_of (guest.Session c) = c.session.parts.reader.max
max_of (guest.Player c) = c.player.parts.longest
max_of (guest.Edge c) = c.edge.client.parts.reader.max

-- WHAT RUNS KEEPS THE LIMITS of its script: those of the places, and the longest message of the sessions and
-- the recorders
pub record IsLimited (l : AllLimits) (c : CastState) : Type 0 where
  pub streams : HaveLimits l (sole_rules c.port.rules)
  pub sessions : All (λ g. max_of g ≡ l.max_message) c.sessions
  pub recorders : All (λ r. r.recorder.tape.longest ≡ l.max_message) c.recorders

abbrev pub LimitedIf : AllLimits → Option CastState → Type 0
LimitedIf l None = Unit {0}
LimitedIf l (Some c) = IsLimited l c

-- and nothing runs before a line has done something
abbrev pub LimitedBy : Bool → AllLimits → Option CastState → Type 0
LimitedBy true l c = c ≡ None
LimitedBy false l c = LimitedIf l c

-- The streams and the names of the open tables are at most 64. No stream has a longer name than a call may
-- carry, and no open table has none
pub record AreNamed (streams : List PlaceRule) (opens : List OpenRule) : Type 0 where
  pub few : length streams + names_of opens ≤ 64
  pub short : All (λ p. length p.name ≤ 64) streams
  pub some : All (λ o. 1 ≤ o.names) opens

pub record IsSound (s : SceneState) : Type 0 where
  pub message : s.limits.max_message ≤ 4194304
  pub ring : s.limits.ring_bytes ≤ 268435456
  pub named : AreNamed s.places s.opens
  pub recorders : All (λ p. p.stream < length s.places) s.recorders
  pub cast : SitsIf s.places s.opens (length s.recorders) s.cast
  pub limited : LimitedBy s.fresh s.limits s.cast

-- names of 1 to 64 bytes
abbrev pub AreShort : List ℕ → List ℕ → Type 0
AreShort app name = (1 ≤ length app) × (length app ≤ 64) × (1 ≤ length name) × (length name ≤ 64)

-- the session or recorder that it names is there, and a session more finds room
abbrev pub IsThere : ReplayLine → CastState → Type 0
IsThere Session c = length c.sessions < 64
IsThere OpenHttp c = length c.sessions < 64
IsThere (OpenEdge n app name) c = (length c.sessions < 64) × (n < places (sole_rules c.port.rules)) × AreShort app name
IsThere (Piece n bytes) c = n < length c.sessions
IsThere (Eof n) c = n < length c.sessions
IsThere (Room n left) c = n < length c.sessions
IsThere (FailRecv n) c = n < length c.sessions
IsThere (FailSend n) c = n < length c.sessions
IsThere (FailPut n) c = n < length c.recorders
IsThere (Turn n k) c = n < length c.sessions
IsThere (Rec n k) c = n < length c.recorders
IsThere (Quit n) c = n < length c.sessions
IsThere _ c = Unit {0}

-- how many sessions are open after a line
abbrev pub opened_by : ReplayLine → ℕ → ℕ
opened_by Session n = n + 1
opened_by OpenHttp n = n + 1
opened_by (OpenEdge k app name) n = n + 1
opened_by _ n = n
