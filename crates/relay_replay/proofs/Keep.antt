-- What stays true of the cast.
use Rattle.std.proofs.Common.{◌≡◌, ◌<◌, ◌+◌, ℕ, zero, suc, true, false, if◌then◌else◌, List, [], ◌∷◌, length, get_or, slice_get, slice_set}
use Rattle.std.proofs.Common.{Option, Some, None, Result, Ok, Err, IfOk, OnOk, refl, ap, sym, ◌∙◌, subst, arith, is_some}
use Rattle.std.proofs.lemmas.List.{length-map}
use Rattle.std.proofs.lemmas.List.Elements.{All-set, All-weaker}
use Rattle.av_unit.specs.declared.bytes.OutOfMemory.{OutOfMemory}
use Rattle.command_dialog.specs.declared.types.Ask.{Ask}
use Rattle.command_dialog.specs.declared.types.Grant.{Grant}
use Rattle.command_dialog.specs.declared.types.Grant.TheVariants.{NoName, Refused, Place}
use Rattle.relay_config.specs.declared.config.PlaceRule.{PlaceRule}
use Rattle.relay_config.specs.declared.config.OpenRule.{OpenRule}
use Rattle.relay_outside.specs.MemLinks.{MemHears, MemSays}
use Rattle.stream_registry.specs.Books.{SoleState, SeenState, FitsSole, journal_at, sole_rules}
use Rattle.stream_model.specs.Names.{is_name}
use Rattle.stream_registry.specs.Names.{PortRules, places}
use Rattle.media_recorder.specs.Ports.{FitsIf}
use Rattle.relay_session.specs.Acting.{ActsBy}
use Rattle.config_desk.specs.Grants.{Keys, granted_from, has_app, is_named, judged, opened_from, stream_keys, table_keys, tables_from, takes_key}
use Rattle.relay_session.specs.Places.{IsGrantThere, IsOffered, IsThere}
use Rattle.relay_session.specs.SeatState.{GoOn, HasFit}
use Rattle.relay_session.specs.SessionState.{BeginsOwed, IsWhole, SessionState, StandsFor, ended_by, lasting_of, life_at}
use Rattle.relay_session.specs.Turns.{EndedBy}
use Rattle.relay_session.specs.declared.end.End.{End}
use Rattle.relay_session.specs.declared.turn.Turn.{Turn}
use Rattle.http_flv.specs.Keeping as http
use Rattle.http_flv.specs.PlayerState as player
use Rattle.http_flv.specs.PlayerState.{PlayerState}
use Rattle.http_flv.specs.Turns as http_turns
use Rattle.http_flv.specs.declared.end.HttpEnd.{HttpEnd}
use Rattle.http_flv.specs.declared.turn.HttpTurn.{HttpTurn}
use Rattle.origin_pull.specs.EdgeState as edge
use Rattle.origin_pull.specs.EdgeState.{EdgeState}
use Rattle.origin_pull.specs.Turns as edge_turns
use Rattle.origin_pull.specs.declared.end.EdgeEnd.{EdgeEnd}
use Rattle.origin_pull.specs.declared.turn.EdgeTurn.{EdgeTurn}
use Rattle.relay_replay.specs.Guests.{ConnState, PlayState, PullState}
use Rattle.relay_replay.specs.declared.guest.Guest.{Guest}
use Rattle.relay_replay.specs.declared.guest.Guest.TheVariants as guest
use Rattle.relay_replay.specs.declared.guest.Answered.{Answered}
use Rattle.relay_replay.specs.declared.guest.Answered.TheVariants as answered
use Rattle.relay_replay.specs.Cast.{RecState, CastState, AfterTurn, AnsweredBy, AnsweredTurn, EdgeAnsweredBy, GuestTurn, PlayerAnsweredBy, Times}
use Rattle.relay_replay.specs.Cast.{Turned, Each, is_moved}
use Rattle.relay_replay.specs.Cast.{told_edge, told_http, told_turn}
use Rattle.relay_replay.specs.Turning.{AfterEdgeTurn, AfterHttpTurn, EdgeTurned, PlayerTurned}
use Rattle.relay_replay.specs.Scenes.{EdgeReady, Fits, IsPortOf, PlayerReady, ReadyBy, ReadyGuest, Sits, name_of, open_name}
use Rattle.relay_replay.specs.Streams.{SoleAsks}

-- ---- the desk grants places that are there

judged_there : (k : Keys) (ask : Ask) (n count : ℕ) → n < count → IsGrantThere count (judged k ask n)
judged_there k ask n count h = elim (takes_key k ask) as (λ b. IsGrantThere count (if b then Place n else Refused)) [ true ↦ h | false ↦ tt ]

tables_there : (n : ℕ) (opens : List OpenRule) (ask : Ask) → IsGrantThere (n + length opens) (tables_from n opens ask)
tables_there n [] ask = tt
tables_there n (o ∷ rest) ask =
    let same : n + 1 + length rest ≡ n + length (o ∷ rest) = omega arith in
    let later = subst (λ (k : ℕ). IsGrantThere k (tables_from (n + 1) rest ask)) same (tables_there (n + 1) rest ask) in
    elim (has_app o ask) as (λ b. IsGrantThere (n + length (o ∷ rest)) (if b then judged (table_keys o) ask n else tables_from (n + 1) rest ask)) [
      | true ↦ judged_there (table_keys o) ask n (n + length (o ∷ rest)) (omega arith)
      | false ↦ later
    ]

opened_there : (n : ℕ) (opens : List OpenRule) (ask : Ask) → IsGrantThere (n + length opens) (opened_from n opens ask)
opened_there n opens ask =
    elim (is_name ask.name) as (λ b. IsGrantThere (n + length opens) (if b then tables_from n opens ask else NoName)) [
      | true ↦ tables_there n opens ask
      | false ↦ tt
    ]

offered_from : (n : ℕ) (places : List PlaceRule) (opens : List OpenRule) (ask : Ask)
    → IsGrantThere (n + (length places + length opens)) (granted_from n places opens ask)
offered_from n [] opens ask =
    let same : length opens ≡ length {A = PlaceRule} [] + length opens = omega arith in
    subst (λ (k : ℕ). IsGrantThere (n + k) (granted_from n [] opens ask)) same (opened_there n opens ask)
offered_from n (p ∷ rest) opens ask =
    let all = n + (length (p ∷ rest) + length opens) in
    let same : n + 1 + (length rest + length opens) ≡ n + (length (p ∷ rest) + length opens) = omega arith in
    let later = subst (λ (k : ℕ). IsGrantThere k (granted_from (n + 1) rest opens ask)) same (offered_from (n + 1) rest opens ask) in
    elim (is_named p ask) as (λ b. IsGrantThere all (if b then judged (stream_keys p) ask n else granted_from (n + 1) rest opens ask)) [
      | true ↦ judged_there (stream_keys p) ask n all (omega arith)
      | false ↦ later
    ]

zero_and : (n : ℕ) → 0 + n ≡ n
zero_and n = omega arith

-- a port to these streams and open tables has as many places
pub as_many_places : (streams : List PlaceRule) (opens : List OpenRule) (port : SoleState) → IsPortOf streams opens port
    → places (sole_rules port.rules) ≡ length streams + length opens
as_many_places streams opens port p =
    let names : length port.rules.names ≡ length streams = ap length p.names ∙ length-map streams name_of in
    let tables : length port.rules.opens ≡ length opens = ap length p.tables ∙ length-map opens open_name in
    omega (arith, names, tables)

pub offered : (streams : List PlaceRule) (opens : List OpenRule) (port : SoleState) → IsPortOf streams opens port
    → IsOffered (granted_from 0 streams opens) (places (sole_rules port.rules))
offered streams opens port p = λ ask.
    subst (λ (k : ℕ). IsGrantThere k (granted_from 0 streams opens ask)) (zero_and (length streams + length opens) ∙ sym (as_many_places streams opens port p))
    (offered_from 0 streams opens ask)

-- another port by the same rules
pub port_on : (streams : List PlaceRule) (opens : List OpenRule) (port port' : SoleState) → sole_rules port'.rules ≡ sole_rules port.rules
    → IsPortOf streams opens port → IsPortOf streams opens port'
port_on streams opens port port' same p = record {
  names = ap (λ (x : PortRules). x.names) same ∙ p.names;
  tables = ap (λ (x : PortRules). x.opens) same ∙ p.tables;
}

-- ---- lists

pub length_set : {A : Type 0} → (xs : List A) (n : ℕ) (y : A) → length (slice_set xs n y) ≡ length xs
length_set [] n y = refl
length_set (x ∷ xs) zero y = refl
length_set (x ∷ xs) (suc n) y = ap suc (length_set xs n y)

-- ---- what fits a port fits it on

fit_on : (port port' : SoleState) (spot : Option (ℕ × SeenState)) → ((q : ℕ) (p : SeenState) → FitsSole port q p → FitsSole port' q p)
    → HasFit (FitsSole port) spot → HasFit (FitsSole port') spot
fit_on port port' None fits h = tt
fit_on port port' (Some p) fits h = fits p.0 p.1 h

ready_on : (e : Option End) (port port' : SoleState) (s : SessionState SeenState) → sole_rules port'.rules ≡ sole_rules port.rules
    → ((q : ℕ) (p : SeenState) → FitsSole port q p → FitsSole port' q p) → ReadyBy e port s → ReadyBy e port' s
ready_on None port port' s same fits r = record {
  fit = fit_on port port' s.seat.spot fits r.fit;
  there = subst (λ (x : PortRules). IsThere (places x) s.parts.place) (sym same) r.there;
  calls = r.calls;
}
ready_on (Some e) port port' s same fits r = tt

player_on : (e : Option HttpEnd) (port port' : SoleState) (s : PlayerState SeenState) → sole_rules port'.rules ≡ sole_rules port.rules
    → ((q : ℕ) (p : SeenState) → FitsSole port q p → FitsSole port' q p) → PlayerReady e port s → PlayerReady e port' s
player_on None port port' s same fits r = record {
  fit = fit_on port port' s.seat.spot fits r.fit;
  there = subst (λ (x : PortRules). http.IsThere (places x) s.parts.stage) (sym same) r.there;
  calls = r.calls;
}
player_on (Some e) port port' s same fits r = tt

edge_on : (e : Option EdgeEnd) (port port' : SoleState) (s : EdgeState SeenState) → sole_rules port'.rules ≡ sole_rules port.rules
    → ((q : ℕ) (p : SeenState) → FitsSole port q p → FitsSole port' q p) → EdgeReady e port s → EdgeReady e port' s
edge_on None port port' s same fits r = record {
  fit = fit_on port port' s.seat.spot fits r.fit;
  there = subst (λ (x : PortRules). s.parts.place < places x) (sym same) r.there;
  here = r.here;
  calls = r.calls;
  places = r.places;
  granted = r.granted;
}
edge_on (Some e) port port' s same fits r = tt

guest_on : (g : Guest) (port port' : SoleState) → sole_rules port'.rules ≡ sole_rules port.rules
    → ((q : ℕ) (p : SeenState) → FitsSole port q p → FitsSole port' q p) → ReadyGuest port g → ReadyGuest port' g
guest_on (guest.Session c) port port' same fits r = ready_on c.ended port port' c.session same fits r
guest_on (guest.Player c) port port' same fits r = player_on c.ended port port' c.player same fits r
guest_on (guest.Edge c) port port' same fits r = edge_on c.ended port port' c.edge same fits r

rec_fit_on : (port port' : SoleState) (place : ℕ) (pass : Option SeenState) → ((q : ℕ) (p : SeenState) → FitsSole port q p → FitsSole port' q p)
    → FitsIf (FitsSole port place) pass → FitsIf (FitsSole port' place) pass
rec_fit_on port port' place None fits h = tt
rec_fit_on port port' place (Some p) fits h = fits place p h

fits_on : (port port' : SoleState) (r : RecState) → sole_rules port'.rules ≡ sole_rules port.rules
    → ((q : ℕ) (p : SeenState) → FitsSole port q p → FitsSole port' q p) → Fits port r → Fits port' r
fits_on port port' r same fits h = (
  subst (λ (x : PortRules). r.recorder.seat.place < length x.names) (sym same) h.0,
  rec_fit_on port port' r.recorder.seat.place r.recorder.seat.pass fits h.1,
)

-- ---- after a turn

pub session_sits : (r : Result Answered OutOfMemory) (streams : List PlaceRule) (opens : List OpenRule) (files n : ℕ) (c : CastState) (port' : SoleState)
    (d : Guest) → Sits streams opens files c → sole_rules port'.rules ≡ sole_rules c.port.rules
    → ((q : ℕ) (p : SeenState) → FitsSole c.port q p → FitsSole port' q p) → OnOk r (ReadyGuest port' d)
    → OnOk r (Sits streams opens files (record { port = port'; sessions = slice_set c.sessions n d; recorders = c.recorders }))
session_sits (Ok x) streams opens files n c port' d s same fits ready = record {
  port = port_on streams opens c.port port' same s.port;
  few = rw (length_set c.sessions n d) s.few;
  sessions = All-set (ReadyGuest port') c.sessions n d ready (All-weaker (ReadyGuest c.port) (ReadyGuest port')
      (λ g. guest_on g c.port port' same fits) c.sessions s.sessions);
  count = s.count;
  recorders = All-weaker (Fits c.port) (Fits port') (λ x. fits_on c.port port' x same fits) c.recorders s.recorders;
}
session_sits (Err e) streams opens files n c port' d s same fits ready = tt

pub recorder_sits : (r : Result (Unit {0}) OutOfMemory) (streams : List PlaceRule) (opens : List OpenRule) (files n : ℕ) (c : CastState) (port' : SoleState)
    (d : RecState) → Sits streams opens files c → sole_rules port'.rules ≡ sole_rules c.port.rules
    → ((q : ℕ) (p : SeenState) → FitsSole c.port q p → FitsSole port' q p) → Fits port' d
    → OnOk r (Sits streams opens files (record { port = port'; sessions = c.sessions; recorders = slice_set c.recorders n d }))
recorder_sits (Ok x) streams opens files n c port' d s same fits fit = record {
  port = port_on streams opens c.port port' same s.port;
  few = s.few;
  sessions = All-weaker (ReadyGuest c.port) (ReadyGuest port') (λ g. guest_on g c.port port' same fits) c.sessions s.sessions;
  count = length_set c.recorders n d ∙ s.count;
  recorders = All-set (Fits port') c.recorders n d fit (All-weaker (Fits c.port) (Fits port') (λ x. fits_on c.port port' x same fits) c.recorders s.recorders);
}
recorder_sits (Err e) streams opens files n c port' d s same fits fit = tt

-- ---- a session's turn

turned_by : (e : Option End) (desk : Ask → Grant) (port : SoleState) (c : ConnState) (port' : SoleState) (d : ConnState) → is_some e ≡ false
    → (t : Turned desk port c port' d) → AnsweredBy (told_turn t.answer) e desk port c port' d
turned_by None desk port c port' d h t = (t, refl)
turned_by (Some e) desk port c port' d h t = absurd (cc)

pub turned : (desk : Ask → Grant) (port between port' : SoleState) (c d : ConnState) (mid : SessionState SeenState) (a : Turn) (told : Answered)
    → told ≡ told_turn a → is_some c.ended ≡ false
    → EndedBy SoleAsks desk
    MemHears MemSays c.session.ended c.session.quit (life_at c.session port) c.link a (life_at mid between) d.link
    → (StandsFor desk c.session → StandsFor desk mid) → (StandsFor desk mid → BeginsOwed desk mid.parts) → (StandsFor desk mid → IsWhole desk mid.parts)
    → (StandsFor desk c.session → ActsBy c.session.ended c.session.parts c.session.seat → ActsBy mid.ended mid.parts mid.seat)
    → lasting_of mid.parts ≡ lasting_of c.session.parts
    → GoOn (journal_at port.books) (journal_at between.books) → mid.ended ≡ ended_by a → mid.quit ≡ c.session.quit
    → AfterTurn a mid between d.session d.ended port' → AnsweredBy told c.ended desk port c port' d
turned desk port between port' c d mid a told is lives turn stands owed whole acts lasts roots ended quit leads =
    subst (λ (x : Answered). AnsweredBy x c.ended desk port c port' d) (sym is)
    (turned_by c.ended desk port c port' d lives (record {
      answer = a;
      between = between;
      mid = mid;
      turn = turn;
      stands = stands;
      owed = owed;
      whole = whole;
      acts = acts;
      lasts = lasts;
      roots = roots;
      ended = ended;
      quit = quit;
      leads = leads;
    }))

player_turned_by : (e : Option HttpEnd) (desk : Ask → Grant) (port : SoleState) (c : PlayState) (port' : SoleState) (d : PlayState) → is_some e ≡ false
    → (t : PlayerTurned desk port c port' d) → PlayerAnsweredBy (told_http t.answer) e desk port c port' d
player_turned_by None desk port c port' d h t = (t, refl)
player_turned_by (Some e) desk port c port' d h t = absurd (cc)

pub player_turned : (desk : Ask → Grant) (port between port' : SoleState) (c d : PlayState) (mid : PlayerState SeenState) (a : HttpTurn) (told : Answered)
    → told ≡ told_http a → is_some c.ended ≡ false
    → http_turns.EndedBy SoleAsks desk MemHears MemSays c.player.ended (player.life_at c.player port) c.link a (player.life_at mid between) d.link
    → (player.StandsFor desk c.player → player.StandsFor desk mid) → (player.StandsFor desk mid → player.OwesBy mid.ended desk mid.parts)
    → player.lasting_of mid.parts ≡ player.lasting_of c.player.parts
    → AfterHttpTurn a mid between d.player d.ended port' → PlayerAnsweredBy told c.ended desk port c port' d
player_turned desk port between port' c d mid a told is lives turn stands owed lasts leads =
    subst (λ (x : Answered). PlayerAnsweredBy x c.ended desk port c port' d) (sym is)
    (player_turned_by c.ended desk port c port' d lives (record
    { answer = a; between = between; mid = mid; turn = turn; stands = stands; owed = owed; lasts = lasts; leads = leads }))

edge_turned_by : (e : Option EdgeEnd) (port : SoleState) (c : PullState) (port' : SoleState) (d : PullState) → is_some e ≡ false
    → (t : EdgeTurned port c port' d) → EdgeAnsweredBy (told_edge t.answer) e port c port' d
edge_turned_by None port c port' d h t = (t, refl)
edge_turned_by (Some e) port c port' d h t = absurd (cc)

pub edge_turned : (port between port' : SoleState) (c d : PullState) (mid : EdgeState SeenState) (a : EdgeTurn) (told : Answered)
    → told ≡ told_edge a → is_some c.ended ≡ false
    → edge_turns.EndedBy SoleAsks (edge_turns.ClientTurns MemHears MemSays) c.edge.ended (edge.life_at c.edge port) c.link a (edge.life_at mid between) d.link
    → edge.StandsFor mid → edge.lasting_of mid.parts mid.client ≡ edge.lasting_of c.edge.parts c.edge.client
    → AfterEdgeTurn a mid between d.edge d.ended port' → EdgeAnsweredBy told c.ended port c port' d
edge_turned port between port' c d mid a told is lives turn stands lasts leads =
    subst (λ (x : Answered). EdgeAnsweredBy x c.ended port c port' d) (sym is)
    (edge_turned_by c.ended port c port' d lives (record {
      answer = a;
      between = between;
      mid = mid;
      turn = turn;
      stands = stands;
      lasts = lasts;
      leads = leads;
    }))

-- a turn of what was opened is that of its kind
pub session_turned : (r : Result Answered OutOfMemory) (desk : Ask → Grant) (port : SoleState) (g : Guest) (c : ConnState) (port' : SoleState) (d : ConnState)
    → g ≡ guest.Session c
    → IfOk r (λ a. AnsweredBy a c.ended desk port c port' d) → IfOk r (λ a. GuestTurn a desk port g port' (guest.Session d))
session_turned (Ok a) desk port g c port' d e t = subst (λ (x : Guest). GuestTurn a desk port x port' (guest.Session d)) (sym e) (d, refl, t)
session_turned (Err x) desk port g c port' d e t = tt

pub player_turn : (r : Result Answered OutOfMemory) (desk : Ask → Grant) (port : SoleState) (g : Guest) (c : PlayState) (port' : SoleState) (d : PlayState)
    → g ≡ guest.Player c
    → IfOk r (λ a. PlayerAnsweredBy a c.ended desk port c port' d) → IfOk r (λ a. GuestTurn a desk port g port' (guest.Player d))
player_turn (Ok a) desk port g c port' d e t = subst (λ (x : Guest). GuestTurn a desk port x port' (guest.Player d)) (sym e) (d, refl, t)
player_turn (Err x) desk port g c port' d e t = tt

pub edge_turn : (r : Result Answered OutOfMemory) (desk : Ask → Grant) (port : SoleState) (g : Guest) (c : PullState) (port' : SoleState) (d : PullState)
    → g ≡ guest.Edge c
    → IfOk r (λ a. EdgeAnsweredBy a c.ended port c port' d) → IfOk r (λ a. GuestTurn a desk port g port' (guest.Edge d))
edge_turn (Ok a) desk port g c port' d e t = subst (λ (x : Guest). GuestTurn a desk port x port' (guest.Edge d)) (sym e) (d, refl, t)
edge_turn (Err x) desk port g c port' d e t = tt

get_some : {A : Type 0} → (xs : List A) (n : ℕ) (x : A) → n < length xs → x ≡ get_or xs n x → slice_get xs n ≡ Some x
get_some [] n x h e = absurd (omega (arith, h))
get_some (y ∷ ys) zero x h e = ap Some (sym e)
get_some (y ∷ ys) (suc n) x h e = get_some ys n x (omega (arith, h)) e

pub turn_of : (r : Result Answered OutOfMemory) (desk : Ask → Grant) (n : ℕ) (c : CastState) (x : Guest) (port' : SoleState) (y : Guest)
    → n < length c.sessions → x ≡ get_or c.sessions n x → sole_rules port'.rules ≡ sole_rules c.port.rules → IfOk r (λ a. GuestTurn a desk c.port x port' y)
    → IfOk r (λ a. AnsweredTurn desk n a c (record { port = port'; sessions = slice_set c.sessions n y; recorders = c.recorders }))
turn_of (Ok a) desk n c x port' y h e fixed turn = record {
  old = x;
  new = y;
  there = get_some c.sessions n x h e;
  turn = turn;
  fixed = fixed;
  sessions = refl;
  recorders = refl;
}
turn_of (Err e) desk n c x port' y h same fixed turn = tt

-- ---- one step more

pub each_more : {A : Type 0} → (k : ℕ) (step : ℕ → A → A → Type 0) (c m d : A) → Each k step c m → step k m d → Each (k + 1) step c d
each_more k step c m d before one =
    let same : suc k ≡ k + 1 = omega arith in
    subst (λ (n : ℕ). Each n step c d) same (m, (before, one))

pub times_more : {A : Type 0} → (k : ℕ) (step : A → A → Type 0) (c m d : A) → Times k step c m → step m d → Times (k + 1) step c d
times_more k step c m d before one =
    let same : suc k ≡ k + 1 = omega arith in
    subst (λ (n : ℕ). Times n step c d) same (m, (before, one))

moved_is : (a : Answered) → is_moved a ≡ true → a ≡ answered.Moved
moved_is answered.Nothing e = absurd (cc)
moved_is answered.Moved e = refl
moved_is answered.Idle e = absurd (cc)
moved_is answered.Ended e = absurd (cc)

-- a turn that moved something, behind so many that did
pub moved_more : (desk : Ask → Grant) (n k : ℕ) (a : Answered) (c m d : CastState) → is_moved a ≡ true → Times k (AnsweredTurn desk n answered.Moved) c m
    → AnsweredTurn desk n a m d → Times (k + 1) (AnsweredTurn desk n answered.Moved) c d
moved_more desk n k a c m d e t s =
    times_more k (AnsweredTurn desk n answered.Moved) c m d t (subst (λ (b : Answered). AnsweredTurn desk n b m d) (moved_is a e) s)
