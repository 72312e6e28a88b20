-- What lines open, and what they say of it, sits at the streams
use Rattle.std.proofs.Common.{◌≡◌, ◌<◌, ◌++◌, ℕ, List, [], ◌∷◌, length, length-append, All, Option, Some, None, true, Result, Ok, Err, OnOk, refl, sym, ap, ◌∙◌}
use Rattle.std.proofs.Common.{subst, arith}
use Rattle.std.proofs.lemmas.List.Elements.{All-push, All-set}
use Rattle.av_unit.specs.declared.bytes.OutOfMemory.{OutOfMemory}
use Rattle.command_dialog.specs.declared.types.Ask.{Ask}
use Rattle.command_dialog.specs.declared.types.Grant.{Grant}
use Rattle.relay_base.specs.declared.limits.Limits.{Limits as AllLimits}
use Rattle.relay_config.specs.declared.config.PlaceRule.{PlaceRule}
use Rattle.relay_config.specs.declared.config.OpenRule.{OpenRule}
use Rattle.session_owed.specs.Standing.{Past}
use Rattle.session_owed.specs.Talk.{Own}
use Rattle.stream_registry.specs.Books.{FitsSole, SeenState, SoleState, sole_rules}
use Rattle.stream_registry.specs.Names.{places}
use Rattle.relay_session.specs.Places as session
use Rattle.relay_session.specs.SeatState.{HasFit, SeatState}
use Rattle.relay_session.specs.SeatVisits.{calls_of}
use Rattle.relay_session.specs.SessionState.{SessionState}
use Rattle.relay_session.specs.declared.end.End.{End}
use Rattle.relay_session.specs.declared.seat_answers.Active.TheVariants as active
use Rattle.http_flv.specs.Keeping as http
use Rattle.http_flv.specs.declared.end.HttpEnd.{HttpEnd}
use Rattle.http_flv.specs.declared.stage.Stage.{Stage}
use Rattle.origin_pull.specs.Keeping as edge
use Rattle.origin_pull.specs.declared.end.EdgeEnd.{EdgeEnd}
use Rattle.relay_script.specs.declared.replay.ReplayLine.{ReplayLine}
use Rattle.relay_script.specs.declared.replay.ReplayLine.TheVariants.{Nothing, Limits, Stream, Guard, Recorder, Session, Piece, Eof, Room, FailRecv, FailSend}
use Rattle.relay_script.specs.declared.replay.ReplayLine.TheVariants.{FailPut, Turn, Rec, All as Rounds, Quit, OpenApp, GuardOpen, OpenHttp, OpenEdge}
use Rattle.relay_replay.specs.Guests.{ConnState, PlayState, PullState}
use Rattle.relay_replay.specs.declared.guest.Guest.{Guest}
use Rattle.relay_replay.specs.declared.guest.Guest.TheVariants as guest
use Rattle.relay_replay.specs.Cast.{CastState}
use Rattle.relay_replay.specs.Plays.{IsNewEdge, IsNewPlayer, IsNewSession, Opens, OpensEdge, OpensHttp, Plays, Told, ToldBy, session_in, told_guest, told_of}
use Rattle.relay_replay.specs.Scenes.{EdgeReady, Fits, IsPortOf, PlayerReady, Ready, ReadyBy, ReadyGuest, Sits, opened_by}
use Rattle.relay_replay.proofs.Keep.{length_set}
use Rattle.relay_replay.proofs.Serving.{all_at}

-- ---- what was just opened fits each port

session_ready : (limits : AllLimits) (who : ℕ) (port : SoleState) (c : ConnState) → IsNewSession limits who c → Ready port c
session_ready limits who port c n =
    subst (λ (e : Option End). ReadyBy e port c.session) (sym n.ended) (record {
      fit = subst (λ (o : Option (ℕ × SeenState)). HasFit (FitsSole port) o) (sym n.nowhere.1) tt;
      there = subst (λ (o : Option ℕ). session.IsThere (places (sole_rules port.rules)) o) (sym n.nowhere.0) tt;
      calls = ap (λ (p : Past). p.calls) n.past ∙ sym (ap calls_of n.nowhere.2);
    })

player_ready : (limits : AllLimits) (who : ℕ) (port : SoleState) (c : PlayState) → IsNewPlayer limits who c → PlayerReady c.ended port c.player
player_ready limits who port c n =
    subst (λ (e : Option HttpEnd). PlayerReady e port c.player) (sym n.lives.1) (record {
      fit = subst (λ (o : Option (ℕ × SeenState)). HasFit (FitsSole port) o) (sym n.nowhere.0) tt;
      there = subst (λ (s : Stage). http.IsThere (places (sole_rules port.rules)) s) (sym n.stage.0) tt;
      calls = n.empty.2 ∙ sym (ap calls_of n.nowhere.1);
    })

edge_ready : (limits : AllLimits) (who stream : ℕ) (app name : List ℕ) (port : SoleState) (c : PullState) → stream < places (sole_rules port.rules)
    → IsNewEdge limits who stream app name c → EdgeReady c.ended port c.edge
edge_ready limits who stream app name port c there n =
    subst (λ (e : Option EdgeEnd). EdgeReady e port c.edge) (sym n.lives.1) (record {
      fit = subst (λ (s : SeatState SeenState). HasFit (FitsSole port) s.spot) (sym n.nowhere) tt;
      there = subst (λ (p : ℕ). p < places (sole_rules port.rules)) (sym n.fixed.1) there;
      here = subst (λ (s : SeatState SeenState). edge.IsHere c.edge.parts.place s.spot s.active) (sym n.nowhere) refl;
      calls = n.empty.0 ∙ sym (ap (λ (s : SeatState SeenState). calls_of s.visits) n.nowhere);
      places = subst (λ (s : SeatState SeenState). edge.AreHere c.edge.parts.place s.visits) (sym n.nowhere) tt;
      granted = ap (λ (s : SeatState SeenState). s.active) n.nowhere ∙ sym (ap (λ (l : List Own). edge.granted_by active.Nothing l) n.empty.0);
    })

-- ---- one more is opened

pushed : (streams : List PlaceRule) (opens : List OpenRule) (c d : CastState) (g : Guest) → length c.sessions < 64
    → Sits streams opens (length c.recorders) c → ReadyGuest c.port g
    → d.sessions ≡ c.sessions ++ g ∷ [] → d.recorders ≡ c.recorders → d.port ≡ c.port → Sits streams opens (length c.recorders) d
pushed streams opens c d g small s ready sessions recorders port = record {
  port = subst (IsPortOf streams opens) (sym port) s.port;
  few = omega (arith, small, ap length sessions, length-append c.sessions (g ∷ []));
  sessions = subst (λ (p : SoleState). All (ReadyGuest p) d.sessions) (sym port)
      (subst (All (ReadyGuest c.port)) (sym sessions) (All-push (ReadyGuest c.port) c.sessions g s.sessions ready));
  count = ap length recorders;
  recorders = subst (λ (p : SoleState). All (Fits p) d.recorders) (sym port) (subst (All (Fits c.port)) (sym recorders) s.recorders);
}

pub by_session : (r : Result (Unit {0}) OutOfMemory) (limits : AllLimits) (streams : List PlaceRule) (opens : List OpenRule) (c d : CastState)
    → length c.sessions < 64 → Sits streams opens (length c.recorders) c
    → OnOk r (Opens limits c d) → OnOk r (Sits streams opens (length c.recorders) d)
by_session (Ok x) limits streams opens c d small s o =
    pushed streams opens c d (guest.Session o.new) small s (session_ready limits (length c.sessions) c.port o.new o.fresh) o.sessions o.recorders o.port
by_session (Err x) limits streams opens c d small s o = tt

pub by_http : (r : Result (Unit {0}) OutOfMemory) (limits : AllLimits) (streams : List PlaceRule) (opens : List OpenRule) (c d : CastState)
    → length c.sessions < 64 → Sits streams opens (length c.recorders) c
    → OnOk r (OpensHttp limits c d) → OnOk r (Sits streams opens (length c.recorders) d)
by_http (Ok x) limits streams opens c d small s o =
    pushed streams opens c d (guest.Player o.new) small s (player_ready limits (length c.sessions) c.port o.new o.fresh) o.sessions o.recorders o.port
by_http (Err x) limits streams opens c d small s o = tt

pub by_edge : (r : Result (Unit {0}) OutOfMemory) (limits : AllLimits) (stream : ℕ) (app name : List ℕ) (streams : List PlaceRule) (opens : List OpenRule)
    (c d : CastState) → length c.sessions < 64
    → stream < places (sole_rules c.port.rules) → Sits streams opens (length c.recorders) c → OnOk r (OpensEdge limits stream app name c d)
    → OnOk r (Sits streams opens (length c.recorders) d)
by_edge (Ok x) limits stream app name streams opens c d small there s o =
    pushed streams opens c d (guest.Edge o.new) small s (edge_ready limits (length c.sessions) stream app name c.port o.new there o.fresh) o.sessions
    o.recorders o.port
by_edge (Err x) limits stream app name streams opens c d small there s o = tt

-- ---- lines about one of them

quit_ready : (e : Option End) (port : SoleState) (s : SessionState SeenState) → ReadyBy e port s → ReadyBy e port (record s { quit = true })
quit_ready None port s r = record { fit = r.fit; there = r.there; calls = r.calls }
quit_ready (Some e) port s r = tt

told_session : (line : ReplayLine) (port : SoleState) (c : ConnState) → Ready port c → Ready port (told_of line c)
told_session (Quit n) port c r = quit_ready c.ended port c.session r
told_session _ port c r = r

told_ready : (line : ReplayLine) (port : SoleState) (g : Guest) → ReadyGuest port g → ReadyGuest port (told_guest line g)
told_ready line port (guest.Session c) r = told_session line port c r
told_ready line port (guest.Player c) r = r
told_ready line port (guest.Edge c) r = r

pub by_line : (r : Result (Unit {0}) OutOfMemory) (streams : List PlaceRule) (opens : List OpenRule) (line : ReplayLine) (n : ℕ) (c d : CastState)
    → Sits streams opens (length c.recorders) c
    → OnOk r (Told line n c d) → OnOk r (Sits streams opens (length c.recorders) d)
by_line (Ok x) streams opens line n c d s t =
    let new : ReadyGuest c.port (told_guest line t.old) = told_ready line c.port t.old (all_at (ReadyGuest c.port) c.sessions n t.old t.there s.sessions) in
    record {
      port = subst (IsPortOf streams opens) (sym t.port) s.port;
      few = omega (arith, s.few, ap length t.sessions, length_set c.sessions n (told_guest line t.old));
      sessions = subst (λ (p : SoleState). All (ReadyGuest p) d.sessions) (sym t.port)
          (subst (All (ReadyGuest c.port)) (sym t.sessions) (All-set (ReadyGuest c.port) c.sessions n (told_guest line t.old) new s.sessions));
      count = ap length t.recorders;
      recorders = subst (λ (p : SoleState). All (Fits p) d.recorders) (sym t.port) (subst (All (Fits c.port)) (sym t.recorders) s.recorders);
    }
by_line (Err x) streams opens line n c d s t = tt

-- it does what it says of the one that it names, and opens none
as_many : (line : ReplayLine) (n : ℕ) (c d : CastState) → Told line n c d → length d.sessions ≡ length c.sessions
as_many line n c d t = ap length t.sessions ∙ length_set c.sessions n (told_guest line t.old)

about : (line : ReplayLine) (n : ℕ) (limits : AllLimits) (desk : Ask → Grant) (c d : CastState) → session_in line ≡ Some n → Told line n c d
    → Plays limits desk line c d × (length d.sessions ≡ opened_by line (length c.sessions))
about (Piece k bytes) n limits desk c d e t = (subst (λ (o : Option ℕ). ToldBy o (Piece k bytes) c d) (sym e) t, as_many (Piece k bytes) n c d t)
about (Eof k) n limits desk c d e t = (subst (λ (o : Option ℕ). ToldBy o (Eof k) c d) (sym e) t, as_many (Eof k) n c d t)
about (Room k left) n limits desk c d e t = (subst (λ (o : Option ℕ). ToldBy o (Room k left) c d) (sym e) t, as_many (Room k left) n c d t)
about (FailRecv k) n limits desk c d e t = (subst (λ (o : Option ℕ). ToldBy o (FailRecv k) c d) (sym e) t, as_many (FailRecv k) n c d t)
about (FailSend k) n limits desk c d e t = (subst (λ (o : Option ℕ). ToldBy o (FailSend k) c d) (sym e) t, as_many (FailSend k) n c d t)
about (Quit k) n limits desk c d e t = (subst (λ (o : Option ℕ). ToldBy o (Quit k) c d) (sym e) t, as_many (Quit k) n c d t)
about Nothing n limits desk c d e t = absurd (cc)
about (Limits a b i q w) n limits desk c d e t = absurd (cc)
about (Stream app name) n limits desk c d e t = absurd (cc)
about (Guard k side mode key) n limits desk c d e t = absurd (cc)
about (OpenApp app k) n limits desk c d e t = absurd (cc)
about (GuardOpen k side mode key) n limits desk c d e t = absurd (cc)
about (Recorder k form) n limits desk c d e t = absurd (cc)
about Session n limits desk c d e t = absurd (cc)
about OpenHttp n limits desk c d e t = absurd (cc)
about (OpenEdge k app name) n limits desk c d e t = absurd (cc)
about (FailPut k) n limits desk c d e t = absurd (cc)
about (Turn k j) n limits desk c d e t = absurd (cc)
about (Rec k j) n limits desk c d e t = absurd (cc)
about (Rounds j) n limits desk c d e t = absurd (cc)

pub line_plays : (r : Result (Unit {0}) OutOfMemory) (line : ReplayLine) (n : ℕ) (limits : AllLimits) (desk : Ask → Grant) (c d : CastState)
    → session_in line ≡ Some n
    → OnOk r (Told line n c d) → OnOk r (Plays limits desk line c d)
line_plays (Ok x) line n limits desk c d e t = (about line n limits desk c d e t).0
line_plays (Err x) line n limits desk c d e t = tt

pub line_opens : (r : Result (Unit {0}) OutOfMemory) (line : ReplayLine) (n : ℕ) (limits : AllLimits) (desk : Ask → Grant) (c d : CastState)
    → session_in line ≡ Some n
    → OnOk r (Told line n c d) → OnOk r (length d.sessions ≡ opened_by line (length c.sessions))
line_opens (Ok x) line n limits desk c d e t = (about line n limits desk c d e t).1
line_opens (Err x) line n limits desk c d e t = tt
