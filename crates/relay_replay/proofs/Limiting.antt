-- What runs keeps the limits of its script
use Rattle.std.proofs.Common.{◌≡◌, ◌<◌, ◌+◌, ℕ, zero, suc, Bool, true, false, List, [], ◌∷◌, length, map, All, arith, Option, Some, None, refl, sym, ap, ◌∙◌}
use Rattle.std.proofs.Common.{subst}
use Rattle.std.proofs.lemmas.List.Elements.{All-nil, All-push, All-set}
use Rattle.command_dialog.specs.declared.types.Ask.{Ask}
use Rattle.command_dialog.specs.declared.types.Grant.{Grant}
use Rattle.relay_base.specs.declared.limits.Limits.{Limits as AllLimits}
use Rattle.relay_session.specs.SessionState.{Lasting, SessionState}
use Rattle.relay_session.specs.declared.core_fields.Core.{Core}
use Rattle.relay_session.specs.declared.end.End.{End}
use Rattle.relay_session.specs.declared.turn.Turn.{Turn as TurnAnswer}
use Rattle.relay_session.specs.declared.turn.Turn.TheVariants.{Moved, Idle, Ended}
use Rattle.relay_script.specs.declared.replay.ReplayLine.{ReplayLine}
use Rattle.relay_script.specs.declared.replay.ReplayLine.TheVariants.{Nothing, Limits, Stream, Guard, Recorder, Session, Piece, Eof, Room, FailRecv, FailSend}
use Rattle.relay_script.specs.declared.replay.ReplayLine.TheVariants.{FailPut, Turn, Rec, All as Rounds, Quit, OpenApp, GuardOpen, OpenHttp, OpenEdge}
use Rattle.stream_registry.specs.Books.{SeenState, SoleState, sole_rules}
use Rattle.stream_model.specs.Shape.{pool_shape}
use Rattle.stream_model.specs.declared.calls.StreamLimits.{StreamLimits}
use Rattle.stream_registry.specs.Names.{places, shape_at, shapes_of}
use Rattle.stream_registry.specs.declared.names.Name.{Name}
use Rattle.stream_registry.specs.declared.names.OpenName.{OpenName}
use Rattle.http_flv.specs.PlayerState as http
use Rattle.http_flv.specs.PlayerState.{PlayerState}
use Rattle.http_flv.specs.declared.core_fields.Core.{Core as PlayerCore}
use Rattle.http_flv.specs.declared.end.HttpEnd.{HttpEnd}
use Rattle.http_flv.specs.declared.turn.HttpTurn.{HttpTurn}
use Rattle.http_flv.specs.declared.turn.HttpTurn.TheVariants as http_turn
use Rattle.origin_pull.specs.EdgeState as edge
use Rattle.origin_pull.specs.EdgeState.{EdgeState}
use Rattle.origin_pull.specs.declared.end.EdgeEnd.{EdgeEnd}
use Rattle.origin_pull.specs.declared.turn.EdgeTurn.{EdgeTurn}
use Rattle.origin_pull.specs.declared.turn.EdgeTurn.TheVariants as edge_turn
use Rattle.rtmp_client.specs.ClientState.{ClientState}
use Rattle.relay_replay.specs.Guests.{ConnState, PlayState, PullState}
use Rattle.relay_replay.specs.declared.guest.Answered.{Answered}
use Rattle.relay_replay.specs.declared.guest.Guest.{Guest}
use Rattle.relay_replay.specs.declared.guest.Guest.TheVariants as guest
use Rattle.relay_replay.specs.Cast.{AfterTurn, AnsweredTurn, CastState, GuestTurn, RecState, RecTurnOf, Round, SessionTurn, SettledBy, TurnOf}
use Rattle.relay_replay.specs.Turning.{AfterEdgeTurn, AfterHttpTurn, EdgeTurnBy, PlayerTurn}
use Rattle.relay_replay.specs.Plays.{Plays, ToldBy, told_guest, told_of}
use Rattle.relay_replay.specs.Scenes.{max_of, HaveLimits, IsLimited, IsOpen, IsSound, LimitedBy, LimitedIf, SceneState, stream_limits}
use Rattle.relay_replay.proofs.Serving.{all_at, each_keep, settled_keep, times_keep}

-- it takes messages of at most so many bytes
abbrev Takes : ℕ → Guest → Type 0
Takes m g = max_of g ≡ m

-- it writes units of at most so many
abbrev Writes : ℕ → RecState → Type 0
Writes m r = r.recorder.tape.longest ≡ m

-- ---- turns

after_takes : (a : TurnAnswer) (mid : SessionState SeenState) (port : SoleState) (d : ConnState) (port' : SoleState)
    → AfterTurn a mid port d.session d.ended port' → d.session.parts.reader.max ≡ mid.parts.reader.max
after_takes Moved mid port d port' t = ap (λ (s : SessionState SeenState). s.parts.reader.max) t.0
after_takes Idle mid port d port' t = ap (λ (s : SessionState SeenState). s.parts.reader.max) t.0
after_takes (Ended e) mid port d port' t = ap (λ (c : Core). c.reader.max) t.2.parts

turn_takes : (m : ℕ) (e : Option End) (desk : Ask → Grant) (port : SoleState) (c : ConnState) (port' : SoleState) (d : ConnState)
    → SessionTurn e desk port c port' d → c.session.parts.reader.max ≡ m → d.session.parts.reader.max ≡ m
turn_takes m None desk port c port' d t k = after_takes t.answer t.mid t.between d port' t.leads ∙ ap (λ (l : Lasting). l.max) t.lasts ∙ k
turn_takes m (Some e) desk port c port' d t k = subst (λ (x : ConnState). x.session.parts.reader.max ≡ m) (sym t.0) k

after_player : (a : HttpTurn) (mid : PlayerState SeenState) (port : SoleState) (d : PlayState) (port' : SoleState)
    → AfterHttpTurn a mid port d.player d.ended port' → d.player.parts.longest ≡ mid.parts.longest
after_player http_turn.Moved mid port d port' t = ap (λ (s : PlayerState SeenState). s.parts.longest) t.0
after_player http_turn.Idle mid port d port' t = ap (λ (s : PlayerState SeenState). s.parts.longest) t.0
after_player (http_turn.Ended e) mid port d port' t = ap (λ (c : PlayerCore). c.longest) t.2.parts

player_sends : (m : ℕ) (e : Option HttpEnd) (desk : Ask → Grant) (port : SoleState) (c : PlayState) (port' : SoleState) (d : PlayState)
    → PlayerTurn e desk port c port' d → c.player.parts.longest ≡ m → d.player.parts.longest ≡ m
player_sends m None desk port c port' d t k = after_player t.answer t.mid t.between d port' t.leads ∙ ap (λ (l : http.Lasting). l.longest) t.lasts ∙ k
player_sends m (Some e) desk port c port' d t k = subst (λ (x : PlayState). x.player.parts.longest ≡ m) (sym t.0) k

after_edge : (a : EdgeTurn) (mid : EdgeState SeenState) (port : SoleState) (d : PullState) (port' : SoleState)
    → AfterEdgeTurn a mid port d.edge d.ended port' → d.edge.client.parts.reader.max ≡ mid.client.parts.reader.max
after_edge edge_turn.Moved mid port d port' t = ap (λ (s : EdgeState SeenState). s.client.parts.reader.max) t.0
after_edge edge_turn.Idle mid port d port' t = ap (λ (s : EdgeState SeenState). s.client.parts.reader.max) t.0
after_edge (edge_turn.Ended e) mid port d port' t = ap (λ (k : ClientState). k.parts.reader.max) t.2.client

edge_takes : (m : ℕ) (e : Option EdgeEnd) (port : SoleState) (c : PullState) (port' : SoleState) (d : PullState) → EdgeTurnBy e port c port' d
    → c.edge.client.parts.reader.max ≡ m → d.edge.client.parts.reader.max ≡ m
edge_takes m None port c port' d t k = after_edge t.answer t.mid t.between d port' t.leads ∙ ap (λ (l : edge.Lasting). l.max) t.lasts ∙ k
edge_takes m (Some e) port c port' d t k = subst (λ (x : PullState). x.edge.client.parts.reader.max ≡ m) (sym t.0) k

guest_takes : (m : ℕ) (a : Answered) (desk : Ask → Grant) (port : SoleState) (g : Guest) (port' : SoleState) (h : Guest) → GuestTurn a desk port g port' h
    → Takes m g → Takes m h
guest_takes m a desk port (guest.Session c) port' h t k = subst (Takes m) (sym t.1) (turn_takes m c.ended desk port c port' t.0 t.2.0 k)
guest_takes m a desk port (guest.Player c) port' h t k = subst (Takes m) (sym t.1) (player_sends m c.ended desk port c port' t.0 t.2.0 k)
guest_takes m a desk port (guest.Edge c) port' h t k = subst (Takes m) (sym t.1) (edge_takes m c.ended port c port' t.0 t.2.0 k)

limits_same : (l : AllLimits) (c d : CastState) → sole_rules d.port.rules ≡ sole_rules c.port.rules → HaveLimits l (sole_rules c.port.rules)
    → HaveLimits l (sole_rules d.port.rules)
limits_same l c d e k = subst (HaveLimits l) (sym e) k

limited_by : (l : AllLimits) (desk : Ask → Grant) (n : ℕ) (a : Answered) (c d : CastState) → AnsweredTurn desk n a c d → IsLimited l c → IsLimited l d
limited_by l desk n a c d t k =
    let m = l.max_message in
    let new = guest_takes m a desk c.port t.old d.port t.new t.turn (all_at (Takes m) c.sessions n t.old t.there k.sessions) in
    record {
      streams = limits_same l c d t.fixed k.streams;
      sessions = subst (All (Takes m)) (sym t.sessions) (All-set (Takes m) c.sessions n t.new new k.sessions);
      recorders = subst (All (Writes m)) (sym t.recorders) k.recorders;
    }

limited_of : (l : AllLimits) (desk : Ask → Grant) (n : ℕ) (c d : CastState) → TurnOf desk n c d → IsLimited l c → IsLimited l d
limited_of l desk n c d t k = limited_by l desk n t.0 c d t.1 k

limited_rec : (l : AllLimits) (n : ℕ) (c d : CastState) → RecTurnOf n c d → IsLimited l c → IsLimited l d
limited_rec l n c d t k =
    let m = l.max_message in
    let new : Writes m t.new = t.turn.longest ∙ all_at (Writes m) c.recorders n t.old t.there k.recorders in
    record {
      streams = limits_same l c d t.fixed k.streams;
      sessions = subst (All (Takes m)) (sym t.sessions) k.sessions;
      recorders = subst (All (Writes m)) (sym t.recorders) (All-set (Writes m) c.recorders n t.new new k.recorders);
    }

limited_round : (l : AllLimits) (desk : Ask → Grant) (c d : CastState) → Round desk c d → IsLimited l c → IsLimited l d
limited_round l desk c d r k =
    each_keep (IsLimited l) RecTurnOf (limited_rec l) (length r.between.recorders) r.between d r.recorders
    (each_keep (IsLimited l) (TurnOf desk) (limited_of l desk) (length c.sessions) c r.between r.sessions k)

-- ---- lines

told_session : (m : ℕ) (line : ReplayLine) (c : ConnState) → c.session.parts.reader.max ≡ m → (told_of line c).session.parts.reader.max ≡ m
told_session m (Quit n) c k = k
told_session m _ c k = k

told_takes : (m : ℕ) (line : ReplayLine) (g : Guest) → Takes m g → Takes m (told_guest line g)
told_takes m line (guest.Session c) k = told_session m line c k
told_takes m line (guest.Player c) k = k
told_takes m line (guest.Edge c) k = k

told_limited : (o : Option ℕ) (line : ReplayLine) (l : AllLimits) (c d : CastState) → ToldBy o line c d → IsLimited l c → IsLimited l d
told_limited None line l c d t k = subst (IsLimited l) (sym t) k
told_limited (Some n) line l c d t k =
    let m = l.max_message in
    let new = told_takes m line t.old (all_at (Takes m) c.sessions n t.old t.there k.sessions) in
    record {
      streams = subst (λ (x : SoleState). HaveLimits l (sole_rules x.rules)) (sym t.port) k.streams;
      sessions = subst (All (Takes m)) (sym t.sessions) (All-set (Takes m) c.sessions n (told_guest line t.old) new k.sessions);
      recorders = subst (All (Writes m)) (sym t.recorders) k.recorders;
    }

plays_limited : (line : ReplayLine) (l : AllLimits) (desk : Ask → Grant) (c d : CastState) → Plays l desk line c d → IsLimited l c → IsLimited l d
plays_limited Session l desk c d p k = record {
  streams = subst (λ (x : SoleState). HaveLimits l (sole_rules x.rules)) (sym p.port) k.streams;
  sessions = subst (All (Takes l.max_message)) (sym p.sessions) (All-push (Takes l.max_message) c.sessions (guest.Session p.new) k.sessions p.fresh.max);
  recorders = subst (All (Writes l.max_message)) (sym p.recorders) k.recorders;
}
plays_limited OpenHttp l desk c d p k = record {
  streams = subst (λ (x : SoleState). HaveLimits l (sole_rules x.rules)) (sym p.port) k.streams;
  sessions = subst (All (Takes l.max_message)) (sym p.sessions) (All-push (Takes l.max_message) c.sessions (guest.Player p.new) k.sessions p.fresh.fixed.1);
  recorders = subst (All (Writes l.max_message)) (sym p.recorders) k.recorders;
}
plays_limited (OpenEdge n app name) l desk c d p k = record {
  streams = subst (λ (x : SoleState). HaveLimits l (sole_rules x.rules)) (sym p.port) k.streams;
  sessions = subst (All (Takes l.max_message)) (sym p.sessions) (All-push (Takes l.max_message) c.sessions (guest.Edge p.new) k.sessions p.fresh.max);
  recorders = subst (All (Writes l.max_message)) (sym p.recorders) k.recorders;
}
plays_limited (FailPut n) l desk c d p k =
    let m = l.max_message in
    let was = all_at (Writes m) c.recorders n p.old p.there k.recorders in
    let new : RecState = record p.old { file = record p.old.file { put_fails = true } } in
    record {
      streams = subst (λ (x : SoleState). HaveLimits l (sole_rules x.rules)) (sym p.port) k.streams;
      sessions = subst (All (Takes m)) (sym p.sessions) k.sessions;
      recorders = subst (All (Writes m)) (sym p.recorders) (All-set (Writes m) c.recorders n new was k.recorders);
    }
plays_limited (Turn n j) l desk c d p k = times_keep (IsLimited l) (TurnOf desk n) (limited_of l desk n) j c d p k
plays_limited (Rec n j) l desk c d p k = times_keep (IsLimited l) (RecTurnOf n) (limited_rec l n) j c d p k
plays_limited (Rounds j) l desk c d p k = times_keep (IsLimited l) (Round desk) (limited_round l desk) j c d p k
plays_limited (Piece n bytes) l desk c d p k = told_limited (Some n) (Piece n bytes) l c d p k
plays_limited (Eof n) l desk c d p k = told_limited (Some n) (Eof n) l c d p k
plays_limited (Room n left) l desk c d p k = told_limited (Some n) (Room n left) l c d p k
plays_limited (FailRecv n) l desk c d p k = told_limited (Some n) (FailRecv n) l c d p k
plays_limited (FailSend n) l desk c d p k = told_limited (Some n) (FailSend n) l c d p k
plays_limited (Quit n) l desk c d p k = told_limited (Some n) (Quit n) l c d p k
plays_limited Nothing l desk c d p k = told_limited None Nothing l c d p k
plays_limited (Limits a b i q w) l desk c d p k = told_limited None (Limits a b i q w) l c d p k
plays_limited (Stream app name) l desk c d p k = told_limited None (Stream app name) l c d p k
plays_limited (Guard n side mode key) l desk c d p k = told_limited None (Guard n side mode key) l c d p k
plays_limited (OpenApp app n) l desk c d p k = told_limited None (OpenApp app n) l c d p k
plays_limited (GuardOpen n side mode key) l desk c d p k = told_limited None (GuardOpen n side mode key) l c d p k
plays_limited (Recorder n form) l desk c d p k = told_limited None (Recorder n form) l c d p k

-- ---- a replay between two lines

pub limited_if : (fresh : Bool) (l : AllLimits) (c : Option CastState) → LimitedBy fresh l c → LimitedIf l c
limited_if true l c k = subst (LimitedIf l) (sym k) tt
limited_if false l c k = k

-- other limits, where nothing runs
pub none_limited : (fresh : Bool) (l m : AllLimits) (c : Option CastState) → fresh ≡ true → LimitedBy fresh l c → LimitedIf m c
none_limited true l m c e k = subst (LimitedIf m) (sym k) tt
none_limited false l m c e k = absurd (cc)

-- the limits of all streams and slots are those of each place
pools_limits : (m : StreamLimits) (opens : List OpenName) (q : ℕ) → q < length opens → (shape_at (map (λ o. pool_shape m o.slots) opens) q).limits ≡ m
pools_limits m [] q h = absurd (omega (arith, h))
pools_limits m (o ∷ opens) zero h = refl
pools_limits m (o ∷ opens) (suc q) h = pools_limits m opens q (omega (arith, h))

places_limits : (m : StreamLimits) (names : List Name) (opens : List OpenName) (q : ℕ) → q < length names + length opens
    → (shape_at (shapes_of m names opens) q).limits ≡ m
places_limits m [] opens q h = pools_limits m opens q (omega (arith, h))
places_limits m (n ∷ names) opens zero h = refl
places_limits m (n ∷ names) opens (suc q) h = places_limits m names opens q (omega (arith, h))

new_limits : (l : AllLimits) (port : SoleState) → port.rules.limits ≡ stream_limits l → HaveLimits l (sole_rules port.rules)
new_limits l port e = λ q h. places_limits port.rules.limits port.rules.names port.rules.opens q h ∙ e

-- and where there is a place, its limits are those of all
pub limits_there : (l : AllLimits) (port : SoleState) (q : ℕ) → q < places (sole_rules port.rules) → HaveLimits l (sole_rules port.rules)
    → port.rules.limits ≡ stream_limits l
limits_there l port q h k = sym (places_limits port.rules.limits port.rules.names port.rules.opens q h) ∙ k q h

opened_by : (o : Option CastState) (s : SceneState) (c : CastState) → IsOpen o s c → LimitedIf s.limits o → IsLimited s.limits c
opened_by None s c new k = record {
  streams = new_limits s.limits c.port new.limits;
  sessions = subst (All (Takes s.limits.max_message)) (sym new.sessions) (All-nil (Takes s.limits.max_message));
  recorders = new.longest;
}
opened_by (Some d) s c e k = subst (IsLimited s.limits) (sym e) k

-- of what runs, from the first line that acts on
pub opened_limited : (s : SceneState) (c : CastState) → IsSound s → IsOpen s.cast s c → IsLimited s.limits c
opened_limited s c h o = opened_by s.cast s c o (limited_if s.fresh s.limits s.cast h.limited)

-- and after that line
pub acted_limited : (s : SceneState) (line : ReplayLine) (desk : Ask → Grant) (c d : CastState) → IsSound s → IsOpen s.cast s c
    → Plays s.limits desk line c d → IsLimited s.limits d
acted_limited s line desk c d h o p = plays_limited line s.limits desk c d p (opened_limited s c h o)

-- and after turns of a session until it is idle
pub settled_limited : (s : SceneState) (done : Bool) (most : ℕ) (desk : Ask → Grant) (n : ℕ) (c d : CastState) → IsSound s → IsOpen s.cast s c
    → SettledBy done most desk n c d → IsLimited s.limits d
settled_limited s done most desk n c d h o x = settled_keep (IsLimited s.limits) desk n (limited_of s.limits desk n) done most c d x (opened_limited s c h o)
