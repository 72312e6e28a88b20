-- What each session of a replay was sent begins what it owes, after each line
use Rattle.std.proofs.Common.{◌≡◌, ◌++◌, ℕ, zero, suc, Bool, true, false, ◌&&◌, List, [], ◌∷◌, length, drop, slice_get, All, Option, Some, None, refl, sym, ap}
use Rattle.std.proofs.Common.{◌∙◌, subst}
use Rattle.std.specs.Option.{option_map}
use Rattle.std.proofs.lemmas.List.Elements.{All-head, All-nil, All-push, All-set, All-tail}
use Rattle.chunk_reader.specs.Sound.{IsRead}
use Rattle.chunk_wire.specs.declared.message.Message.{Message}
use Rattle.command_dialog.specs.declared.types.Ask.{Ask}
use Rattle.command_dialog.specs.declared.types.Grant.{Grant}
use Rattle.relay_base.specs.declared.limits.Limits.{Limits as AllLimits}
use Rattle.relay_config.specs.declared.config.PlaceRule.{PlaceRule}
use Rattle.relay_config.specs.declared.config.OpenRule.{OpenRule}
use Rattle.session_owed.specs.Owed.{out}
use Rattle.session_owed.specs.Talk.{hand_bytes}
use Rattle.relay_outside.specs.MemLinks.{MemLinkState}
use Rattle.session_owed.specs.Standing.{Past}
use Rattle.stream_registry.specs.Books.{SoleState, SeenState}
use Rattle.relay_session.specs.Acting.{Acting, ActsBy}
use Rattle.config_desk.specs.Grants.{granted_from}
use Rattle.relay_session.specs.Session.{session}
use Rattle.relay_session.specs.SeatState.{SeatState}
use Rattle.relay_session.specs.SessionState.{BeginsOwed, SessionState, StandsFor, gone_but_kept, life_at}
use Rattle.relay_session.specs.Turns.{Gone}
use Rattle.relay_session.specs.declared.core_fields.Core.{Core}
use Rattle.relay_session.specs.declared.end.End.{End}
use Rattle.relay_session.specs.declared.turn.Turn.{Turn as TurnAnswer}
use Rattle.relay_session.specs.declared.turn.Turn.TheVariants.{Moved, Idle, Ended}
use Rattle.relay_script.specs.declared.replay.ReplayLine.{ReplayLine}
use Rattle.relay_script.specs.declared.replay.ReplayLine.TheVariants.{Nothing, Limits, Stream, Guard, Recorder, Session, Piece, Eof, Room, FailRecv, FailSend}
use Rattle.relay_script.specs.declared.replay.ReplayLine.TheVariants.{FailPut, Turn, Rec, All as Rounds, Quit, OpenApp, GuardOpen, OpenHttp, OpenEdge}
use Rattle.http_flv.specs.PlayerState as http
use Rattle.http_flv.specs.PlayerState.{PlayerState}
use Rattle.http_flv.specs.declared.core_fields.Core.{Core as PlayerCore}
use Rattle.http_flv.specs.declared.end.HttpEnd.{HttpEnd}
use Rattle.http_flv.specs.declared.turn.HttpTurn.{HttpTurn}
use Rattle.http_flv.specs.declared.turn.HttpTurn.TheVariants as http_turn
use Rattle.origin_pull.specs.EdgeState as edge
use Rattle.origin_pull.specs.EdgeState.{EdgeState}
use Rattle.origin_pull.specs.declared.end.EdgeEnd.{EdgeEnd}
use Rattle.origin_pull.specs.declared.turn.EdgeTurn.{EdgeTurn}
use Rattle.origin_pull.specs.declared.turn.EdgeTurn.TheVariants as edge_turn
use Rattle.rtmp_client.specs.ClientState.{ClientState}
use Rattle.client_owed.specs.Standing as client
use Rattle.relay_replay.specs.Guests.{ConnState, PlayState, PullState}
use Rattle.relay_replay.specs.declared.guest.Answered.{Answered}
use Rattle.relay_replay.specs.declared.guest.Answered.TheVariants as answered
use Rattle.relay_replay.specs.declared.guest.Guest.{Guest}
use Rattle.relay_replay.specs.declared.guest.Guest.TheVariants as guest
use Rattle.relay_replay.specs.Turning.{AfterEdgeTurn, AfterHttpTurn, EdgeTurnBy, PlayerTurn}
use Rattle.relay_replay.specs.Cast.{AfterTurn, AnsweredTurn, CastState, GuestTurn, Each, IsClosed, RecTurnOf, Round, SessionTurn, SettledBy}
use Rattle.relay_replay.specs.Cast.{Times, TurnOf}
use Rattle.relay_replay.specs.Plays.{IsNewEdge, IsNewPlayer, IsNewSession, Plays, ToldBy, told_guest, told_link, told_of}
use Rattle.relay_replay.specs.Scenes.{Acts, CastBy, Does, IsOpen, SceneState, SettledIn, desk_of, is_acting, stand_of}
use Rattle.relay_replay.specs.Served.{AreServed, EdgeServed, GuestServed, IsServed, PlayerServed, PlayerStandsIf, ServedIf, ServedIn, StandsIf}
use Rattle.relay_replay.specs.Stand.{Stand, after, allows, is_setting}
use Rattle.relay_replay.specs.Streams.{SoleAsks}
use Rattle.relay_replay.proofs.Taking.{turn_took}
use Rattle.relay_replay.proofs.TakingMore.{edge_took, player_took}

-- ---- what a close leaves

abbrev GoneOwes : (Ask → Grant) → Gone → Type 0
GoneOwes desk g = (more : List ℕ) × ((ms : List (ℕ × Message))
    × (IsRead g.max (drop hand_bytes g.x) ms × (g.sent ++ more ≡ out (session g.who g.window desk) g.x ms g.calls)))

gone_owes : (desk : Ask → Grant) (c : Core) → BeginsOwed desk c → GoneOwes desk (gone_but_kept c)
gone_owes desk c b = (b.0, (b.1.ms, (b.1.read, b.1.owes)))

owes_gone : (desk : Ask → Grant) (c : Core) → GoneOwes desk (gone_but_kept c) → BeginsOwed desk c
owes_gone desk c g = (g.0, record { ms = g.1.0; read = g.1.1.0; owes = g.1.1.1 })

closed_owes : (desk : Ask → Grant) (c d : Core) → gone_but_kept d ≡ gone_but_kept c → BeginsOwed desk c → BeginsOwed desk d
closed_owes desk c d e b = owes_gone desk d (subst (GoneOwes desk) (sym e) (gone_owes desk c b))

-- whether it lives or has ended
pub acting_of : (e : Option End) (c : Core) (s : SeatState SeenState) → ActsBy e c s → Acting c s
acting_of None c s a = a.0
acting_of (Some e) c s a = a

pub closed_acts : (port : SoleState) (s : SessionState SeenState) (port' : SoleState) (s' : SessionState SeenState) → IsClosed port s port' s'
    → ActsBy s.ended s.parts s.seat → ActsBy s'.ended s'.parts s'.seat
closed_acts port s port' s' k a =
    subst (λ (e : Option End). ActsBy e s'.parts s'.seat) (sym k.ended) (k.acts (acting_of s.ended s.parts s.seat a))

-- ---- a session's turn

after_served : (a : TurnAnswer) (desk : Ask → Grant) (mid : SessionState SeenState) (port : SoleState) (d : ConnState) (port' : SoleState)
    → AfterTurn a mid port d.session d.ended port'
    → StandsFor desk mid → BeginsOwed desk mid.parts → d.link.sent ≡ mid.parts.sent → ActsBy mid.ended mid.parts mid.seat → IsServed desk d
after_served Moved desk mid port d port' t st owed took acts = record {
  stands = subst (λ (e : Option End). StandsIf e desk d.session) (sym t.2) (subst (λ (s : SessionState SeenState). StandsFor desk s) (sym t.0) st);
  owed = subst (λ (s : SessionState SeenState). BeginsOwed desk s.parts) (sym t.0) owed;
  took = took ∙ sym (ap (λ (s : SessionState SeenState). s.parts.sent) t.0);
  acts = subst (λ (s : SessionState SeenState). ActsBy s.ended s.parts s.seat) (sym t.0) acts;
}
after_served Idle desk mid port d port' t st owed took acts = record {
  stands = subst (λ (e : Option End). StandsIf e desk d.session) (sym t.2) (subst (λ (s : SessionState SeenState). StandsFor desk s) (sym t.0) st);
  owed = subst (λ (s : SessionState SeenState). BeginsOwed desk s.parts) (sym t.0) owed;
  took = took ∙ sym (ap (λ (s : SessionState SeenState). s.parts.sent) t.0);
  acts = subst (λ (s : SessionState SeenState). ActsBy s.ended s.parts s.seat) (sym t.0) acts;
}
after_served (Ended e) desk mid port d port' t st owed took acts = record {
  stands = subst (λ (o : Option End). StandsIf o desk d.session) (sym t.1) tt;
  owed = closed_owes desk mid.parts d.session.parts (ap gone_but_kept t.2.parts) owed;
  took = took ∙ sym (ap (λ (c : Core). c.sent) t.2.parts);
  acts = closed_acts port mid port' d.session t.2 acts;
}

served_turn : (e : Option End) (desk : Ask → Grant) (port : SoleState) (c : ConnState) (port' : SoleState) (d : ConnState) → c.ended ≡ e
    → SessionTurn e desk port c port' d → IsServed desk c → IsServed desk d
served_turn None desk port c port' d e t s =
    let was = subst (λ (o : Option End). StandsIf o desk c.session) e s.stands in
    let st = t.stands was in
    let took = turn_took SoleAsks desk
    c.session.ended c.session.quit (life_at c.session port) c.link t.answer (life_at t.mid t.between) d.link t.turn s.took in
    after_served t.answer desk t.mid t.between d port' t.leads st (t.owed st) took (t.acts was s.acts)
served_turn (Some x) desk port c port' d e t s = subst (IsServed desk) (sym t.0) s

-- ---- a player's turn, and an edge's

-- of one that lives, what is pending is the rest
owed_begins : (e : Option HttpEnd) (desk : Ask → Grant) (s : PlayerState SeenState) → http.OwesBy e desk s.parts → http.BeginsOwed desk s.parts
owed_begins None desk s o = (s.parts.out.left, o)
owed_begins (Some e) desk s o = o

-- what a close leaves
closed_begins : (desk : Ask → Grant) (s s' : PlayerState SeenState) → s'.parts ≡ record s.parts { kept = s'.parts.kept } → http.BeginsOwed desk s.parts
    → http.BeginsOwed desk s'.parts
closed_begins desk s s' e o = subst (http.BeginsOwed desk) (sym e) o

after_player : (a : HttpTurn) (desk : Ask → Grant) (mid : PlayerState SeenState) (port : SoleState) (d : PlayState) (port' : SoleState)
    → AfterHttpTurn a mid port d.player d.ended port'
    → http.StandsFor desk mid → http.BeginsOwed desk mid.parts → d.link.sent ≡ mid.parts.sent → PlayerServed desk d
after_player http_turn.Moved desk mid port d port' t st owed took = record {
  stands = subst (λ (e : Option HttpEnd). PlayerStandsIf e desk d.player) (sym t.2) (subst (λ (s : PlayerState SeenState). http.StandsFor desk s) (sym t.0) st);
  owed = subst (λ (s : PlayerState SeenState). http.BeginsOwed desk s.parts) (sym t.0) owed;
  took = took ∙ sym (ap (λ (s : PlayerState SeenState). s.parts.sent) t.0);
}
after_player http_turn.Idle desk mid port d port' t st owed took = record {
  stands = subst (λ (e : Option HttpEnd). PlayerStandsIf e desk d.player) (sym t.2) (subst (λ (s : PlayerState SeenState). http.StandsFor desk s) (sym t.0) st);
  owed = subst (λ (s : PlayerState SeenState). http.BeginsOwed desk s.parts) (sym t.0) owed;
  took = took ∙ sym (ap (λ (s : PlayerState SeenState). s.parts.sent) t.0);
}
after_player (http_turn.Ended e) desk mid port d port' t st owed took = record {
  stands = subst (λ (o : Option HttpEnd). PlayerStandsIf o desk d.player) (sym t.1) tt;
  owed = closed_begins desk mid d.player t.2.parts owed;
  took = took ∙ sym (ap (λ (c : PlayerCore). c.sent) t.2.parts);
}

player_served : (e : Option HttpEnd) (desk : Ask → Grant) (port : SoleState) (c : PlayState) (port' : SoleState) (d : PlayState) → c.ended ≡ e
    → PlayerTurn e desk port c port' d → PlayerServed desk c → PlayerServed desk d
player_served None desk port c port' d e t s =
    let was = subst (λ (o : Option HttpEnd). PlayerStandsIf o desk c.player) e s.stands in
    let st = t.stands was in
    after_player t.answer desk t.mid t.between d port' t.leads st (owed_begins t.mid.ended desk t.mid (t.owed st))
    (player_took desk c.player.ended (http.life_at c.player port) c.link t.answer (http.life_at t.mid t.between) d.link t.turn s.took)
player_served (Some x) desk port c port' d e t s = subst (PlayerServed desk) (sym t.0) s

after_edge : (a : EdgeTurn) (mid : EdgeState SeenState) (port : SoleState) (d : PullState) (port' : SoleState) → AfterEdgeTurn a mid port d.edge d.ended port'
    → edge.StandsFor mid → d.link.sent ≡ mid.client.parts.sent → EdgeServed d
after_edge edge_turn.Moved mid port d port' t st took = record {
  stands = subst edge.StandsFor (sym t.0) st;
  took = took ∙ sym (ap (λ (s : EdgeState SeenState). s.client.parts.sent) t.0);
}
after_edge edge_turn.Idle mid port d port' t st took = record {
  stands = subst edge.StandsFor (sym t.0) st;
  took = took ∙ sym (ap (λ (s : EdgeState SeenState). s.client.parts.sent) t.0);
}
after_edge (edge_turn.Ended e) mid port d port' t st took = record {
  stands = t.2.stands;
  took = took
      ∙ sym (ap (λ (k : ClientState). k.parts.sent) t.2.client);
}

edge_served : (e : Option EdgeEnd) (port : SoleState) (c : PullState) (port' : SoleState) (d : PullState) → EdgeTurnBy e port c port' d → EdgeServed c
    → EdgeServed d
edge_served None port c port' d t s =
    after_edge t.answer t.mid t.between d port' t.leads t.stands
    (edge_took c.edge.ended (edge.life_at c.edge port) c.link t.answer (edge.life_at t.mid t.between) d.link t.turn s.took)
edge_served (Some x) port c port' d t s = subst EdgeServed (sym t.0) s

guest_served : (a : Answered) (desk : Ask → Grant) (port : SoleState) (g : Guest) (port' : SoleState) (h : Guest) → GuestTurn a desk port g port' h
    → GuestServed desk g → GuestServed desk h
guest_served a desk port (guest.Session c) port' h t s = subst (GuestServed desk) (sym t.1) (served_turn c.ended desk port c port' t.0 refl t.2.0 s)
guest_served a desk port (guest.Player c) port' h t s = subst (GuestServed desk) (sym t.1) (player_served c.ended desk port c port' t.0 refl t.2.0 s)
guest_served a desk port (guest.Edge c) port' h t s = subst (GuestServed desk) (sym t.1) (edge_served c.ended port c port' t.0 t.2.0 s)

-- ---- lists

pub all_at : {A : Type 0} (Q : A → Type 0) → (xs : List A) (n : ℕ) (x : A) → slice_get xs n ≡ Some x → All Q xs → Q x
all_at Q [] n x e a = absurd (cc)
all_at Q (y ∷ ys) zero x e a = let same : y ≡ x = cc in subst Q same (All-head Q y ys a)
all_at Q (y ∷ ys) (suc n) x e a = all_at Q ys n x e (All-tail Q y ys a)

served_of : (desk : Ask → Grant) (n : ℕ) (c d : CastState) → TurnOf desk n c d → ServedIn desk c → ServedIn desk d
served_of desk n c d u s =
    let t = u.1 in
    let new = guest_served u.0 desk c.port t.old d.port t.new t.turn (all_at (GuestServed desk) c.sessions n t.old t.there s) in
    subst (All (GuestServed desk)) (sym t.sessions) (All-set (GuestServed desk) c.sessions n t.new new s)

served_rec : (desk : Ask → Grant) (n : ℕ) (c d : CastState) → RecTurnOf n c d → ServedIn desk c → ServedIn desk d
served_rec desk n c d t s = subst (All (GuestServed desk)) (sym t.sessions) s

pub times_keep : {A : Type 0} (Q : A → Type 0) (step : A → A → Type 0) → ((c d : A) → step c d → Q c → Q d) → (k : ℕ) (c d : A) → Times k step c d → Q c → Q d
times_keep Q step f zero c d t q = subst Q (sym t) q
times_keep Q step f (suc k) c d t q = f t.0 d t.1.1 (times_keep Q step f k c t.0 t.1.0 q)

pub each_keep : {A : Type 0} (Q : A → Type 0) (step : ℕ → A → A → Type 0) → ((n : ℕ) (c d : A) → step n c d → Q c → Q d) → (k : ℕ) (c d : A)
    → Each k step c d → Q c → Q d
each_keep Q step f zero c d t q = subst Q (sym t) q
each_keep Q step f (suc k) c d t q = f k t.0 d t.1.1 (each_keep Q step f k c t.0 t.1.0 q)

-- what each turn of a session keeps, turns until it is idle keep
pub settled_keep : (Q : CastState → Type 0) (desk : Ask → Grant) (n : ℕ) → ((c d : CastState) → TurnOf desk n c d → Q c → Q d)
    → (done : Bool) (most : ℕ) (c d : CastState) → SettledBy done most desk n c d → Q c → Q d
settled_keep Q desk n f true most c d t q =
    f t.between d (t.answer, t.last) (times_keep Q (AnsweredTurn desk n answered.Moved) (λ x y a. f x y (answered.Moved, a)) t.moved c t.between t.moves q)
settled_keep Q desk n f false most c d t q = times_keep Q (AnsweredTurn desk n answered.Moved) (λ x y a. f x y (answered.Moved, a)) most c d t q

served_round : (desk : Ask → Grant) (c d : CastState) → Round desk c d → ServedIn desk c → ServedIn desk d
served_round desk c d r s =
    each_keep (ServedIn desk) RecTurnOf (served_rec desk) (length r.between.recorders) r.between d r.recorders
    (each_keep (ServedIn desk) (TurnOf desk) (served_of desk) (length c.sessions) c r.between r.sessions s)

-- ---- lines

quit_stands : (e : Option End) (desk : Ask → Grant) (x : SessionState SeenState) → StandsIf e desk x → StandsIf e desk (record x { quit = true })
quit_stands None desk x h = h
quit_stands (Some e) desk x h = tt

linked_same : (line : ReplayLine) (l : MemLinkState) → (told_link line l).sent ≡ l.sent
linked_same (Piece n bytes) l = refl
linked_same (Eof n) l = refl
linked_same (Room n left) l = refl
linked_same (FailRecv n) l = refl
linked_same (FailSend n) l = refl
linked_same _ l = refl

told_session : (line : ReplayLine) (desk : Ask → Grant) (c : ConnState) → IsServed desk c → IsServed desk (told_of line c)
told_session (Quit n) desk c s = record { stands = quit_stands c.ended desk c.session s.stands; owed = s.owed; took = s.took; acts = s.acts }
told_session line desk c s = record { stands = s.stands; owed = s.owed; took = linked_same line c.link ∙ s.took; acts = s.acts }

told_served : (line : ReplayLine) (desk : Ask → Grant) (g : Guest) → GuestServed desk g → GuestServed desk (told_guest line g)
told_served line desk (guest.Session c) s = told_session line desk c s
told_served line desk (guest.Player c) s = record { stands = s.stands; owed = s.owed; took = linked_same line c.link ∙ s.took }
told_served line desk (guest.Edge c) s = record { stands = s.stands; took = linked_same line c.link ∙ s.took }

told_by_served : (o : Option ℕ) (line : ReplayLine) (desk : Ask → Grant) (c d : CastState) → ToldBy o line c d → ServedIn desk c → ServedIn desk d
told_by_served None line desk c d t s = subst (ServedIn desk) (sym t) s
told_by_served (Some n) line desk c d t s =
    let new = told_served line desk t.old (all_at (GuestServed desk) c.sessions n t.old t.there s) in
    subst (All (GuestServed desk)) (sym t.sessions) (All-set (GuestServed desk) c.sessions n (told_guest line t.old) new s)

new_served : (limits : AllLimits) (who : ℕ) (desk : Ask → Grant) (c : ConnState) → IsNewSession limits who c → IsServed desk c
new_served limits who desk c n = record {
  stands = subst (λ (e : Option End). StandsIf e desk c.session) (sym n.ended) (n.stands desk);
  owed = n.owed desk;
  took = ap (λ (l : MemLinkState). l.sent) n.link_is ∙ sym (ap (λ (p : Past). p.sent) n.past);
  acts = n.acts;
}

new_player : (limits : AllLimits) (who : ℕ) (desk : Ask → Grant) (c : PlayState) → IsNewPlayer limits who c → PlayerServed desk c
new_player limits who desk c n = record {
  stands = subst (λ (e : Option HttpEnd). PlayerStandsIf e desk c.player) (sym n.lives.1) (n.stands desk);
  owed = owed_begins c.player.ended desk c.player (n.owed desk);
  took = ap (λ (l : MemLinkState). l.sent) n.link_is ∙ sym n.empty.3;
}

new_edge : (limits : AllLimits) (who stream : ℕ) (app name : List ℕ) (c : PullState) → IsNewEdge limits who stream app name c → EdgeServed c
new_edge limits who stream app name c n = record {
  stands = n.stands;
  took = ap (λ (l : MemLinkState). l.sent) n.link_is ∙ sym (ap (λ (p : client.Past). p.sent) n.client.past);
}

plays_served : (line : ReplayLine) (limits : AllLimits) (desk : Ask → Grant) (c d : CastState) → Plays limits desk line c d → ServedIn desk c → ServedIn desk d
plays_served Session limits desk c d p s =
    subst (All (GuestServed desk)) (sym p.sessions) (All-push (GuestServed desk) c.sessions (guest.Session p.new) s
    (new_served limits (length c.sessions) desk p.new p.fresh))
plays_served OpenHttp limits desk c d p s =
    subst (All (GuestServed desk)) (sym p.sessions) (All-push (GuestServed desk) c.sessions (guest.Player p.new) s
    (new_player limits (length c.sessions) desk p.new p.fresh))
plays_served (OpenEdge n app name) limits desk c d p s =
    subst (All (GuestServed desk)) (sym p.sessions) (All-push (GuestServed desk) c.sessions (guest.Edge p.new) s
    (new_edge limits (length c.sessions) n app name p.new p.fresh))
plays_served (FailPut n) limits desk c d p s = subst (All (GuestServed desk)) (sym p.sessions) s
plays_served (Turn n k) limits desk c d p s = times_keep (ServedIn desk) (TurnOf desk n) (served_of desk n) k c d p s
plays_served (Rec n k) limits desk c d p s = times_keep (ServedIn desk) (RecTurnOf n) (served_rec desk n) k c d p s
plays_served (Rounds k) limits desk c d p s = times_keep (ServedIn desk) (Round desk) (served_round desk) k c d p s
plays_served (Piece n bytes) limits desk c d p s = told_by_served (Some n) (Piece n bytes) desk c d p s
plays_served (Eof n) limits desk c d p s = told_by_served (Some n) (Eof n) desk c d p s
plays_served (Room n left) limits desk c d p s = told_by_served (Some n) (Room n left) desk c d p s
plays_served (FailRecv n) limits desk c d p s = told_by_served (Some n) (FailRecv n) desk c d p s
plays_served (FailSend n) limits desk c d p s = told_by_served (Some n) (FailSend n) desk c d p s
plays_served (Quit n) limits desk c d p s = told_by_served (Some n) (Quit n) desk c d p s
plays_served Nothing limits desk c d p s = told_by_served None Nothing desk c d p s
plays_served (Limits a b i q w) limits desk c d p s = told_by_served None (Limits a b i q w) desk c d p s
plays_served (Stream app name) limits desk c d p s = told_by_served None (Stream app name) desk c d p s
plays_served (Guard n side mode key) limits desk c d p s = told_by_served None (Guard n side mode key) desk c d p s
plays_served (OpenApp app n) limits desk c d p s = told_by_served None (OpenApp app n) desk c d p s
plays_served (GuardOpen n side mode key) limits desk c d p s = told_by_served None (GuardOpen n side mode key) desk c d p s
plays_served (Recorder n form) limits desk c d p s = told_by_served None (Recorder n form) desk c d p s

-- ---- a replay between two lines

opened_served : (o : Option CastState) (s : SceneState) (desk : Ask → Grant) (c : CastState) → IsOpen o s c → ServedIf desk o → ServedIn desk c
opened_served None s desk c new k = subst (All (GuestServed desk)) (sym new.sessions) (All-nil (GuestServed desk))
opened_served (Some d) s desk c e k = subst (ServedIn desk) (sym e) k

-- what a stand says of the desk
abbrev pub SameDesk : Stand → Stand → Type 0
SameDesk x y = (y.places ≡ x.places) × (y.opens ≡ x.opens)

pub same_desk : (s t : SceneState) → SameDesk (stand_of s) (stand_of t) → desk_of t ≡ desk_of s
same_desk s t d =
    ap (λ (l : List PlaceRule). granted_from 0 l t.opens) d.0 ∙ ap (λ (l : List OpenRule). granted_from 0 s.places l) d.1

-- nothing changed that counts
same_served : (s t : SceneState) → SameDesk (stand_of s) (stand_of t) → t.cast ≡ s.cast → AreServed s → AreServed t
same_served s t d c k =
    subst (λ (g : Ask → Grant). ServedIf g t.cast) (sym (same_desk s t d)) (subst (ServedIf (desk_of s)) (sym c) k)

-- nothing runs yet
none_served : (s t : SceneState) (more : Bool) → (is_setting (option_map (λ (c : CastState). length c.sessions) s.cast) && more) ≡ true → t.cast ≡ s.cast
    → AreServed t
none_served s t more e c = by_cast s.cast e c
  where
    by_cast : (o : Option CastState) → (is_setting (option_map (λ (c : CastState). length c.sessions) o) && more) ≡ true → t.cast ≡ o → AreServed t
    by_cast None e c = subst (ServedIf (desk_of t)) (sym c) tt
    by_cast (Some x) e c = absurd (cc)

now_served : (s t : SceneState) (c : CastState) → SameDesk (stand_of s) (stand_of t) → t.cast ≡ Some c → ServedIn (desk_of s) c → AreServed t
now_served s t c d e k =
    subst (λ (g : Ask → Grant). ServedIf g t.cast) (sym (same_desk s t d)) (subst (ServedIf (desk_of s)) (sym e) k)

pub acts_served : (line : ReplayLine) (s t : SceneState) → SameDesk (stand_of s) (stand_of t) → Acts line s t → AreServed s → AreServed t
acts_served line s t d a k =
    now_served s t a.now d a.cast (plays_served line s.limits (desk_of s) a.before a.now a.plays (opened_served s.cast s (desk_of s) a.before a.opened k))

-- a stand that is another with what isn't of the desk changed
pub stand_desk : (s t : SceneState) (x : Stand) → stand_of t ≡ x → SameDesk (stand_of s) x → SameDesk (stand_of s) (stand_of t)
stand_desk s t x e d = (ap (λ (y : Stand). y.places) e ∙ d.0, ap (λ (y : Stand). y.opens) e ∙ d.1)

line_served : (line : ReplayLine) (s t : SceneState) → allows line (stand_of s) ≡ true → stand_of t ≡ after line (stand_of s)
    → CastBy (is_acting line) line s t → AreServed s → AreServed t
line_served Nothing s t e p c k = same_served s t (stand_desk s t _ p (refl, refl)) c k
line_served (Limits a b i q w) s t e p c k = same_served s t (stand_desk s t _ p (refl, refl)) c k
line_served (Recorder n form) s t e p c k = same_served s t (stand_desk s t _ p (refl, refl)) c k
line_served (Stream app name) s t e p c k = none_served s t _ e c
line_served (Guard n side mode key) s t e p c k = none_served s t _ e c
line_served (OpenApp app n) s t e p c k = none_served s t _ e c
line_served (GuardOpen n side mode key) s t e p c k = none_served s t _ e c
line_served OpenHttp s t e p c k = acts_served OpenHttp s t (stand_desk s t _ p (refl, refl)) c k
line_served (OpenEdge n app name) s t e p c k = acts_served (OpenEdge n app name) s t (stand_desk s t _ p (refl, refl)) c k
line_served Session s t e p c k = acts_served Session s t (stand_desk s t _ p (refl, refl)) c k
line_served (FailPut n) s t e p c k = acts_served (FailPut n) s t (stand_desk s t _ p (refl, refl)) c k
line_served (Turn n m) s t e p c k = acts_served (Turn n m) s t (stand_desk s t _ p (refl, refl)) c k
line_served (Rec n m) s t e p c k = acts_served (Rec n m) s t (stand_desk s t _ p (refl, refl)) c k
line_served (Rounds m) s t e p c k = acts_served (Rounds m) s t (stand_desk s t _ p (refl, refl)) c k
line_served (Piece n bytes) s t e p c k = acts_served (Piece n bytes) s t (stand_desk s t _ p (refl, refl)) c k
line_served (Eof n) s t e p c k = acts_served (Eof n) s t (stand_desk s t _ p (refl, refl)) c k
line_served (Room n left) s t e p c k = acts_served (Room n left) s t (stand_desk s t _ p (refl, refl)) c k
line_served (FailRecv n) s t e p c k = acts_served (FailRecv n) s t (stand_desk s t _ p (refl, refl)) c k
line_served (FailSend n) s t e p c k = acts_served (FailSend n) s t (stand_desk s t _ p (refl, refl)) c k
line_served (Quit n) s t e p c k = acts_served (Quit n) s t (stand_desk s t _ p (refl, refl)) c k

pub does_served : (line : ReplayLine) (s t : SceneState) → allows line (stand_of s) ≡ true → Does line s t → AreServed s → AreServed t
does_served line s t e d k = line_served line s t e d.stand d.cast k

pub settled_served : (done : Bool) (most n : ℕ) (s t : SceneState) → SettledIn done most n s t → AreServed s → AreServed t
settled_served done most n s t x k =
    now_served s t x.now (stand_desk s t _ x.stand (refl, refl)) x.cast
    (settled_keep (ServedIn (desk_of s)) (desk_of s) n (served_of (desk_of s) n) done most x.before x.now x.turns
    (opened_served s.cast s (desk_of s) x.before x.opened k))

pub cast_served : (s : SceneState) (c : CastState) → IsOpen s.cast s c → AreServed s → ServedIn (desk_of s) c
cast_served s c o k = opened_served s.cast s (desk_of s) c o k
