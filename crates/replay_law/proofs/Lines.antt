-- Lines in two runs
use Rattle.std.proofs.Common.{inl, inr, ◌≡◌, ◌⊎◌, ◌^◌, ℕ, ◌+◌, ◌&&◌, Bool, true, false, List, [], ◌∷◌, ◌++◌, length, map, slice_get, slice_set}
use Rattle.std.proofs.Common.{All as Each_of, Option, Some, None, refl, sym, ap, ◌∙◌, subst, arith, length-append}
use Rattle.std.specs.List.{AllZip}
use Rattle.std.specs.Option.{option_map}
use Rattle.std.proofs.lemmas.List.Elements.{AllZip-push, All-nil, All-push, All-set}
use Rattle.command_dialog.specs.declared.types.Ask.{Ask}
use Rattle.command_dialog.specs.declared.types.Grant.{Grant}
use Rattle.relay_base.specs.declared.limits.Limits.{Limits as AllLimits}
use Rattle.relay_config.specs.declared.config.OpenRule.{OpenRule}
use Rattle.relay_config.specs.declared.config.PlaceRule.{PlaceRule}
use Rattle.stream_model.specs.declared.calls.StreamLimits.{StreamLimits}
use Rattle.stream_registry.specs.Books.{SeenState, SoleState, journal_at, sole_rules}
use Rattle.stream_registry.specs.Names.{PortRules}
use Rattle.stream_registry.specs.declared.names.Name.{Name}
use Rattle.stream_registry.specs.declared.names.OpenName.{OpenName}
use Rattle.media_recorder.specs.Seats.{SeatState as RecSeat}
use Rattle.media_recorder.specs.Taken.{taken}
use Rattle.relay_script.specs.declared.replay.Form.{Form}
use Rattle.relay_script.specs.declared.replay.ReplayLine.{ReplayLine}
use Rattle.relay_script.specs.declared.replay.ReplayLine.TheVariants.{Nothing, Limits, Stream, Guard, Recorder, Session, Piece, Eof, Room, FailRecv, FailSend}
use Rattle.relay_script.specs.declared.replay.ReplayLine.TheVariants.{FailPut, Turn, Rec, All as Rounds, Quit, OpenApp, GuardOpen, OpenHttp, OpenEdge}
use Rattle.config_desk.specs.Grants.{granted_from}
use Rattle.relay_session.specs.Owing.{Owing}
use Rattle.relay_session.specs.SeatState.{active_at, place_of}
use Rattle.relay_session.specs.SessionState.{Lasting, SessionState, StandsBy}
use Rattle.relay_session.specs.declared.end.End.{End}
use Rattle.turn_law.specs.Twins.{HasRoom, SamePort}
use Rattle.relay_replay.specs.Cast.{CastState, IsText, RecState, text_in}
use Rattle.relay_replay.specs.Files.{FileState}
use Rattle.relay_replay.specs.Guests.{ConnState}
use Rattle.relay_replay.specs.Plays.{IsNewSession, Opens, Plays, PutFails, Told, quit_if, quits, told_guest, told_link}
use Rattle.relay_replay.specs.Scenes.{AreNew, CastBy, Does, IsNewCast, IsNewRecorder, IsOpen, SceneState, desk_of, is_acting, name_of, open_name}
use Rattle.relay_replay.specs.Scenes.{stand_of, stream_limits}
use Rattle.relay_replay.specs.Stand.{Stand, after, allows, is_setting, table_takes, takes_at, takes_stream, takes_table}
use Rattle.relay_replay.specs.Whole.{IsSession}
use Rattle.relay_replay.specs.declared.guest.Guest.{Guest}
use Rattle.relay_replay.specs.declared.guest.Guest.TheVariants as guest
use Rattle.relay_replay.specs.declared.recording.Plan.{Plan}
use Rattle.relay_replay.proofs.Serving.{all_at}
use Rattle.replay_law.specs.Outputs.{HasRoomIf, OpensNoOther}
use Rattle.replay_law.proofs.Alike.{AreAlike, AreAlikeIf, LiveAlike, LiveBy, SameCast, SameConn, SameGuest, SameRec, SameScene}
use Rattle.replay_law.proofs.Casts.{put_length, recs_alike, rounds_alike, same_length, turns_alike, zip_get, zip_length, zip_set}

-- ---- what is opened

abbrev lasts_so : ℕ → ℕ → ℕ → Lasting
lasts_so who window max = record { who = who; window = window; max = max }

new_same : (desk : Ask → Grant) (limits : AllLimits) (who : ℕ) (c d : ConnState) → IsNewSession limits who c → IsNewSession limits who d → SameConn desk c d
new_same desk limits who c d a b =
    let s = c.session in
    let t = d.session in
    let live : LiveAlike desk s t = record {
      core = record {
        lasting = ap (λ (n : ℕ). lasts_so n t.parts.window t.parts.reader.max) (b.who_is ∙ sym a.who_is)
            ∙ (ap (λ (n : ℕ). lasts_so s.parts.who n t.parts.reader.max) (b.window ∙ sym a.window)
            ∙ ap (λ (n : ℕ). lasts_so s.parts.who s.parts.window n) (b.max ∙ sym a.max));
        place = b.nowhere.0 ∙ sym a.nowhere.0;
        past = b.past ∙ sym a.past;
        fed = b.fed ∙ sym a.fed;
        outbound = b.outbound ∙ sym a.outbound;
        others = ap (λ (o : Owing). o.others) (b.outgoing ∙ sym a.outgoing);
      };
      input = b.input ∙ sym a.input;
      seat = record {
        spot = ap (λ (z : Option (ℕ × SeenState)). place_of z) (b.nowhere.1 ∙ sym a.nowhere.1);
        granted = λ q. ap (λ (z : Option (ℕ × SeenState)). active_at z t.seat.active q) b.nowhere.1
            ∙ sym (ap (λ (z : Option (ℕ × SeenState)). active_at z s.seat.active q) a.nowhere.1);
      };
      quit = b.lives.0 ∙ sym a.lives.0;
      live = (a.lives.1, b.lives.1);
      stands = (
        subst (λ (o : Option End). StandsBy o desk s.parts) a.lives.1 (a.stands desk),
        subst (λ (o : Option End). StandsBy o desk t.parts) b.lives.1 (b.stands desk),
      );
    } in
    record { link = b.link_is ∙ sym a.link_is; ended = b.ended ∙ sym a.ended; live = subst (λ (o : Option End). LiveBy o desk s t) (sym a.ended) live }

push_length : {A : Type 0} → (xs ys xs' ys' : List A) (x y : A) → length ys ≡ length xs → xs' ≡ xs ++ x ∷ [] → ys' ≡ ys ++ y ∷ [] → length ys' ≡ length xs'
push_length xs ys xs' ys' x y e s t = omega (arith, e, ap length s, ap length t, length-append xs (x ∷ []), length-append ys (y ∷ []))

-- it keeps the kind
kind_told : (line : ReplayLine) (g : Guest) → IsSession g → IsSession (told_guest line g)
kind_told line (guest.Session c) k = tt
kind_told line (guest.Player c) k = absurd k
kind_told line (guest.Edge c) k = absurd k

-- a recorder whose next put fails
abbrev failing : RecState → RecState
failing r = record r { file = record r.file { put_fails = true } }

abbrev file_failing : FileState → FileState
file_failing f = record f { put_fails = true }

failing_same : (c d : RecState) → SameRec c d → SameRec (failing c) (failing d)
failing_same c d h = record {
  form = h.form;
  who = h.who;
  place = h.place;
  calls = h.calls;
  player = h.player;
  sent = h.sent;
  end = h.end;
  file = ap file_failing h.file;
  ended = h.ended;
  texts = h.texts;
}

module _ (desk : Ask → Grant) where
  opens_same : (limits : AllLimits) (c c' d d' : CastState) → SameCast desk c c' → Opens limits c d → Opens limits c' d' → SameCast desk d d'
  opens_same limits c c' d d' s t t' =
      let many : length c'.sessions ≡ length c.sessions = zip_length (SameGuest desk) c.sessions c'.sessions s.sessions in
      let new : SameConn desk t.new t'.new = new_same desk limits (length c.sessions) t.new t'.new t.fresh
      (subst (λ (n : ℕ). IsNewSession limits n t'.new) many t'.fresh) in
      let zipped = AllZip-push (SameGuest desk) c.sessions c'.sessions (guest.Session t.new) (guest.Session t'.new) s.sessions new in
      record {
        port = subst (λ (x : SoleState). SamePort x d'.port) (sym t.port) (subst (λ (x : SoleState). SamePort c.port x) (sym t'.port) s.port);
        sessions = subst (λ (l : List Guest). AllZip (SameGuest desk) l d'.sessions) (sym t.sessions)
            (subst (λ (l : List Guest). AllZip (SameGuest desk) (c.sessions ++ guest.Session t.new ∷ []) l) (sym t'.sessions) zipped);
        recorders = subst (λ (l : List RecState). AllZip SameRec l d'.recorders) (sym t.recorders)
            (subst (λ (l : List RecState). AllZip SameRec c.recorders l) (sym t'.recorders) s.recorders);
      }

  opens_alike : (limits : AllLimits) (c c' d d' : CastState) → AreAlike desk c c' → Opens limits c d → Opens limits c' d' → AreAlike desk d d'
  opens_alike limits c c' d d' h t t' = record {
    first = subst (Each_of IsSession) (sym t.sessions) (All-push IsSession c.sessions (guest.Session t.new) h.first tt);
    second = subst (Each_of IsSession) (sym t'.sessions) (All-push IsSession c'.sessions (guest.Session t'.new) h.second tt);
    sessions = push_length c.sessions c'.sessions d.sessions d'.sessions (guest.Session t.new) (guest.Session t'.new) h.sessions t.sessions t'.sessions;
    recorders = same_length c.recorders c'.recorders d.recorders d'.recorders h.recorders t.recorders t'.recorders;
    same = λ r r'. opens_same limits c c' d d' (h.same (subst HasRoom t.port r) (subst HasRoom t'.port r')) t t';
  }

  -- ---- what a line says of a session

  quit_same : (b : Bool) (o : Option End) (s t : SessionState SeenState) → LiveBy o desk s t → LiveBy o desk (quit_if b s) (quit_if b t)
  quit_same b (Some e) s t h = tt
  quit_same true None s t h = record {
    core = h.core;
    input = h.input;
    seat = h.seat;
    quit = refl;
    live = h.live;
    stands = h.stands;
  }
  quit_same false None s t h = h

  told_guest_same : (line : ReplayLine) (g h : Guest) → SameGuest desk g h → SameGuest desk (told_guest line g) (told_guest line h)
  told_guest_same line (guest.Session c) (guest.Session d) s = record {
    link = ap (told_link line) s.link;
    ended = s.ended;
    live = quit_same (quits line) c.ended c.session d.session s.live;
  }
  told_guest_same line (guest.Session c) (guest.Player d) s = absurd s
  told_guest_same line (guest.Session c) (guest.Edge d) s = absurd s
  told_guest_same line (guest.Player c) h s = absurd s
  told_guest_same line (guest.Edge c) h s = absurd s

  told_same : (line : ReplayLine) (n : ℕ) (c c' d d' : CastState) → SameCast desk c c' → Told line n c d → Told line n c' d' → SameCast desk d d'
  told_same line n c c' d d' s t t' =
      let old = zip_get (SameGuest desk) c.sessions c'.sessions n t.old t'.old s.sessions t.there t'.there in
      let zipped = zip_set (SameGuest desk) c.sessions c'.sessions n (told_guest line t.old) (told_guest line t'.old) s.sessions
      (told_guest_same line t.old t'.old old) in
      record {
        port = subst (λ (x : SoleState). SamePort x d'.port) (sym t.port) (subst (λ (x : SoleState). SamePort c.port x) (sym t'.port) s.port);
        sessions = subst (λ (l : List Guest). AllZip (SameGuest desk) l d'.sessions) (sym t.sessions)
            (subst (λ (l : List Guest). AllZip (SameGuest desk) (slice_set c.sessions n (told_guest line t.old)) l) (sym t'.sessions) zipped);
        recorders = subst (λ (l : List RecState). AllZip SameRec l d'.recorders) (sym t.recorders)
            (subst (λ (l : List RecState). AllZip SameRec c.recorders l) (sym t'.recorders) s.recorders);
      }

  told_alike : (line : ReplayLine) (n : ℕ) (c c' d d' : CastState) → AreAlike desk c c' → Told line n c d → Told line n c' d' → AreAlike desk d d'
  told_alike line n c c' d d' h t t' =
      let new : IsSession (told_guest line t.old) = kind_told line t.old (all_at IsSession c.sessions n t.old t.there h.first) in
      let new' : IsSession (told_guest line t'.old) = kind_told line t'.old (all_at IsSession c'.sessions n t'.old t'.there h.second) in
      record {
        first = subst (Each_of IsSession) (sym t.sessions) (All-set IsSession c.sessions n (told_guest line t.old) new h.first);
        second = subst (Each_of IsSession) (sym t'.sessions) (All-set IsSession c'.sessions n (told_guest line t'.old) new' h.second);
        sessions = put_length c.sessions c'.sessions d.sessions d'.sessions n (told_guest line t.old) (told_guest line t'.old) h.sessions t.sessions
            t'.sessions;
        recorders = same_length c.recorders c'.recorders d.recorders d'.recorders h.recorders t.recorders t'.recorders;
        same = λ r r'. told_same line n c c' d d' (h.same (subst HasRoom t.port r) (subst HasRoom t'.port r')) t t';
      }

  -- nothing of any
  nothing_alike : (c c' d d' : CastState) → AreAlike desk c c' → d ≡ c → d' ≡ c' → AreAlike desk d d'
  nothing_alike c c' d d' h e e' = subst (λ (x : CastState). AreAlike desk x d') (sym e) (subst (λ (x : CastState). AreAlike desk c x) (sym e') h)

  -- ---- the next put of a recorder fails

  put_fails_same : (n : ℕ) (c c' d d' : CastState) → SameCast desk c c' → PutFails n c d → PutFails n c' d' → SameCast desk d d'
  put_fails_same n c c' d d' s t t' =
      let old = zip_get SameRec c.recorders c'.recorders n t.old t'.old s.recorders t.there t'.there in
      let zipped = zip_set SameRec c.recorders c'.recorders n (failing t.old) (failing t'.old) s.recorders (failing_same t.old t'.old old) in
      record {
        port = subst (λ (x : SoleState). SamePort x d'.port) (sym t.port) (subst (λ (x : SoleState). SamePort c.port x) (sym t'.port) s.port);
        sessions = subst (λ (l : List Guest). AllZip (SameGuest desk) l d'.sessions) (sym t.sessions)
            (subst (λ (l : List Guest). AllZip (SameGuest desk) c.sessions l) (sym t'.sessions) s.sessions);
        recorders = subst (λ (l : List RecState). AllZip SameRec l d'.recorders) (sym t.recorders)
            (subst (λ (l : List RecState). AllZip SameRec (slice_set c.recorders n (failing t.old)) l) (sym t'.recorders) zipped);
      }

  put_fails_alike : (n : ℕ) (c c' d d' : CastState) → AreAlike desk c c' → PutFails n c d → PutFails n c' d' → AreAlike desk d d'
  put_fails_alike n c c' d d' h t t' = record {
    first = subst (Each_of IsSession) (sym t.sessions) h.first;
    second = subst (Each_of IsSession) (sym t'.sessions) h.second;
    sessions = same_length c.sessions c'.sessions d.sessions d'.sessions h.sessions t.sessions t'.sessions;
    recorders = put_length c.recorders c'.recorders d.recorders d'.recorders n (failing t.old) (failing t'.old) h.recorders t.recorders t'.recorders;
    same = λ r r'. put_fails_same n c c' d d' (h.same (subst HasRoom t.port r) (subst HasRoom t'.port r')) t t';
  }

  -- ---- a line that acts

  plays_alike : (line : ReplayLine) (limits : AllLimits) (c c' d d' : CastState) → OpensNoOther line → AreAlike desk c c' → Plays limits desk line c d
      → Plays limits desk line c' d' → AreAlike desk d d'
  plays_alike Session limits c c' d d' o h t t' = opens_alike limits c c' d d' h t t'
  plays_alike OpenHttp limits c c' d d' o h t t' = absurd o
  plays_alike (OpenEdge n app name) limits c c' d d' o h t t' = absurd o
  plays_alike (FailPut n) limits c c' d d' o h t t' = put_fails_alike n c c' d d' h t t'
  plays_alike (Turn n k) limits c c' d d' o h t t' = turns_alike desk n k c c' d d' h t t'
  plays_alike (Rec n k) limits c c' d d' o h t t' = recs_alike desk n k c c' d d' h t t'
  plays_alike (Rounds k) limits c c' d d' o h t t' = rounds_alike desk k c c' d d' h t t'
  plays_alike (Piece n bytes) limits c c' d d' o h t t' = told_alike (Piece n bytes) n c c' d d' h t t'
  plays_alike (Eof n) limits c c' d d' o h t t' = told_alike (Eof n) n c c' d d' h t t'
  plays_alike (Room n left) limits c c' d d' o h t t' = told_alike (Room n left) n c c' d d' h t t'
  plays_alike (FailRecv n) limits c c' d d' o h t t' = told_alike (FailRecv n) n c c' d d' h t t'
  plays_alike (FailSend n) limits c c' d d' o h t t' = told_alike (FailSend n) n c c' d d' h t t'
  plays_alike (Quit n) limits c c' d d' o h t t' = told_alike (Quit n) n c c' d d' h t t'
  plays_alike Nothing limits c c' d d' o h t t' = nothing_alike c c' d d' h t t'
  plays_alike (Limits a b i q w) limits c c' d d' o h t t' = nothing_alike c c' d d' h t t'
  plays_alike (Stream app name) limits c c' d d' o h t t' = nothing_alike c c' d d' h t t'
  plays_alike (Guard n side mode key) limits c c' d d' o h t t' = nothing_alike c c' d d' h t t'
  plays_alike (OpenApp app n) limits c c' d d' o h t t' = nothing_alike c c' d d' h t t'
  plays_alike (GuardOpen n side mode key) limits c c' d d' o h t t' = nothing_alike c c' d d' h t t'
  plays_alike (Recorder n form) limits c c' d d' o h t t' = nothing_alike c c' d d' h t t'

-- ---- what runs at first

abbrev rules_with : List Name → List OpenName → StreamLimits → PortRules
rules_with names opens limits = sole_rules (record { names = names; opens = opens; limits = limits })

new_text : (who : ℕ) (p : Plan) (r : RecState) → IsNewRecorder who p r → IsText r.form r.recorder
new_text who p r h =
    ap (λ (l : List ℕ). l ++ r.recorder.tape.pending) h.tape.1 ∙ (h.tape.2
    ∙ (ap (λ (f : Form). text_in f []) (sym h.form) ∙ ap (λ (z : RecSeat SeenState). text_in r.form (taken z.calls)) (sym h.seat)))

new_rec_same : (who : ℕ) (p : Plan) (r q : RecState) → IsNewRecorder who p r → IsNewRecorder who p q → SameRec r q
new_rec_same who p r q a b = record {
  form = b.form ∙ sym a.form;
  who = ap (λ (z : RecSeat SeenState). z.who) (b.seat ∙ sym a.seat);
  place = ap (λ (z : RecSeat SeenState). z.place) (b.seat ∙ sym a.seat);
  calls = ap (λ (z : RecSeat SeenState). z.calls) (b.seat ∙ sym a.seat);
  player = b.player ∙ sym a.player;
  sent = b.tape.1 ∙ sym a.tape.1;
  end = b.live ∙ sym a.live;
  file = b.file ∙ sym a.file;
  ended = b.ended ∙ sym a.ended;
  texts = (new_text who p r a, new_text who p q b);
}

new_recs_same : (n : ℕ) (ps : List Plan) (rs qs : List RecState) → AreNew n ps rs → AreNew n ps qs → AllZip SameRec rs qs
new_recs_same n [] [] [] a b = tt
new_recs_same n [] [] (q ∷ qs) a b = absurd b
new_recs_same n [] (r ∷ rs) qs a b = absurd a
new_recs_same n (p ∷ ps) [] qs a b = absurd a
new_recs_same n (p ∷ ps) (r ∷ rs) [] a b = absurd b
new_recs_same n (p ∷ ps) (r ∷ rs) (q ∷ qs) a b = (new_rec_same (2 ^ 60 + n) p r q a.0 b.0, new_recs_same (n + 1) ps rs qs a.1 b.1)

new_cast_same : (desk : Ask → Grant) (s s' : SceneState) (c c' : CastState) → stand_of s' ≡ stand_of s → IsNewCast s c → IsNewCast s' c'
    → SameCast desk c c'
new_cast_same desk s s' c c' e a b =
    let names : c'.port.rules.names ≡ c.port.rules.names = b.port.names ∙ (ap (λ (z : Stand). map name_of z.places) e ∙ sym a.port.names) in
    let opens : c'.port.rules.opens ≡ c.port.rules.opens = b.port.tables ∙ (ap (λ (z : Stand). map open_name z.opens) e ∙ sym a.port.tables) in
    let limits : c'.port.rules.limits ≡ c.port.rules.limits = b.limits ∙ (ap (λ (z : Stand). stream_limits z.limits) e ∙ sym a.limits) in
    let rules : sole_rules c'.port.rules ≡ sole_rules c.port.rules =
    ap (λ (z : List Name). rules_with z c'.port.rules.opens c'.port.rules.limits) names
    ∙ (ap (λ (z : List OpenName). rules_with c.port.rules.names z c'.port.rules.limits) opens
    ∙ ap (λ (z : StreamLimits). rules_with c.port.rules.names c.port.rules.opens z) limits) in
    let news' : AreNew 0 s.recorders c'.recorders = subst (λ (l : List Plan). AreNew 0 l c'.recorders) (ap (λ (z : Stand). z.recorders) e) b.recorders in
    record {
      port = record { rules = rules; journals = λ n. b.empty n ∙ sym (a.empty n) };
      sessions = subst (λ (l : List Guest). AllZip (SameGuest desk) l c'.sessions) (sym a.sessions)
          (subst (λ (l : List Guest). AllZip (SameGuest desk) [] l) (sym b.sessions) tt);
      recorders = new_recs_same 0 s.recorders c.recorders c'.recorders a.recorders news';
    }

new_cast_alike : (desk : Ask → Grant) (s s' : SceneState) (c c' : CastState) → stand_of s' ≡ stand_of s → IsNewCast s c → IsNewCast s' c'
    → AreAlike desk c c'
new_cast_alike desk s s' c c' e a b =
    let same : SameCast desk c c' = new_cast_same desk s s' c c' e a b in
    record {
      first = subst (Each_of IsSession) (sym a.sessions) (All-nil IsSession);
      second = subst (Each_of IsSession) (sym b.sessions) (All-nil IsSession);
      sessions = zip_length (SameGuest desk) c.sessions c'.sessions same.sessions;
      recorders = zip_length SameRec c.recorders c'.recorders same.recorders;
      same = λ r r'. same;
    }

-- what runs before a line acts, or what is printed
pub open_alike : (desk : Ask → Grant) (s s' : SceneState) (o o' : Option CastState) (c c' : CastState) → stand_of s' ≡ stand_of s → AreAlikeIf desk o o'
    → IsOpen o s c → IsOpen o' s' c' → AreAlike desk c c'
open_alike desk s s' None None c c' e h a b = new_cast_alike desk s s' c c' e a b
open_alike desk s s' (Some d) (Some d') c c' e h a b =
    subst (λ (x : CastState). AreAlike desk x c') (sym a) (subst (λ (x : CastState). AreAlike desk d x) (sym b) h)
open_alike desk s s' None (Some d') c c' e h a b = absurd h
open_alike desk s s' (Some d) None c c' e h a b = absurd h

-- each history of which has room
pub open_room : (s : SceneState) (o : Option CastState) (c : CastState) → IsOpen o s c → HasRoomIf o → HasRoom c.port
open_room s None c new r = λ q. (let none : length (journal_at c.port.books q) ≡ 0 = ap length (new.empty q) in omega (arith, none))
open_room s (Some d) c e r = subst (λ (x : CastState). HasRoom x.port) (sym e) r

-- ---- a line

-- a line that acts says nothing of what streams and open tables there are
acting_same : (line : ReplayLine) (st : Stand) → is_acting line ≡ true → ((after line st).places ≡ st.places) × ((after line st).opens ≡ st.opens)
acting_same Nothing st e = absurd (cc)
acting_same (Limits a b i q w) st e = absurd (cc)
acting_same (Stream app name) st e = absurd (cc)
acting_same (Guard n side mode key) st e = absurd (cc)
acting_same (OpenApp app n) st e = absurd (cc)
acting_same (GuardOpen n side mode key) st e = absurd (cc)
acting_same (Recorder n form) st e = absurd (cc)
acting_same Session st e = (refl, refl)
acting_same OpenHttp st e = (refl, refl)
acting_same (OpenEdge n app name) st e = (refl, refl)
acting_same (Piece n bytes) st e = (refl, refl)
acting_same (Eof n) st e = (refl, refl)
acting_same (Room n left) st e = (refl, refl)
acting_same (FailRecv n) st e = (refl, refl)
acting_same (FailSend n) st e = (refl, refl)
acting_same (FailPut n) st e = (refl, refl)
acting_same (Turn n k) st e = (refl, refl)
acting_same (Rec n k) st e = (refl, refl)
acting_same (Rounds k) st e = (refl, refl)
acting_same (Quit n) st e = (refl, refl)

front_true : (a b : Bool) → (a && b) ≡ true → a ≡ true
front_true true b e = refl
front_true false b e = absurd (cc)

-- nor does one that stands behind a line that acted
abbrev SaysNone : ReplayLine → Stand → Type 0
SaysNone line st = (((after line st).places ≡ st.places) × ((after line st).opens ≡ st.opens)) ⊎ (is_setting st.sessions ≡ true)

says_none : (line : ReplayLine) (st : Stand) → allows line st ≡ true → is_acting line ≡ false → SaysNone line st
says_none Nothing st a e = inl (refl, refl)
says_none (Limits m b i q w) st a e = inl (refl, refl)
says_none (Stream app name) st a e = inr (front_true (is_setting st.sessions) (takes_stream app name st) a)
says_none (Guard n side mode key) st a e = inr (front_true (is_setting st.sessions) (takes_at (slice_get st.places n) mode) a)
says_none (OpenApp app n) st a e = inr (front_true (is_setting st.sessions) (takes_table app n st) a)
says_none (GuardOpen n side mode key) st a e = inr (front_true (is_setting st.sessions) (table_takes (slice_get st.opens n) mode) a)
says_none (Recorder n form) st a e = inl (refl, refl)
says_none Session st a e = absurd (cc)
says_none OpenHttp st a e = absurd (cc)
says_none (OpenEdge n app name) st a e = absurd (cc)
says_none (Piece n bytes) st a e = absurd (cc)
says_none (Eof n) st a e = absurd (cc)
says_none (Room n left) st a e = absurd (cc)
says_none (FailRecv n) st a e = absurd (cc)
says_none (FailSend n) st a e = absurd (cc)
says_none (FailPut n) st a e = absurd (cc)
says_none (Turn n k) st a e = absurd (cc)
says_none (Rec n k) st a e = absurd (cc)
says_none (Rounds k) st a e = absurd (cc)
says_none (Quit n) st a e = absurd (cc)

abbrev desk_with : List PlaceRule → List OpenRule → Ask → Grant
desk_with places opens = granted_from 0 places opens

desk_same : (s t : SceneState) → t.places ≡ s.places → t.opens ≡ s.opens → desk_of t ≡ desk_of s
desk_same s t p o = ap (λ (l : List PlaceRule). desk_with l t.opens) p ∙ ap (λ (l : List OpenRule). desk_with s.places l) o

none_of : (o : Option CastState) → is_setting (option_map (λ (c : CastState). length c.sessions) o) ≡ true → o ≡ None
none_of None e = refl
none_of (Some c) e = absurd (cc)

same_nothing : (desk : Ask → Grant) (o o' : Option CastState) → o ≡ None → o' ≡ None → AreAlikeIf desk o o'
same_nothing desk o o' e f = subst (λ (z : Option CastState). AreAlikeIf desk z o') (sym e)
    (subst (λ (z : Option CastState). AreAlikeIf desk None z) (sym f) tt)

-- A LINE OF TWO RUNS THAT ARE ALIKE
module _ (line : ReplayLine) (s s' t t' : SceneState) (a : allows line (stand_of s) ≡ true) (o : OpensNoOther line) (d : Does line s t) (d' : Does line s' t')
    (h : SameScene s s') where
  desk_same_at : ((after line (stand_of s)).places ≡ s.places) × ((after line (stand_of s)).opens ≡ s.opens) → desk_of t ≡ desk_of s
  desk_same_at e = desk_same s t (ap (λ (z : Stand). z.places) d.stand ∙ e.0) (ap (λ (z : Stand). z.opens) d.stand ∙ e.1)

  desks : desk_of s' ≡ desk_of s
  desks = desk_same s s' (ap (λ (z : Stand). z.places) h.stand) (ap (λ (z : Stand). z.opens) h.stand)

  limits_same : s'.limits ≡ s.limits
  limits_same = ap (λ (z : Stand). z.limits) h.stand

  moved : (u u' : Option CastState) → t.cast ≡ u → t'.cast ≡ u' → AreAlikeIf (desk_of s) u u' → desk_of t ≡ desk_of s → AreAlikeIf (desk_of t) t.cast t'.cast
  moved u u' e e' k f =
      subst (λ (z : Ask → Grant). AreAlikeIf z t.cast t'.cast) (sym f)
      (subst (λ (z : Option CastState). AreAlikeIf (desk_of s) z t'.cast) (sym e)
      (subst (λ (z : Option CastState). AreAlikeIf (desk_of s) u z) (sym e') k))

  casts_by : (b : Bool) → is_acting line ≡ b → CastBy b line s t → CastBy b line s' t' → AreAlikeIf (desk_of t) t.cast t'.cast
  casts_by false e c c' = elim (says_none line (stand_of s) a e) [
    | inl k ↦ moved s.cast s'.cast c c' h.casts (desk_same_at k)
    | inr k ↦ same_nothing (desk_of t) t.cast t'.cast (c ∙ none_of s.cast k)
        (c' ∙ none_of s'.cast (ap (λ (z : Stand). is_setting z.sessions) h.stand ∙ k))
  ]
  casts_by true e c c' =
      let before : AreAlike (desk_of s) c.before c'.before =
      open_alike (desk_of s) s s' s.cast s'.cast c.before c'.before h.stand h.casts c.opened c'.opened in
      let plays : Plays s.limits (desk_of s) line c'.before c'.now =
      subst (λ (l : AllLimits). Plays l (desk_of s) line c'.before c'.now) limits_same
      (subst (λ (z : Ask → Grant). Plays s'.limits z line c'.before c'.now) desks c'.plays) in
      let now : AreAlikeIf (desk_of s) (Some c.now) (Some c'.now) =
      plays_alike (desk_of s) line s.limits c.before c'.before c.now c'.now o before c.plays plays in
      moved (Some c.now) (Some c'.now) c.cast c'.cast now (desk_same_at (acting_same line (stand_of s) e))

  pub line_same : SameScene t t'
  line_same = record { stand = d'.stand ∙ (ap (after line) h.stand ∙ sym d.stand); casts = casts_by (is_acting line) refl d.cast d'.cast }
