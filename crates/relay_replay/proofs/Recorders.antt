-- What each recorder of a replay wrote is the text of what it took, after each line
use Rattle.std.proofs.Common.{◌≡◌, ◌^◌, ◌+◌, ◌++◌, ℕ, Bool, true, false, List, [], ◌∷◌, length, All, Option, Some, None, refl, sym, ap, ◌∙◌, subst}
use Rattle.std.proofs.lemmas.List.Elements.{All-cons, All-nil, All-set}
use Rattle.command_dialog.specs.declared.types.Ask.{Ask}
use Rattle.command_dialog.specs.declared.types.Grant.{Grant}
use Rattle.media_recorder.specs.Seats.{SeatState}
use Rattle.media_recorder.specs.Taken.{taken}
use Rattle.relay_base.specs.declared.limits.Limits.{Limits as AllLimits}
use Rattle.relay_script.specs.declared.replay.Form.{Form}
use Rattle.relay_script.specs.declared.replay.ReplayLine.{ReplayLine}
use Rattle.relay_script.specs.declared.replay.ReplayLine.TheVariants.{Nothing, Limits, Stream, Guard, Recorder, Session, Piece, Eof, Room, FailRecv, FailSend}
use Rattle.relay_script.specs.declared.replay.ReplayLine.TheVariants.{FailPut, Turn, Rec, All as Rounds, Quit, OpenApp, GuardOpen, OpenHttp, OpenEdge}
use Rattle.stream_registry.specs.Books.{SoleState, SeenState}
use Rattle.relay_replay.specs.declared.recording.Plan.{Plan}
use Rattle.relay_replay.specs.Cast.{CastState, RecState, RecTurnOf, RecorderTurn, Round, TurnOf, text_in}
use Rattle.relay_replay.specs.Files.{FileState}
use Rattle.relay_replay.specs.Plays.{Plays, ToldBy}
use Rattle.relay_replay.specs.Recorded.{AreRecorded, IsRecorded, RecordedIf, RecordedIn}
use Rattle.relay_replay.specs.Scenes.{AreNew, CastBy, Does, IsNewRecorder, IsOpen, SceneState, SettledIn, desk_of, is_acting}
use Rattle.relay_replay.proofs.Serving.{all_at, each_keep, settled_keep, times_keep}

-- ---- a new recorder

none_text : (f g : Form) (sent pending : List ℕ) (seat : SeatState SeenState) (who place : ℕ) → f ≡ g → sent ≡ [] → pending ≡ text_in g []
    → seat ≡ record { who = who; place = place; pass = None; calls = [] } → sent ++ pending ≡ text_in f (taken seat.calls)
none_text f g sent pending seat who place a b c d = rw a (rw b (rw c (rw d refl)))

new_recorded : (who : ℕ) (p : Plan) (r : RecState) → IsNewRecorder who p r → IsRecorded r
new_recorded who p r n = record {
  took = ap (λ (f : FileState). f.bytes) n.file ∙ sym n.tape.1;
  text = none_text r.form p.form r.recorder.tape.sent r.recorder.tape.pending r.recorder.seat who p.stream n.form n.tape.1 n.tape.2 n.seat;
}

pub are_recorded : (n : ℕ) (ps : List Plan) (rs : List RecState) → AreNew n ps rs → All IsRecorded rs
are_recorded n [] [] a = All-nil IsRecorded
are_recorded n [] (r ∷ rs) a = absurd a
are_recorded n (p ∷ ps) [] a = absurd a
are_recorded n (p ∷ ps) (r ∷ rs) a = All-cons IsRecorded r rs (new_recorded (2 ^ 60 + n) p r a.0) (are_recorded (n + 1) ps rs a.1)

-- ---- turns

recorded_turn : (port : SoleState) (c : RecState) (port' : SoleState) (d : RecState) → RecorderTurn port c port' d → IsRecorded c → IsRecorded d
recorded_turn port c port' d t s = record { took = t.took s.took; text = t.text }

recorded_rec : (n : ℕ) (c d : CastState) → RecTurnOf n c d → RecordedIn c → RecordedIn d
recorded_rec n c d t s =
    let new = recorded_turn c.port t.old d.port t.new t.turn (all_at IsRecorded c.recorders n t.old t.there s) in
    subst (All IsRecorded) (sym t.recorders) (All-set IsRecorded c.recorders n t.new new s)

recorded_of : (desk : Ask → Grant) (n : ℕ) (c d : CastState) → TurnOf desk n c d → RecordedIn c → RecordedIn d
recorded_of desk n c d t s = subst (All IsRecorded) (sym t.1.recorders) s

recorded_round : (desk : Ask → Grant) (c d : CastState) → Round desk c d → RecordedIn c → RecordedIn d
recorded_round desk c d r s =
    each_keep RecordedIn RecTurnOf recorded_rec (length r.between.recorders) r.between d r.recorders
    (each_keep RecordedIn (TurnOf desk) (recorded_of desk) (length c.sessions) c r.between r.sessions s)

-- ---- lines

told_recorded : (o : Option ℕ) (line : ReplayLine) (c d : CastState) → ToldBy o line c d → RecordedIn c → RecordedIn d
told_recorded None line c d t s = subst RecordedIn (sym t) s
told_recorded (Some n) line c d t s = subst (All IsRecorded) (sym t.recorders) s

plays_recorded : (line : ReplayLine) (limits : AllLimits) (desk : Ask → Grant) (c d : CastState) → Plays limits desk line c d → RecordedIn c → RecordedIn d
plays_recorded Session limits desk c d p s = subst (All IsRecorded) (sym p.recorders) s
plays_recorded OpenHttp limits desk c d p s = subst (All IsRecorded) (sym p.recorders) s
plays_recorded (OpenEdge n app name) limits desk c d p s = subst (All IsRecorded) (sym p.recorders) s
plays_recorded (FailPut n) limits desk c d p s =
    let was = all_at IsRecorded c.recorders n p.old p.there s in
    let new : RecState = record p.old { file = record p.old.file { put_fails = true } } in
    subst (All IsRecorded) (sym p.recorders) (All-set IsRecorded c.recorders n new (record { took = was.took; text = was.text }) s)
plays_recorded (Turn n k) limits desk c d p s = times_keep RecordedIn (TurnOf desk n) (recorded_of desk n) k c d p s
plays_recorded (Rec n k) limits desk c d p s = times_keep RecordedIn (RecTurnOf n) (recorded_rec n) k c d p s
plays_recorded (Rounds k) limits desk c d p s = times_keep RecordedIn (Round desk) (recorded_round desk) k c d p s
plays_recorded (Piece n bytes) limits desk c d p s = told_recorded (Some n) (Piece n bytes) c d p s
plays_recorded (Eof n) limits desk c d p s = told_recorded (Some n) (Eof n) c d p s
plays_recorded (Room n left) limits desk c d p s = told_recorded (Some n) (Room n left) c d p s
plays_recorded (FailRecv n) limits desk c d p s = told_recorded (Some n) (FailRecv n) c d p s
plays_recorded (FailSend n) limits desk c d p s = told_recorded (Some n) (FailSend n) c d p s
plays_recorded (Quit n) limits desk c d p s = told_recorded (Some n) (Quit n) c d p s
plays_recorded Nothing limits desk c d p s = told_recorded None Nothing c d p s
plays_recorded (Limits a b i q w) limits desk c d p s = told_recorded None (Limits a b i q w) c d p s
plays_recorded (Stream app name) limits desk c d p s = told_recorded None (Stream app name) c d p s
plays_recorded (Guard n side mode key) limits desk c d p s = told_recorded None (Guard n side mode key) c d p s
plays_recorded (OpenApp app n) limits desk c d p s = told_recorded None (OpenApp app n) c d p s
plays_recorded (GuardOpen n side mode key) limits desk c d p s = told_recorded None (GuardOpen n side mode key) c d p s
plays_recorded (Recorder n form) limits desk c d p s = told_recorded None (Recorder n form) c d p s

opened_recorded : (o : Option CastState) (s : SceneState) (c : CastState) → IsOpen o s c → RecordedIf o → RecordedIn c
opened_recorded None s c new k = are_recorded 0 s.recorders c.recorders new.recorders
opened_recorded (Some d) s c e k = subst RecordedIn (sym e) k

line_recorded : (acts : Bool) (line : ReplayLine) (s t : SceneState) → CastBy acts line s t → AreRecorded s → AreRecorded t
line_recorded false line s t c k = subst RecordedIf (sym c) k
line_recorded true line s t a k =
    subst RecordedIf (sym a.cast)
    (plays_recorded line s.limits (desk_of s) a.before a.now a.plays (opened_recorded s.cast s a.before a.opened k))

pub does_recorded : (line : ReplayLine) (s t : SceneState) → Does line s t → AreRecorded s → AreRecorded t
does_recorded line s t d k = line_recorded (is_acting line) line s t d.cast k

pub settled_recorded : (done : Bool) (most n : ℕ) (s t : SceneState) → SettledIn done most n s t → AreRecorded s → AreRecorded t
settled_recorded done most n s t x k =
    let desk = desk_of s in
    subst RecordedIf (sym x.cast)
    (settled_keep RecordedIn desk n (recorded_of desk n) done most x.before x.now x.turns (opened_recorded s.cast s x.before x.opened k))

pub cast_recorded : (s : SceneState) (c : CastState) → IsOpen s.cast s c → AreRecorded s → RecordedIn c
cast_recorded s c o k = opened_recorded s.cast s c o k
