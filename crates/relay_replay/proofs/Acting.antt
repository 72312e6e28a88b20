-- What a line that acts leads to
use Rattle.std.proofs.Common.{◌≡◌, ◌<◌, ◌≤◌, ◌&&◌, ℕ, nat_le, nat_lt, true, false, List, length, Option, Some, None, refl, sym, ap, ◌∙◌, subst, arith}
use Rattle.std.specs.Option.{option_map}
use Rattle.std.proofs.lemmas.Bool.Decides.{nat_tests}
use Rattle.relay_script.specs.declared.replay.ReplayLine.{ReplayLine}
use Rattle.relay_script.specs.declared.replay.ReplayLine.TheVariants.{Nothing, Limits, Stream, Guard, Recorder, Session, Piece, Eof, Room, FailRecv, FailSend}
use Rattle.relay_script.specs.declared.replay.ReplayLine.TheVariants.{FailPut, Turn, Rec, All as Rounds, Quit, OpenApp, GuardOpen, OpenHttp, OpenEdge}
use Rattle.relay_replay.specs.Cast.{CastState}
use Rattle.relay_replay.specs.Plays.{Plays}
use Rattle.relay_replay.specs.Scenes.{CastBy, Does, IsOpen, IsThere, SceneState, Sits, desk_of, is_acting, opened_by, stand_of}
use Rattle.relay_replay.specs.Stand.{Stand, acted, after, allows, count, has_room, is_short}
use Rattle.relay_replay.proofs.Keep.{as_many_places}
use Rattle.relay_replay.proofs.Naming.{both}

-- as many sessions are open as the lines before have opened
opened_count : (o : Option CastState) (s : SceneState) (c : CastState) → IsOpen o s c
    → count (option_map (λ (x : CastState). length x.sessions) o) ≡ length c.sessions
opened_count None s c new = sym (ap length new.sessions)
opened_count (Some d) s c e = sym (ap (λ (x : CastState). length x.sessions) e)

acted_stand : (line : ReplayLine) (x : Stand) → is_acting line ≡ true → acted (opened_by line (count x.sessions)) x ≡ after line x
acted_stand Nothing x e = absurd (cc)
acted_stand (Limits a b i q w) x e = absurd (cc)
acted_stand (Stream app name) x e = absurd (cc)
acted_stand (Guard n side mode key) x e = absurd (cc)
acted_stand (OpenApp app n) x e = absurd (cc)
acted_stand (GuardOpen n side mode key) x e = absurd (cc)
acted_stand (Recorder n form) x e = absurd (cc)
acted_stand Session x e = refl
acted_stand OpenHttp x e = refl
acted_stand (OpenEdge n app name) x e = refl
acted_stand (Piece n bytes) x e = refl
acted_stand (Eof n) x e = refl
acted_stand (Room n left) x e = refl
acted_stand (FailRecv n) x e = refl
acted_stand (FailSend n) x e = refl
acted_stand (FailPut n) x e = refl
acted_stand (Turn n k) x e = refl
acted_stand (Rec n k) x e = refl
acted_stand (Rounds k) x e = refl
acted_stand (Quit n) x e = refl

pub acted_does : (line : ReplayLine) (s : SceneState) (before now : CastState) → is_acting line ≡ true → IsOpen s.cast s before
    → Plays s.limits (desk_of s) line before now → length now.sessions ≡ opened_by line (length before.sessions)
    → Does line s (record s { fresh = false; cast = Some now })
acted_does line s before now acts begun plays many = record {
  stand = ap (λ (n : ℕ). acted n (stand_of s)) (many ∙ ap (opened_by line) (sym (opened_count s.cast s before begun))) ∙ acted_stand line (stand_of s) acts;
  cast = subst (λ b. CastBy b line s (record s { fresh = false; cast = Some now })) (sym acts)
      (record { before = before; opened = begun; now = now; plays = plays; cast = refl });
}

-- ---- what a line names is there

below : (n k : ℕ) → nat_lt n k ≡ true → n < k
below n k e = grind (arith, nat_tests, e)

short : (l : List ℕ) → is_short l ≡ true → (1 ≤ length l) × (length l ≤ 64)
short l e =
    let h = both (nat_le 1 (length l)) (nat_le (length l) 64) e in
    let some : 1 ≤ length l = grind (arith, nat_tests, h.0) in
    let few : length l ≤ 64 = grind (arith, nat_tests, h.1) in
    (some, few)

-- that many sessions are open
counted : (n : ℕ) (s : SceneState) (c : CastState) → IsOpen s.cast s c
    → nat_lt n (count (option_map (λ (x : CastState). length x.sessions) s.cast)) ≡ true → n < length c.sessions
counted n s c o e = subst (λ (k : ℕ). n < k) (opened_count s.cast s c o) (below n (count (option_map (λ (x : CastState). length x.sessions) s.cast)) e)

-- one more finds room
roomy : (s : SceneState) (c : CastState) → IsOpen s.cast s c → has_room (stand_of s) ≡ true → length c.sessions < 64
roomy s c o e = subst (λ (k : ℕ). k < 64) (opened_count s.cast s c o) (below (count (option_map (λ (x : CastState). length x.sessions) s.cast)) 64 e)

recorded : (n : ℕ) (s : SceneState) (c : CastState) → Sits s.places s.opens (length s.recorders) c → nat_lt n (length s.recorders) ≡ true
    → n < length c.recorders
recorded n s c k e = subst (λ (m : ℕ). n < m) (sym k.count) (below n (length s.recorders) e)

pub is_there : (line : ReplayLine) (s : SceneState) (c : CastState) → allows line (stand_of s) ≡ true → IsOpen s.cast s c
    → Sits s.places s.opens (length s.recorders) c → IsThere line c
is_there Session s c e o k = roomy s c o e
is_there OpenHttp s c e o k = roomy s c o e
is_there (OpenEdge n app name) s c e o k =
    let named = is_short app && is_short name in
    let h = both (has_room (stand_of s)) (nat_lt n (length s.places) && named) e in
    let i = both (nat_lt n (length s.places)) named h.1 in
    let j = both (is_short app) (is_short name) i.1 in
    let at : n < length s.places = below n (length s.places) i.0 in
    let a = short app j.0 in
    let b = short name j.1 in
    (roomy s c o h.0, omega (arith, at, as_many_places s.places s.opens c.port k.port), (a.0, a.1, b.0, b.1))
is_there (Piece n bytes) s c e o k = counted n s c o e
is_there (Eof n) s c e o k = counted n s c o e
is_there (Room n left) s c e o k = counted n s c o e
is_there (FailRecv n) s c e o k = counted n s c o e
is_there (FailSend n) s c e o k = counted n s c o e
is_there (FailPut n) s c e o k = recorded n s c k e
is_there (Turn n i) s c e o k = counted n s c o e
is_there (Rec n i) s c e o k = recorded n s c k e
is_there (Quit n) s c e o k = counted n s c o e
is_there Nothing s c e o k = tt
is_there (Limits a b i q w) s c e o k = tt
is_there (Stream app name) s c e o k = tt
is_there (Guard n side mode key) s c e o k = tt
is_there (OpenApp app n) s c e o k = tt
is_there (GuardOpen n side mode key) s c e o k = tt
is_there (Recorder n form) s c e o k = tt
is_there (Rounds i) s c e o k = tt
