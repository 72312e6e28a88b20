-- Turns in two runs
use Rattle.std.proofs.Common.{◌≡◌, ℕ, zero, suc, List, [], ◌∷◌, length, slice_get, slice_set, All, Some, refl, sym, ap, ◌∙◌, subst}
use Rattle.std.specs.List.{AllZip}
use Rattle.std.proofs.lemmas.List.Elements.{All-set}
use Rattle.command_dialog.specs.declared.types.Ask.{Ask}
use Rattle.command_dialog.specs.declared.types.Grant.{Grant}
use Rattle.stream_registry.specs.Books.{SoleState}
use Rattle.turn_law.specs.Twins.{HasRoom, SamePort}
use Rattle.relay_replay.specs.Cast.{AnsweredTurn, CastState, Each, GuestTurn, RecState, RecTurnOf, Round, Times, TurnOf}
use Rattle.relay_replay.specs.Whole.{IsSession}
use Rattle.relay_replay.specs.declared.guest.Answered.{Answered}
use Rattle.relay_replay.specs.declared.guest.Guest.{Guest}
use Rattle.relay_replay.specs.declared.guest.Guest.TheVariants as guest
use Rattle.relay_replay.proofs.Keep.{length_set}
use Rattle.relay_replay.proofs.Serving.{all_at}
use Rattle.replay_law.proofs.Alike.{AreAlike, SameCast, SameGuest, SameRec}
use Rattle.replay_law.proofs.Recs.{rec_room, rec_same}
use Rattle.replay_law.proofs.Sessions.{session_room, session_same}

-- ---- lists side by side

some_is : {A : Type 0} → (x y : A) → Some x ≡ Some y → x ≡ y
some_is x y e = let s : x ≡ y = cc in s

pub zip_get : {A : Type 0} → (R : A → A → Type 0) (xs ys : List A) (n : ℕ) (x y : A) → AllZip R xs ys → slice_get xs n ≡ Some x → slice_get ys n ≡ Some y
    → R x y
zip_get R [] ys n x y a e f = absurd (cc)
zip_get R (b ∷ xs) [] n x y a e f = absurd a
zip_get {A} R (b ∷ xs) (c ∷ ys) zero x y a e f = subst (λ (z : A). R z y) (some_is b x e) (subst (λ (z : A). R b z) (some_is c y f) a.0)
zip_get R (b ∷ xs) (c ∷ ys) (suc n) x y a e f = zip_get R xs ys n x y a.1 e f

pub zip_set : {A : Type 0} → (R : A → A → Type 0) (xs ys : List A) (n : ℕ) (x y : A) → AllZip R xs ys → R x y
    → AllZip R (slice_set xs n x) (slice_set ys n y)
zip_set R [] [] n x y a r = a
zip_set R [] (c ∷ ys) n x y a r = absurd a
zip_set R (b ∷ xs) [] n x y a r = absurd a
zip_set R (b ∷ xs) (c ∷ ys) zero x y a r = (r, a.1)
zip_set R (b ∷ xs) (c ∷ ys) (suc n) x y a r = (a.0, zip_set R xs ys n x y a.1 r)

pub zip_length : {A : Type 0} → (R : A → A → Type 0) (xs ys : List A) → AllZip R xs ys → length ys ≡ length xs
zip_length R [] [] a = refl
zip_length R [] (c ∷ ys) a = absurd a
zip_length R (b ∷ xs) [] a = absurd a
zip_length R (b ∷ xs) (c ∷ ys) a = ap suc (zip_length R xs ys a.1)

-- one was put for another in both
pub put_length : {A : Type 0} → (xs ys xs' ys' : List A) (n : ℕ) (x y : A) → length ys ≡ length xs → xs' ≡ slice_set xs n x → ys' ≡ slice_set ys n y
    → length ys' ≡ length xs'
put_length xs ys xs' ys' n x y e s t =
    ap length t ∙ (length_set ys n y ∙ (e ∙ sym (ap length s ∙ length_set xs n x)))

pub same_length : {A : Type 0} → (xs ys xs' ys' : List A) → length ys ≡ length xs → xs' ≡ xs → ys' ≡ ys → length ys' ≡ length xs'
same_length xs ys xs' ys' e s t = ap length t ∙ (e ∙ sym (ap length s))

-- ---- one turn

-- it keeps the kind
kind_after : (a : Answered) (desk : Ask → Grant) (x : SoleState) (g : Guest) (y : SoleState) (h : Guest) → GuestTurn a desk x g y h → IsSession g
    → IsSession h
kind_after a desk x (guest.Session c) y h t k = subst IsSession (sym t.1) tt
kind_after a desk x (guest.Player c) y h t k = absurd k
kind_after a desk x (guest.Edge c) y h t k = absurd k

-- a history that has room had room before
guest_room : (a : Answered) (desk : Ask → Grant) (x : SoleState) (g : Guest) (y : SoleState) (h : Guest) → GuestTurn a desk x g y h → IsSession g
    → HasRoom y → HasRoom x
guest_room a desk x (guest.Session c) y h t k r = session_room desk c.ended x c y t.0 t.2.0 r
guest_room a desk x (guest.Player c) y h t k r = absurd k
guest_room a desk x (guest.Edge c) y h t k r = absurd k

module _ (desk : Ask → Grant) where
  -- what two turns leave
  record Then (x x' : SoleState) (g g' : Guest) : Type 0 where
    port : SamePort x x'
    guests : SameGuest desk g g'

  guest_same : (a a' : Answered) (x x' y y' : SoleState) (g g' h h' : Guest) → SamePort x x' → HasRoom y → HasRoom y' → SameGuest desk g g'
      → GuestTurn a desk x g y h → GuestTurn a' desk x' g' y' h' → Then y y' h h'
  guest_same a a' x x' y y' (guest.Session c) (guest.Session c') h h' ports room room' s t t' =
      let r = session_same desk x x' c c' y y' t.0 t'.0 ports room room' c.ended c'.ended s.ended refl t.2.0 t'.2.0 s in
      record {
        port = r.port;
        guests = subst (λ (z : Guest). SameGuest desk z h') (sym t.1) (subst (λ (z : Guest). SameGuest desk (guest.Session t.0) z) (sym t'.1) r.conn);
      }
  guest_same a a' x x' y y' (guest.Session c) (guest.Player c') h h' ports room room' s t t' = absurd s
  guest_same a a' x x' y y' (guest.Session c) (guest.Edge c') h h' ports room room' s t t' = absurd s
  guest_same a a' x x' y y' (guest.Player c) g' h h' ports room room' s t t' = absurd s
  guest_same a a' x x' y y' (guest.Edge c) g' h h' ports room room' s t t' = absurd s

  turn_cast : (n : ℕ) (a a' : Answered) (c c' d d' : CastState) → SameCast desk c c' → HasRoom d.port → HasRoom d'.port → AnsweredTurn desk n a c d
      → AnsweredTurn desk n a' c' d' → SameCast desk d d'
  turn_cast n a a' c c' d d' s room room' t t' =
      let old = zip_get (SameGuest desk) c.sessions c'.sessions n t.old t'.old s.sessions t.there t'.there in
      let r = guest_same a a' c.port c'.port d.port d'.port t.old t'.old t.new t'.new s.port room room' old t.turn t'.turn in
      let zipped = zip_set (SameGuest desk) c.sessions c'.sessions n t.new t'.new s.sessions r.guests in
      record {
        port = r.port;
        sessions = subst (λ (l : List Guest). AllZip (SameGuest desk) l d'.sessions) (sym t.sessions)
            (subst (λ (l : List Guest). AllZip (SameGuest desk) (slice_set c.sessions n t.new) l) (sym t'.sessions) zipped);
        recorders = subst (λ (l : List RecState). AllZip SameRec l d'.recorders) (sym t.recorders)
            (subst (λ (l : List RecState). AllZip SameRec c.recorders l) (sym t'.recorders) s.recorders);
      }

  turn_alike : (n : ℕ) (c c' d d' : CastState) → AreAlike desk c c' → TurnOf desk n c d → TurnOf desk n c' d' → AreAlike desk d d'
  turn_alike n c c' d d' h u u' =
      let t = u.1 in
      let t' = u'.1 in
      let old : IsSession t.old = all_at IsSession c.sessions n t.old t.there h.first in
      let old' : IsSession t'.old = all_at IsSession c'.sessions n t'.old t'.there h.second in
      let new : IsSession t.new = kind_after u.0 desk c.port t.old d.port t.new t.turn old in
      let new' : IsSession t'.new = kind_after u'.0 desk c'.port t'.old d'.port t'.new t'.turn old' in
      record {
        first = subst (All IsSession) (sym t.sessions) (All-set IsSession c.sessions n t.new new h.first);
        second = subst (All IsSession) (sym t'.sessions) (All-set IsSession c'.sessions n t'.new new' h.second);
        sessions = put_length c.sessions c'.sessions d.sessions d'.sessions n t.new t'.new h.sessions t.sessions t'.sessions;
        recorders = same_length c.recorders c'.recorders d.recorders d'.recorders h.recorders t.recorders t'.recorders;
        same = λ r r'.
            turn_cast n u.0 u'.0 c c' d d'
            (h.same (guest_room u.0 desk c.port t.old d.port t.new t.turn old r) (guest_room u'.0 desk c'.port t'.old d'.port t'.new t'.turn old' r'))
            r r' t t';
      }

  rec_cast : (n : ℕ) (c c' d d' : CastState) → SameCast desk c c' → HasRoom d.port → HasRoom d'.port → RecTurnOf n c d → RecTurnOf n c' d'
      → SameCast desk d d'
  rec_cast n c c' d d' s room room' t t' =
      let old = zip_get SameRec c.recorders c'.recorders n t.old t'.old s.recorders t.there t'.there in
      let r = rec_same c.port c'.port d.port d'.port t.old t'.old t.new t'.new s.port room room' old t.turn t'.turn in
      let zipped = zip_set SameRec c.recorders c'.recorders n t.new t'.new s.recorders r.1 in
      record {
        port = r.0;
        sessions = subst (λ (l : List Guest). AllZip (SameGuest desk) l d'.sessions) (sym t.sessions)
            (subst (λ (l : List Guest). AllZip (SameGuest desk) c.sessions l) (sym t'.sessions) s.sessions);
        recorders = subst (λ (l : List RecState). AllZip SameRec l d'.recorders) (sym t.recorders)
            (subst (λ (l : List RecState). AllZip SameRec (slice_set c.recorders n t.new) l) (sym t'.recorders) zipped);
      }

  rec_alike : (n : ℕ) (c c' d d' : CastState) → AreAlike desk c c' → RecTurnOf n c d → RecTurnOf n c' d' → AreAlike desk d d'
  rec_alike n c c' d d' h t t' = record {
    first = subst (All IsSession) (sym t.sessions) h.first;
    second = subst (All IsSession) (sym t'.sessions) h.second;
    sessions = same_length c.sessions c'.sessions d.sessions d'.sessions h.sessions t.sessions t'.sessions;
    recorders = put_length c.recorders c'.recorders d.recorders d'.recorders n t.new t'.new h.recorders t.recorders t'.recorders;
    same = λ r r'.
        rec_cast n c c' d d'
        (h.same (rec_room t.old.recorder.seat.place c.port d.port t.turn.served r) (rec_room t'.old.recorder.seat.place c'.port d'.port t'.turn.served r'))
        r r' t t';
  }

-- ---- many

module _ {A : Type 0} (R : A → A → Type 0) where
  times_same : (step : A → A → Type 0) → ((c c' d d' : A) → R c c' → step c d → step c' d' → R d d') → (k : ℕ) (c c' d d' : A) → R c c'
      → Times k step c d → Times k step c' d' → R d d'
  times_same step one zero c c' d d' r t t' = subst (λ (z : A). R z d') (sym t) (subst (λ (z : A). R c z) (sym t') r)
  times_same step one (suc k) c c' d d' r t t' = one t.0 t'.0 d d' (times_same step one k c c' t.0 t'.0 r t.1.0 t'.1.0) t.1.1 t'.1.1

  each_same : (step : ℕ → A → A → Type 0) → ((n : ℕ) (c c' d d' : A) → R c c' → step n c d → step n c' d' → R d d') → (k : ℕ) (c c' d d' : A) → R c c'
      → Each k step c d → Each k step c' d' → R d d'
  each_same step one zero c c' d d' r t t' = subst (λ (z : A). R z d') (sym t) (subst (λ (z : A). R c z) (sym t') r)
  each_same step one (suc k) c c' d d' r t t' = one k t.0 t'.0 d d' (each_same step one k c c' t.0 t'.0 r t.1.0 t'.1.0) t.1.1 t'.1.1

module _ (desk : Ask → Grant) where
  round_alike : (c c' d d' : CastState) → AreAlike desk c c' → Round desk c d → Round desk c' d' → AreAlike desk d d'
  round_alike c c' d d' h t t' =
      let mid : AreAlike desk t.between t'.between =
      each_same (AreAlike desk) (TurnOf desk) (turn_alike desk) (length c.sessions) c c' t.between t'.between h t.sessions
      (subst (λ (k : ℕ). Each k (TurnOf desk) c' t'.between) h.sessions t'.sessions) in
      each_same (AreAlike desk) RecTurnOf (rec_alike desk) (length t.between.recorders) t.between t'.between d d' mid t.recorders
      (subst (λ (k : ℕ). Each k RecTurnOf t'.between d') mid.recorders t'.recorders)

  pub turns_alike : (n k : ℕ) (c c' d d' : CastState) → AreAlike desk c c' → Times k (TurnOf desk n) c d → Times k (TurnOf desk n) c' d' → AreAlike desk d d'
  turns_alike n k c c' d d' h t t' = times_same (AreAlike desk) (TurnOf desk n) (turn_alike desk n) k c c' d d' h t t'

  pub recs_alike : (n k : ℕ) (c c' d d' : CastState) → AreAlike desk c c' → Times k (RecTurnOf n) c d → Times k (RecTurnOf n) c' d' → AreAlike desk d d'
  recs_alike n k c c' d d' h t t' = times_same (AreAlike desk) (RecTurnOf n) (rec_alike desk n) k c c' d d' h t t'

  pub rounds_alike : (k : ℕ) (c c' d d' : CastState) → AreAlike desk c c' → Times k (Round desk) c d → Times k (Round desk) c' d' → AreAlike desk d d'
  rounds_alike k c c' d d' h t t' = times_same (AreAlike desk) (Round desk) round_alike k c c' d d' h t t'
