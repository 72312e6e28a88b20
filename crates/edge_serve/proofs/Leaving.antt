-- An edge that is closed
use Rattle.std.proofs.Common.{◌≡◌, inl, inr, ℕ, Bool, true, false, List, [], ◌∷◌, ◌++◌, Option, Some, None, map, refl, sym, ap, ◌∙◌, subst, append-nil}
use Rattle.std.proofs.lemmas.List.{append_cancel_left, reverse-append}
use Rattle.std.proofs.lemmas.Bool.{false≢true}
use Rattle.session_owed.specs.Talk.{Own}
use Rattle.stream_model.specs.declared.calls.Call.{Call}
use Rattle.stream_model.specs.declared.calls.Entry.{Entry}
use Rattle.stream_model.specs.declared.replies.Reply.{Reply}
use Rattle.relay_session.specs.SeatState.{AllMade, IsMade, KeptMade, KeptOrMade, LastMade, Leaves, LeavesFrom, last_of, left_at, place_of}
use Rattle.relay_session.specs.SeatVisits.{Visit, calls_of}
use Rattle.relay_session.specs.declared.seat_answers.Active.{Active}
use Rattle.relay_session.specs.declared.seat_answers.Active.TheVariants as active
use Rattle.relay_session.specs.declared.seat_answers.Leaving.{Leaving}
use Rattle.relay_session.specs.declared.seat_answers.Leaving.TheVariants as leaving
use Rattle.relay_worker.specs.Rounds.{has_left}
use Rattle.relay_worker.proofs.Booking.{LeftAs, Since, left_from, nowhere}
use Rattle.origin_pull.specs.EdgeState.{EdgeState}
use Rattle.origin_pull.specs.Keeping.{AreHere, IsAt, IsHere}
use Rattle.origin_pull.specs.declared.core_fields.Core.{Core}
use Rattle.edge_serve.specs.Driving.{HasLeft}
use Rattle.edge_serve.specs.Pulls.{Parts, PartsBy}

-- ---- all its calls are at its place

here_made : (place : ℕ) (e : Entry) (r : Reply) (V W : List Visit) → IsMade place e r V W → AreHere place V → AreHere place W
here_made place e r V W m h = subst (AreHere place) (sym m) (refl, h)

here_kept : (place : ℕ) (kept : Option Entry) (a b : Active) (V W : List Visit) → KeptMade place kept a V b W → AreHere place V → AreHere place W
here_kept place None a b V W m h = subst (AreHere place) (sym m.1) h
here_kept place (Some e) a b V W m h = here_made place e m.0 V W m.2 h

here_or : (place : ℕ) (kept kept' : Option Entry) (a b : Active) (V W : List Visit) → KeptOrMade place kept a V b W kept' → AreHere place V → AreHere place W
here_or place kept kept' a b V W (inl t) h = subst (AreHere place) (sym t.1) h
here_or place kept kept' a b V W (inr t) h = here_kept place kept a b V W t.0 h

here_last : (o : Option Call) (place who : ℕ) (V W : List Visit) → LastMade place who 0 o V W → AreHere place V → AreHere place W
here_last None place who V W m h = subst (AreHere place) (sym m) h
here_last (Some c) place who V W m h = here_made place _ m.0 V W m.1 h

here_by : (r : Leaving) (place who : ℕ) (kept kept' : Option Entry) (a b : Active) (V W : List Visit) → Leaves place who 0 kept a V r kept' b W
    → AreHere place V → AreHere place W
here_by leaving.Done place who kept kept' a b V W t h = here_last (last_of t.0.granted) place who t.0.between W t.0.last_made
    (here_kept place kept a t.0.granted V t.0.between t.0.kept_made h)
here_by leaving.Worn place who kept kept' a b V W t h = here_or place kept kept' a t.0 V W t.1 h
here_by leaving.Busy place who kept kept' a b V W t h = here_or place kept kept' a b V W t h
here_by leaving.OutOfMemory place who kept kept' a b V W t h = here_or place kept kept' a b V W t h

here_from : (o : Option ℕ) (r : Leaving) (place who : ℕ) (kept kept' : Option Entry) (a b : Active) (V W : List Visit)
    → ((p : ℕ) → o ≡ Some p → p ≡ place) → LeavesFrom o who 0 kept a V r kept' b W → AreHere place V → AreHere place W
here_from None r place who kept kept' a b V W at t h = subst (AreHere place) (sym t.1) h
here_from (Some p) r place who kept kept' a b V W at t h =
    here_by r place who kept kept' a b V W (subst (λ (q : ℕ). Leaves q who 0 kept a V r kept' b W) (at p refl) t) h

-- ---- where no call waited

quiet : (place : ℕ) (kept kept' : Option Entry) (a b : Active) (V W : List Visit) → kept ≡ None → KeptOrMade place kept a V b W kept'
    → (kept' ≡ None) × ((b ≡ a) × (W ≡ V))
quiet place kept kept' a b V W n (inl t) = (t.2 ∙ n, (t.0, t.1))
quiet place kept kept' a b V W n (inr t) =
    let m : KeptMade place None a V b W = subst (λ (o : Option Entry). KeptMade place o a V b W) n t.0 in
    (t.1, (m.0, m.1))

one_more : (place : ℕ) (e : Entry) (r : Reply) (V W : List Visit) → IsMade place e r V W → calls_of W ≡ calls_of V ++ (e, r) ∷ []
one_more place e r V W m = ap calls_of m ∙ reverse-append ((e, r) ∷ []) (map (λ (v : Visit). v.1) V)

none_more : (V W : List Visit) (left : List Own) → W ≡ V → calls_of W ≡ calls_of V ++ left → left ≡ []
none_more V W left e f = append_cancel_left (calls_of V) left [] (sym f ∙ ap calls_of e ∙ sym (append-nil (calls_of V)))

last_parts : (o : Option Call) (place who : ℕ) (V W : List Visit) (left : List Own) → LastMade place who 0 o V W → calls_of W ≡ calls_of V ++ left
    → PartsBy who o left
last_parts None place who V W left m f = none_more V W left m f
last_parts (Some c) place who V W left m f = (m.0, append_cancel_left (calls_of V) left _ (sym f ∙ one_more place _ m.0 V W m.1))

done_parts : (place who : ℕ) (kept : Option Entry) (a : Active) (V W : List Visit) (left : List Own) → kept ≡ None → AllMade place who 0 kept a V W
    → calls_of W ≡ calls_of V ++ left → Parts who a left
done_parts place who kept a V W left n t f =
    let m : KeptMade place None a V t.granted t.between = subst (λ (o : Option Entry). KeptMade place o a V t.granted t.between) n t.kept_made in
    last_parts (last_of a) place who V W left
    (subst (λ (b : Active). LastMade place who 0 (last_of b) V W) m.0
    (subst (λ (X : List Visit). LastMade place who 0 (last_of t.granted) X W) m.1 t.last_made)) f

done_from : (o : Option ℕ) (who : ℕ) (kept kept' : Option Entry) (a b : Active) (V W : List Visit) (left : List Own) → kept ≡ None
    → (o ≡ None → a ≡ active.Nothing) → LeavesFrom o who 0 kept a V leaving.Done kept' b W → calls_of W ≡ calls_of V ++ left → Parts who a left
done_from None who kept kept' a b V W left n nothing t f = subst (λ (x : Active). Parts who x left) (sym (nothing refl)) (none_more V W left t.1 f)
done_from (Some p) who kept kept' a b V W left n nothing t f = done_parts p who kept a V W left n t.0 f

-- ---- between two closings

abbrev pub is_worn : Leaving → Bool
is_worn leaving.Done = false
is_worn leaving.Worn = true
is_worn leaving.Busy = false
is_worn leaving.OutOfMemory = false

-- it is leaving, since it was so
pub record IsLeaving {Q : Type 0} (c : Core) (a : Active) (visits : List Visit) (s : EdgeState Q) : Type 0 where
  pub parts : s.parts ≡ record c { kept = s.parts.kept }
  pub there : (p : ℕ) → place_of s.seat.spot ≡ Some p → p ≡ c.place
  pub nothing : place_of s.seat.spot ≡ None → s.seat.active ≡ active.Nothing
  pub here : AreHere c.place s.seat.visits
  pub since : Since c.kept (calls_of visits) s.seat.visits s.parts.kept
  pub same : c.kept ≡ None → (s.parts.kept ≡ None) × ((s.seat.active ≡ a) × (s.seat.visits ≡ visits))

-- it couldn't leave yet
stay_from : (o : Option ℕ) (r : Leaving) (who : ℕ) (kept kept' : Option Entry) (a b : Active) (V W : List Visit) → has_left r ≡ false
    → LeavesFrom o who 0 kept a V r kept' b W → (p : ℕ) × ((o ≡ Some p) × KeptOrMade p kept a V b W kept')
stay_from None r who kept kept' a b V W n t = absurd (false≢true (sym n ∙ ap has_left t.0))
stay_from (Some p) leaving.Done who kept kept' a b V W n t = absurd (false≢true (sym n))
stay_from (Some p) leaving.Worn who kept kept' a b V W n t = absurd (false≢true (sym n))
stay_from (Some p) leaving.Busy who kept kept' a b V W n t = (p, (refl, t))
stay_from (Some p) leaving.OutOfMemory who kept kept' a b V W n t = (p, (refl, t))

stay_spot : (r : Leaving) (o : Option ℕ) → has_left r ≡ false → left_at r o ≡ o
stay_spot leaving.Done o n = absurd (false≢true (sym n))
stay_spot leaving.Worn o n = absurd (false≢true (sym n))
stay_spot leaving.Busy o n = refl
stay_spot leaving.OutOfMemory o n = refl

left_spot : (r : Leaving) (o : Option ℕ) → has_left r ≡ true → left_at r o ≡ None
left_spot leaving.Done o n = refl
left_spot leaving.Worn o n = refl
left_spot leaving.Busy o n = absurd (false≢true n)
left_spot leaving.OutOfMemory o n = absurd (false≢true n)

module _ {Q : Type 0} where
  spot_there : (spot : Option (ℕ × Q)) (place : ℕ) (a : Active) → IsHere place spot a → (p : ℕ) → place_of spot ≡ Some p → p ≡ place
  spot_there None place a h p e = absurd (let n : None ≡ Some p = e in cc)
  spot_there (Some q) place a h p e = let n : q.0 ≡ p = (let m : Some q.0 ≡ Some p = e in cc) in sym n ∙ h

  spot_nothing : (spot : Option (ℕ × Q)) (place : ℕ) (a : Active) → IsHere place spot a → place_of spot ≡ None → a ≡ active.Nothing
  spot_nothing None place a h e = h
  spot_nothing (Some q) place a h e = absurd (let n : Some q.0 ≡ None = e in cc)

  -- one that has just ended
  pub leaving_first : (fits : ℕ → Q → Type 0) (count : ℕ) (s : EdgeState Q) → IsAt fits count s.parts s.seat → IsLeaving s.parts s.seat.active s.seat.visits s
  leaving_first fits count s at = record {
    parts = refl;
    there = spot_there s.seat.spot s.parts.place s.seat.active at.here;
    nothing = spot_nothing s.seat.spot s.parts.place s.seat.active at.here;
    here = at.places;
    since = record { left = []; calls_are = sym (append-nil (calls_of s.seat.visits)); leaving = inl (refl, refl) };
    same = λ n. (n, (refl, refl));
  }

  abbrev Closed : EdgeState Q → Leaving → EdgeState Q → Type 0
  Closed s r t = LeavesFrom (place_of s.seat.spot) s.parts.who 0 s.parts.kept s.seat.active s.seat.visits r t.parts.kept t.seat.active t.seat.visits

  same_who : (c : Core) (a : Active) (visits : List Visit) (s : EdgeState Q) → IsLeaving c a visits s → s.parts.who ≡ c.who
  same_who c a visits s i = ap (λ (x : Core). x.who) i.parts

  closed_here : (c : Core) (a : Active) (visits : List Visit) (s t : EdgeState Q) (r : Leaving) → IsLeaving c a visits s → Closed s r t
      → AreHere c.place t.seat.visits
  closed_here c a visits s t r i l = here_from (place_of s.seat.spot) r c.place s.parts.who s.parts.kept t.parts.kept s.seat.active t.seat.active
      s.seat.visits t.seat.visits i.there l i.here

  closed_left : (c : Core) (a : Active) (visits : List Visit) (s t : EdgeState Q) (r : Leaving) → IsLeaving c a visits s → Closed s r t
      → LeftAs (has_left r) c.kept (calls_of visits) t.seat.visits t.parts.kept
  closed_left c a visits s t r i l = left_from (place_of s.seat.spot) r c.kept s.parts.kept (calls_of visits) s.parts.who 0 s.seat.active s.seat.visits
      t.parts.kept t.seat.active t.seat.visits l i.since

  pub leaving_on : (c : Core) (a : Active) (visits : List Visit) (s t : EdgeState Q) (r : Leaving) → has_left r ≡ false → IsLeaving c a visits s
      → Closed s r t → place_of t.seat.spot ≡ left_at r (place_of s.seat.spot)
      → t.parts ≡ record s.parts { kept = t.parts.kept } → IsLeaving c a visits t
  leaving_on c a visits s t r n i l at parts =
      let q = stay_from (place_of s.seat.spot) r s.parts.who s.parts.kept t.parts.kept s.seat.active t.seat.active s.seat.visits t.seat.visits n l in
      let spot : place_of t.seat.spot ≡ place_of s.seat.spot = at ∙ stay_spot r (place_of s.seat.spot) n in
      record {
        parts = parts ∙ ap (λ (x : Core). record x { kept = t.parts.kept }) i.parts;
        there = λ p e. i.there p (sym spot ∙ e);
        nothing = λ e. absurd (let m : Some q.0 ≡ None = sym q.1.0 ∙ (sym spot ∙ e) in cc);
        here = closed_here c a visits s t r i l;
        since = subst (λ (x : Bool). LeftAs x c.kept (calls_of visits) t.seat.visits t.parts.kept) n (closed_left c a visits s t r i l);
        same = λ none.
            let before = i.same none in
            let now = quiet q.0 s.parts.kept t.parts.kept s.seat.active t.seat.active s.seat.visits t.seat.visits before.0 q.1.1 in
            (now.0, (now.1.0 ∙ before.1.0, now.1.1 ∙ before.1.1));
      }

  -- it has left
  pub left_now : (c : Core) (a : Active) (visits : List Visit) (s t : EdgeState Q) (r : Leaving) → has_left r ≡ true → IsLeaving c a visits s
      → Closed s r t → HasLeft c.who c.kept a visits (is_worn r) t.seat.visits
  left_now c a visits s t r n i l =
      let w = subst (λ (x : Bool). LeftAs x c.kept (calls_of visits) t.seat.visits t.parts.kept) n (closed_left c a visits s t r i l) in
      record { left = w.left; calls_are = w.calls_are; left_by = w.left_by; parts = λ unworn none. parts_of r n unworn none w.left w.calls_are l }
    where
      parts_of : (r : Leaving) → has_left r ≡ true → is_worn r ≡ false → c.kept ≡ None → (left : List Own)
          → calls_of t.seat.visits ≡ calls_of visits ++ left → Closed s r t → Parts c.who a left
      parts_of leaving.Done n u none left f l =
          let before = i.same none in
          subst (λ (x : Active). Parts c.who x left) before.1.0
          (subst (λ (m : ℕ). Parts m s.seat.active left) (same_who c a visits s i)
          (done_from (place_of s.seat.spot) s.parts.who s.parts.kept t.parts.kept s.seat.active t.seat.active s.seat.visits t.seat.visits left before.0
          i.nothing l
          (f ∙ ap (λ (V : List Visit). calls_of V ++ left) (sym before.1.1))))
      parts_of leaving.Worn n u none left f l = absurd (false≢true (sym u))
      parts_of leaving.Busy n u none left f l = absurd (false≢true n)
      parts_of leaving.OutOfMemory n u none left f l = absurd (false≢true n)

  pub away_now : (s t : EdgeState Q) (r : Leaving) → has_left r ≡ true → place_of t.seat.spot ≡ left_at r (place_of s.seat.spot) → t.seat.spot ≡ None
  away_now s t r n at = nowhere t.seat.spot (at ∙ left_spot r (place_of s.seat.spot) n)

  pub here_now : (c : Core) (a : Active) (visits : List Visit) (s t : EdgeState Q) (r : Leaving) → IsLeaving c a visits s → Closed s r t
      → AreHere c.place t.seat.visits
  here_now c a visits s t r i l = closed_here c a visits s t r i l
