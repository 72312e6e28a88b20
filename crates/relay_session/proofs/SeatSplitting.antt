-- Which passes a seat's calls split off
use Rattle.std.proofs.Common.{◌≡◌, ℕ, ◌+◌, if◌then◌else◌, Bool, true, false, List, [], ◌∷◌, length, refl, ap, sym, subst, arith, Option, Some, None}
use Rattle.std.specs.declared.result.Result.{Result}
use Rattle.stream_model.specs.declared.calls.Entry.{Entry}
use Rattle.stream_model.specs.declared.replies.Reply.{Reply}
use Rattle.turn_gate.specs.declared.view.Branch.{Branch}
use Rattle.stream_registry.specs.declared.port.PortFail.{PortFail}
use Rattle.stream_registry.specs.Splits.{CallSplits, Kin, TakesIn}
use Rattle.relay_session.specs.Alone.{GivesBack, LeaveSplits, LeavesSplit, Rests, SplitAll, Splits, branches_at, count_made}
use Rattle.relay_session.specs.SeatState.{Makes, is_over, place_of, stays}
use Rattle.relay_session.specs.SeatVisits.{Visit}
use Rattle.relay_session.specs.declared.seat_answers.Made.{Made}
use Rattle.relay_session.specs.declared.seat_answers.Made.TheVariants as made

-- ---- how many calls were answered

counted_more : (r : Made) (rs : List Made) → count_made (r ∷ rs) ≡ count_made (r ∷ []) + count_made rs
counted_more (made.Answer x) rs = omega arith
counted_more (made.Busy e) rs = omega arith
counted_more (made.Worn e) rs = omega arith
counted_more (made.OutOfMemory e) rs = omega arith

pub made_counted : (place : ℕ) (entry : Entry) (r : Made) (visits visits' : List Visit) → Makes place entry r visits visits' → length visits' ≡ count_made (r ∷ []) + length visits
made_counted place entry (made.Answer x) visits visits' k = omega (arith, ap length k)
made_counted place entry (made.Busy e) visits visits' k = omega (arith, ap length k.1)
made_counted place entry (made.Worn e) visits visits' k = omega (arith, ap length k.1)
made_counted place entry (made.OutOfMemory e) visits visits' k = omega (arith, ap length k.1)

module _ {Q : Type 0} (branches : Q → List Branch) where
  -- a call by the pass that is there
  pub ask_splits : (kin kin' : Kin) (spot : Option (ℕ × Q)) (here place : ℕ) (pass : Q) (r : Result Reply PortFail) (pass' : List Branch) → spot ≡ Some (here, pass) → CallSplits kin (branches pass) r kin' pass' place
      → CallSplits kin (branches_at branches spot) r kin' pass' place
  ask_splits kin kin' spot here place pass r pass' is k = subst (λ (o : Option (ℕ × Q)). CallSplits kin (branches_at branches o) r kin' pass' place) (sym is) k

  -- the pass is given back where it is
  pub gives_here : (kin kin' : Kin) (spot : Option (ℕ × Q)) (place : ℕ) → place_of spot ≡ Some place → GivesBack branches kin spot kin' → TakesIn kin (branches_at branches spot) kin' place
  gives_here kin kin' None place at g = absurd (cc)
  gives_here kin kin' (Some p) place at g = let e : p.0 ≡ place = cc in subst (λ (x : ℕ). TakesIn kin (branches p.1) kin' x) e g

  -- there is nothing more to do
  pub rests_over : (over : Bool) (kin kin' : Kin) (spot spot' : Option (ℕ × Q)) (place : ℕ) → over ≡ true → place_of spot ≡ Some place → GivesBack branches kin spot kin' → spot' ≡ None
      → Rests (if over then None else Some place) place kin (branches_at branches spot) kin' (branches_at branches spot')
  rests_over true kin kin' spot spot' place o at g none = (gives_here kin kin' spot place at g, ap (branches_at branches) none)
  rests_over false kin kin' spot spot' place o at g none = absurd (cc)

  pub rests_on : (over : Bool) (kin : Kin) (spot : Option (ℕ × Q)) (place : ℕ) → over ≡ false → Rests (if over then None else Some place) place kin (branches_at branches spot) kin (branches_at branches spot)
  rests_on true kin spot place o = absurd (cc)
  rests_on false kin spot place o = (refl, refl)

  given_by : (over : Bool) (between : Kin) (grown : List Branch) (kin kin' : Kin) (spot : Option (ℕ × Q)) (place : ℕ) → place_of spot ≡ (if over then None else Some place)
      → Rests (if over then None else Some place) place between grown kin (branches_at branches spot) → GivesBack branches kin spot kin' → TakesIn between grown kin' place
  given_by true between grown kin kin' None place at r g = subst (λ (k : Kin). TakesIn between grown k place) (sym g) r.0
  given_by true between grown kin kin' (Some p) place at r g = absurd (cc)
  given_by false between grown kin kin' None place at r g = absurd (cc)
  given_by false between grown kin kin' (Some p) place at r g =
      let e : p.0 ≡ place = cc in
      let t : TakesIn kin (branches p.1) kin' place = subst (λ (x : ℕ). TakesIn kin (branches p.1) kin' x) e g in
      subst (λ (k : Kin). TakesIn k grown kin' place) r.0 (subst (λ (b : List Branch). TakesIn kin b kin' place) r.1 t)

  given_back : (r : Made) (between : Kin) (grown : List Branch) (kin kin' : Kin) (spot : Option (ℕ × Q)) (place : ℕ) → place_of spot ≡ stays place r
      → Rests (stays place r) place between grown kin (branches_at branches spot) → GivesBack branches kin spot kin' → TakesIn between grown kin' place
  given_back (made.Answer x) between grown kin kin' spot place at r g = given_by (is_over x) between grown kin kin' spot place at r g
  given_back (made.Busy e) between grown kin kin' spot place at r g = given_by false between grown kin kin' spot place at r g
  given_back (made.Worn e) between grown kin kin' spot place at r g = given_by false between grown kin kin' spot place at r g
  given_back (made.OutOfMemory e) between grown kin kin' spot place at r g = given_by false between grown kin kin' spot place at r g

  -- ---- where it leaves

  left_with : (between : Kin) (grown : List Branch) (kin' : Kin) (spot' : Option (ℕ × Q)) (place : ℕ) → spot' ≡ None → TakesIn between grown kin' place → Rests (place_of spot') place between grown kin' (branches_at branches spot')
  left_with between grown kin' spot' place none t = subst (λ (o : Option (ℕ × Q)). Rests (place_of o) place between grown kin' (branches_at branches o)) (sym none) (t, refl)

  -- no call is made
  pub none_gives : (kin kin' : Kin) (spot spot' : Option (ℕ × Q)) (place : ℕ) (visits visits' : List Visit) → place_of spot ≡ Some place → GivesBack branches kin spot kin' → spot' ≡ None → visits' ≡ visits
      → LeaveSplits branches kin spot place visits visits' kin' spot'
  none_gives kin kin' spot spot' place visits visits' at g none e = record {
    answers = [];
    between = kin;
    grown = branches_at branches spot;
    calls = (refl, refl);
    rests = left_with kin (branches_at branches spot) kin' spot' place none (gives_here kin kin' spot place at g);
    counted = omega (arith, ap length e);
  }

  -- one is, and it stays or has left by that
  pub one_rests : (kin kin' : Kin) (spot spot' : Option (ℕ × Q)) (place : ℕ) (entry : Entry) (r : Made) (visits visits' : List Visit) → Splits kin place (branches_at branches spot) r kin' (branches_at branches spot') → place_of spot' ≡ stays place r
      → Makes place entry r visits visits' → LeaveSplits branches kin spot place visits visits' kin' spot'
  one_rests kin kin' spot spot' place entry r visits visits' s at k = record {
    answers = r ∷ [];
    between = s.between;
    grown = s.grown;
    calls = (s.between, (s.grown, (s.call, (refl, refl))));
    rests = subst (λ (o : Option ℕ). Rests o place s.between s.grown kin' (branches_at branches spot')) (sym at) s.rests;
    counted = made_counted place entry r visits visits' k;
  }

  -- one is, and then the pass is given back
  pub one_gives : (kin mid kin' : Kin) (spot on spot' : Option (ℕ × Q)) (place : ℕ) (entry : Entry) (r : Made) (visits visits' : List Visit) → Splits kin place (branches_at branches spot) r mid (branches_at branches on) → place_of on ≡ stays place r
      → GivesBack branches mid on kin' → spot' ≡ None → Makes place entry r visits visits' → LeaveSplits branches kin spot place visits visits' kin' spot'
  one_gives kin mid kin' spot on spot' place entry r visits visits' s at g none k = record {
    answers = r ∷ [];
    between = s.between;
    grown = s.grown;
    calls = (s.between, (s.grown, (s.call, (refl, refl))));
    rests = left_with s.between s.grown kin' spot' place none (given_back r s.between s.grown mid kin' on place at s.rests g);
    counted = made_counted place entry r visits visits' k;
  }

  -- one is, and then those that follow
  pub one_more : (kin mid kin' : Kin) (spot on spot' : Option (ℕ × Q)) (place here : ℕ) (entry : Entry) (r : Made) (visits between visits' : List Visit) → Splits kin place (branches_at branches spot) r mid (branches_at branches on)
      → place_of on ≡ stays place r → place_of on ≡ Some here → Makes place entry r visits between → LeaveSplits branches mid on place between visits' kin' spot' → LeaveSplits branches kin spot place visits visits' kin' spot'
  one_more kin mid kin' spot on spot' place here entry r visits between visits' s at is k w =
      let e : stays place r ≡ Some here = subst (λ (o : Option ℕ). o ≡ Some here) at is in
      let q : Rests (Some here) place s.between s.grown mid (branches_at branches on) = subst (λ (o : Option ℕ). Rests o place s.between s.grown mid (branches_at branches on)) e s.rests in
      record {
        answers = r ∷ w.answers;
        between = w.between;
        grown = w.grown;
        calls = (s.between, (s.grown, (s.call, subst (λ (x : Kin). SplitAll w.answers place x s.grown w.between w.grown) q.0 (subst (λ (b : List Branch). SplitAll w.answers place mid b w.between w.grown) q.1 w.calls))));
        rests = w.rests;
        counted = omega (arith, w.counted, made_counted place entry r visits between k, counted_more r w.answers);
      }

  pub at_place : (o : Option ℕ) (place : ℕ) (kin kin' : Kin) (spot spot' : Option (ℕ × Q)) (visits visits' : List Visit) → o ≡ Some place → LeaveSplits branches kin spot place visits visits' kin' spot'
      → LeavesSplit o branches kin spot visits visits' kin' spot'
  at_place o place kin kin' spot spot' visits visits' e w = subst (λ (x : Option ℕ). LeavesSplit x branches kin spot visits visits' kin' spot') (sym e) w
