-- No pass is lost in the calls of a session or a recorder
use Rattle.std.proofs.Common.{◌≡◌, ◌≢◌, ◌⊎◌, inl, inr, ℕ, ◌+◌, if◌then◌else◌, Bool, true, false, nat_eq, List, [], ◌∷◌, ◌++◌, refl, sym, ap, ◌∙◌, subst, arith, append-nil, Option, Some, None}
use Rattle.std.proofs.lemmas.Bool.{cases_eq}
use Rattle.std.proofs.lemmas.Bool.Decides.{nat_tests}
use Rattle.std.specs.declared.result.Result.{Result}
use Rattle.stream_model.specs.declared.replies.Reply.{Reply}
use Rattle.turn_gate.specs.declared.view.Branch.{Branch}
use Rattle.turn_gate.specs.Branches.{Kindred}
use Rattle.turn_gate.proofs.Kindreds.{kindred_same, kindred_then}
use Rattle.stream_registry.specs.declared.port.PortFail.{PortFail}
use Rattle.stream_registry.specs.Splits.{CallSplits, Kin}
use Rattle.stream_registry.proofs.Kinning.{attached_kindred, called_kindred}
use Rattle.media_recorder.specs.Alone.{branches_of}
use Rattle.relay_session.specs.Alone.{Comes, GivesBack, LeavesSplit, Rests, SplitAll, SplitsSo, answer_of, branches_at}
use Rattle.passes_law.specs.Passes.{KeepsPasses, branches_by, only_at, spot_of}
use Rattle.relay_session.specs.SeatState.{is_over, left_at, place_of, stays}
use Rattle.relay_session.specs.SeatVisits.{Visit}
use Rattle.relay_session.specs.declared.seat_answers.Leaving.{Leaving}
use Rattle.relay_session.specs.declared.seat_answers.Leaving.TheVariants as leaving
use Rattle.relay_session.specs.declared.seat_answers.Made.{Made}
use Rattle.relay_session.specs.declared.seat_answers.Made.TheVariants as made

-- ---- branches at one place

only_here : (place : ℕ) (pass : List Branch) → only_at place pass place ≡ pass
only_here place pass = let t : nat_eq place place ≡ true = grind (arith, nat_tests) in rw t refl

only_else : (place : ℕ) (pass : List Branch) (q : ℕ) → q ≢ place → only_at place pass q ≡ []
only_else place pass q d = let t : nat_eq place q ≡ false = grind (arith, nat_tests) in rw t refl

none_by : (b : Bool) (l : List Branch) → l ≡ [] → (if b then l else []) ≡ []
none_by true l e = e
none_by false l e = refl

only_none : (place q : ℕ) → only_at place [] q ≡ []
only_none place q = none_by (nat_eq place q) [] refl

-- the branches of one place have changed
one_place : (place : ℕ) (kin kin' : Kin) (a b : List Branch) → Kindred (kin place ++ a) (kin' place ++ b) → ((q : ℕ) → q ≢ place → kin' q ≡ kin q)
    → (q : ℕ) → Kindred (kin q ++ only_at place a q) (kin' q ++ only_at place b q)
one_place place kin kin' a b k same q = elim (cases_eq q place) [
  | inl e ↦ subst (λ (n : ℕ). Kindred (kin n ++ only_at place a n) (kin' n ++ only_at place b n)) (sym e)
      (subst (λ (l : List Branch). Kindred (kin place ++ l) (kin' place ++ only_at place b place)) (sym (only_here place a))
      (subst (λ (l : List Branch). Kindred (kin place ++ a) (kin' place ++ l)) (sym (only_here place b)) k))
  | inr d ↦ kindred_same (kin q ++ only_at place a q) (kin' q ++ only_at place b q)
      (ap (λ (l : List Branch). l ++ only_at place b q) (same q d) ∙ ap (λ (l : List Branch). kin q ++ l) (only_else place b q d ∙ sym (only_else place a q d)))
]

-- one call by a pass
called_at : (kin kin' : Kin) (pass pass' : List Branch) (place : ℕ) (r : Result Reply PortFail) → CallSplits kin pass r kin' pass' place → (q : ℕ)
    → Kindred (kin q ++ only_at place pass q) (kin' q ++ only_at place pass' q)
called_at kin kin' pass pass' place r c q = one_place place kin kin' pass pass' (called_kindred (kin place) pass (kin' place) pass' r c.here) c.others q

called_all : (rs : List Made) (kin kin' : Kin) (pass pass' : List Branch) (place : ℕ) → SplitAll rs place kin pass kin' pass' → (q : ℕ)
    → Kindred (kin q ++ only_at place pass q) (kin' q ++ only_at place pass' q)
called_all [] kin kin' pass pass' place s q =
    kindred_same (kin q ++ only_at place pass q) (kin' q ++ only_at place pass' q)
    (ap (λ (k : Kin). k q ++ only_at place pass' q) s.0 ∙ ap (λ (l : List Branch). kin q ++ only_at place l q) s.1)
called_all (r ∷ rs) kin kin' pass pass' place s q =
    kindred_then (kin q ++ only_at place pass q) (s.0 q ++ only_at place s.1.0 q) (kin' q ++ only_at place pass' q)
    (called_at kin s.0 pass s.1.0 place (answer_of r) s.1.1.0 q) (called_all rs s.0 kin' s.1.0 pass' place s.1.1.1 q)

-- ---- where it is then

stays_or : (b : Bool) (place : ℕ) → ((if b then None else Some place) ≡ None) ⊎ ((if b then None else Some place) ≡ Some place)
stays_or true place = inl refl
stays_or false place = inr refl

stays_there : (place : ℕ) (r : Made) → (stays place r ≡ None) ⊎ (stays place r ≡ Some place)
stays_there place (made.Answer r) = stays_or (is_over r) place
stays_there place (made.Busy e) = inr refl
stays_there place (made.Worn e) = inr refl
stays_there place (made.OutOfMemory e) = inr refl

left_there : (place : ℕ) (r : Leaving) → (left_at r (Some place) ≡ None) ⊎ (left_at r (Some place) ≡ Some place)
left_there place leaving.Done = inl refl
left_there place leaving.Worn = inl refl
left_there place leaving.Busy = inr refl
left_there place leaving.OutOfMemory = inr refl

left_nowhere : (r : Leaving) → left_at r None ≡ None
left_nowhere leaving.Done = refl
left_nowhere leaving.Worn = refl
left_nowhere leaving.Busy = refl
left_nowhere leaving.OutOfMemory = refl

module _ {Q : Type 0} (branches : Q → List Branch) where
  by_place : (spot : Option (ℕ × Q)) (place : ℕ) → place_of spot ≡ Some place → (q : ℕ)
      → branches_by branches spot q ≡ only_at place (branches_at branches spot) q
  by_place None place at q = absurd (cc)
  by_place (Some p) place at q = let e : p.0 ≡ place = cc in ap (λ (n : ℕ). only_at n (branches p.1) q) e

  -- it gives back its pass
  given : (kin kin' : Kin) (spot : Option (ℕ × Q)) → GivesBack branches kin spot kin' → (q : ℕ) → Kindred (kin q ++ branches_by branches spot q) (kin' q ++ [])
  given kin kin' None g q = kindred_same (kin q ++ []) (kin' q ++ []) (ap (λ (k : Kin). k q ++ []) g)
  given kin kin' (Some p) g q =
      let k : Kindred (kin p.0 ++ branches p.1) (kin' p.0 ++ []) = kindred_same (kin p.0 ++ branches p.1) (kin' p.0 ++ []) (append-nil (kin' p.0) ∙ g.here) in
      subst (λ (l : List Branch). Kindred (kin q ++ only_at p.0 (branches p.1) q) (kin' q ++ l)) (only_none p.0 q)
      (one_place p.0 kin kin' (branches p.1) [] k g.others q)

  -- it has come to a place
  come : (kin kin' : Kin) (spot : Option (ℕ × Q)) (place : ℕ) (pass : List Branch) → Comes branches kin spot place pass kin' → (q : ℕ)
      → Kindred (kin q ++ branches_by branches spot q) (kin' q ++ only_at place pass q)
  come kin kin' spot place pass (inl c) q =
      kindred_same (kin q ++ branches_by branches spot q) (kin' q ++ only_at place pass q)
      (ap (λ (k : Kin). k q ++ only_at place pass q) c.1.1
      ∙ ap (λ (l : List Branch). kin q ++ l) (ap (λ (l : List Branch). only_at place l q) c.1.0 ∙ sym (by_place spot place c.0 q)))
  come kin kin' spot place pass (inr a) q =
      let mid = a.between in
      let here : Kindred (mid place ++ []) (kin' place ++ pass) =
      subst (λ (l : List Branch). Kindred l (kin' place ++ pass)) (sym (append-nil (mid place)))
      (attached_kindred mid kin' place pass a.split a.pass_is) in
      let all : Kindred (mid q ++ []) (kin' q ++ only_at place pass q) =
      subst (λ (l : List Branch). Kindred (mid q ++ l) (kin' q ++ only_at place pass q)) (only_none place q)
      (one_place place mid kin' [] pass here a.split.others q) in
      kindred_then (kin q ++ branches_by branches spot q) (mid q ++ []) (kin' q ++ only_at place pass q) (given kin mid spot a.gives q) all

  -- it stays with its pass, or has given it back
  rested : (o : Option ℕ) (kin kin' : Kin) (place : ℕ) (pass : List Branch) (spot' : Option (ℕ × Q))
      → Rests o place kin pass kin' (branches_at branches spot') → place_of spot' ≡ o → (o ≡ None) ⊎ (o ≡ Some place)
      → (q : ℕ) → Kindred (kin q ++ only_at place pass q) (kin' q ++ branches_by branches spot' q)
  rested None kin kin' place pass None r at where_it q =
      let k : Kindred (kin place ++ pass) (kin' place ++ []) = kindred_same (kin place ++ pass) (kin' place ++ []) (append-nil (kin' place) ∙ r.0.here) in
      subst (λ (l : List Branch). Kindred (kin q ++ only_at place pass q) (kin' q ++ l)) (only_none place q) (one_place place kin kin' pass [] k r.0.others q)
  rested None kin kin' place pass (Some p) r at where_it q = absurd (cc)
  rested (Some n) kin kin' place pass spot' r at (inl e) q = absurd (cc)
  rested (Some n) kin kin' place pass spot' r at (inr e) q =
      kindred_same (kin q ++ only_at place pass q) (kin' q ++ branches_by branches spot' q)
      (ap (λ (k : Kin). k q ++ branches_by branches spot' q) r.0
      ∙ ap (λ (l : List Branch). kin q ++ l) (by_place spot' place (at ∙ e) q ∙ ap (λ (l : List Branch). only_at place l q) r.1))

  module _ {P : Type 0} (kin : P → Kin) where
    -- ONE CALL of a seat
    pub asked_keeps : (port port' : P) (spot spot' : Option (ℕ × Q)) (place : ℕ) (r : Made) → place_of spot' ≡ stays place r
        → SplitsSo branches (kin port) spot place r (kin port') spot' → KeepsPasses kin branches port spot port' spot'
    asked_keeps port port' spot spot' place r at s = record {
      kindred = λ q. kindred_then (kin port q ++ branches_by branches spot q) (s.between q ++ only_at place s.pass q)
          (kin port' q ++ branches_by branches spot' q)
          (come (kin port) s.between spot place s.pass s.comes q)
          (kindred_then (s.between q ++ only_at place s.pass q) (s.call.between q ++ only_at place s.call.grown q) (kin port' q ++ branches_by branches spot' q)
          (called_at s.between s.call.between s.pass s.call.grown place (answer_of r) s.call.call q)
          (rested (stays place r) s.call.between (kin port') place s.call.grown spot' s.call.rests at (stays_there place r) q));
    }

    -- ITS LAST CALLS
    pub left_keeps : (port port' : P) (spot spot' : Option (ℕ × Q)) (visits visits' : List Visit) (r : Leaving)
        → place_of spot' ≡ left_at r (place_of spot) → LeavesSplit (place_of spot) branches (kin port) spot visits visits' (kin port') spot'
        → KeepsPasses kin branches port spot port' spot'
    left_keeps port port' None None visits visits' r at s =
        record { kindred = λ q. kindred_same (kin port q ++ []) (kin port' q ++ []) (ap (λ (k : Kin). k q ++ []) s) }
    left_keeps port port' None (Some p) visits visits' r at s = absurd (let n : Some p.0 ≡ None = at ∙ left_nowhere r in cc)
    left_keeps port port' (Some p) spot' visits visits' r at s = record {
      kindred = λ q. kindred_then (kin port q ++ only_at p.0 (branches p.1) q) (s.between q ++ only_at p.0 s.grown q)
          (kin port' q ++ branches_by branches spot' q)
          (called_all s.answers (kin port) s.between (branches p.1) s.grown p.0 s.calls q)
          (rested (place_of spot') s.between (kin port') p.0 s.grown spot' s.rests refl (by (left_there p.0 r)) q);
    }
      where
        by : (left_at r (Some p.0) ≡ None) ⊎ (left_at r (Some p.0) ≡ Some p.0) → (place_of spot' ≡ None) ⊎ (place_of spot' ≡ Some p.0)
        by (inl e) = inl (at ∙ e)
        by (inr e) = inr (at ∙ e)

    -- nothing was done
    pub none_keeps : (port : P) (spot : Option (ℕ × Q)) → KeepsPasses kin branches port spot port spot
    none_keeps port spot = record { kindred = λ q. kindred_same (kin port q ++ branches_by branches spot q) (kin port q ++ branches_by branches spot q) refl }

    pub then_keeps : (a b c : P) (s t u : Option (ℕ × Q)) → KeepsPasses kin branches a s b t → KeepsPasses kin branches b t c u
        → KeepsPasses kin branches a s c u
    then_keeps a b c s t u x y = record {
      kindred = λ q. kindred_then (kin a q ++ branches_by branches s q) (kin b q ++ branches_by branches t q) (kin c q ++ branches_by branches u q)
          (x.kindred q) (y.kindred q);
    }

    -- the branches of one place have changed, of a root and of a recorder there
    pub placed_keeps : (x y : P) (place : ℕ) (o p : Option Q)
        → Kindred (kin x place ++ branches_of branches o) (kin y place ++ branches_of branches p) → ((q : ℕ) → q ≢ place → kin y q ≡ kin x q)
        → KeepsPasses kin branches x (spot_of place o) y (spot_of place p)
    placed_keeps x y place o p k same = record {
      kindred = λ q. subst (λ (l : List Branch). Kindred (kin x q ++ l) (kin y q ++ branches_by branches (spot_of place p) q)) (sym (spotted place o q))
          (subst (λ (l : List Branch). Kindred (kin x q ++ only_at place (branches_of branches o) q) (kin y q ++ l)) (sym (spotted place p q))
          (one_place place (kin x) (kin y) (branches_of branches o) (branches_of branches p) k same q));
    }
      where
        spotted : (place : ℕ) (o : Option Q) (q : ℕ) → branches_by branches (spot_of place o) q ≡ only_at place (branches_of branches o) q
        spotted place None q = sym (only_none place q)
        spotted place (Some p) q = refl
