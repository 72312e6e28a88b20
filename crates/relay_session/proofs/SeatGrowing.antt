-- What a seat's calls add to the histories
use Rattle.std.proofs.Common.{inl, inr, ◌≡◌, ◌≢◌, ◌≤◌, ◌⊎◌, ℕ, ◌+◌, List, [], ◌∷◌, ◌++◌, length, refl, ap, ◌∙◌, sym, subst, arith, append-nil, length-append, Option, Some, None}
use Rattle.std.proofs.lemmas.Bool.{cases_eq}
use Rattle.stream_model.specs.declared.calls.Entry.{Entry}
use Rattle.stream_model.specs.declared.calls.Shape.{Shape}
use Rattle.stream_model.specs.declared.replies.Reply.{Reply}
use Rattle.stream_registry.specs.Told.{Step, Histories}
use Rattle.turn_gate.specs.Histories.{Begins}
use Rattle.relay_session.specs.Alone.{AddsNone, GrowsAs, GrowsBy, GrowsFrom, Reaches, ReachesBy, made_step, visited}
use Rattle.relay_session.specs.SeatState.{IsNoted, Makes, Noted}
use Rattle.relay_session.specs.SeatVisits.{Visit}
use Rattle.relay_session.specs.declared.seat_answers.Made.{Made}
use Rattle.relay_session.specs.declared.seat_answers.Made.TheVariants as made
use Rattle.relay_session.proofs.SeatStanding.{begins_same, begins_trans}

-- ---- how far calls reach

begins_length : (xs ys : List Step) → Begins xs ys → length xs ≤ length ys
begins_length xs ys b = omega (arith, ap length b.1, length-append xs b.0)

reaches_one : (limits : Shape) (root known mid known' : List Step) (step : Step) → Noted limits root known step mid → Begins mid known' → Reaches limits root known 1 known'
reaches_one limits root known mid known' step n i = record {
  upto = n.before ++ step ∷ [];
  within = begins_trans (n.before ++ step ∷ []) mid known' n.within i;
  long = λ k e. from k e;
  lawful = n.lawful;
}
  where
    from : (k : ℕ) → (k ≤ length root) ⊎ (k ≤ length known) → k + 1 ≤ length (n.before ++ step ∷ [])
    from k (inl a) = omega (arith, a, begins_length root n.before n.root_first, length-append n.before (step ∷ []))
    from k (inr a) = omega (arith, a, begins_length known n.before n.known_first, length-append n.before (step ∷ []))

reaches_more : (limits : Shape) (root later known mid known' : List Step) (step : Step) (steps : List Step) → Noted limits root known step mid → Begins mid known' → ReachesBy limits later mid steps known'
    → ReachesBy limits root known (step ∷ steps) known'
reaches_more limits root later known mid known' step [] n i w = reaches_one limits root known mid known' step n i
reaches_more limits root later known mid known' step (s ∷ steps) n i w =
    let one = reaches_one limits root known mid mid step n (begins_same mid mid refl) in
    record {
      upto = w.upto;
      within = w.within;
      long = λ k e. omega (arith, one.long k e, w.long (length one.upto) (inr (begins_length one.upto mid one.within)));
      lawful = w.lawful;
    }

module _ (adds : List Step → List Step → List Step → Type 0) (none : (h : List Step) → adds h [] h) (both : (h i j xs ys : List Step) → adds h xs i → adds i ys j → adds h (xs ++ ys) j) where
  same : (h i : List Step) → i ≡ h → adds h [] i
  same h i e = subst (λ (x : List Step). adds h [] x) (sym e) (none h)

  -- ---- no call

  pub none_same : (f g : Histories) → ((q : ℕ) → g q ≡ f q) → AddsNone adds f g
  none_same f g e q = same (f q) (g q) (e q)

  pub none_here : (f g : Histories) (place : ℕ) → adds (f place) [] (g place) → ((q : ℕ) → q ≢ place → g q ≡ f q) → AddsNone adds f g
  none_here f g place a o q = elim (cases_eq q place) [
    | inl e ↦ subst (λ (p : ℕ). adds (f p) [] (g p)) (sym e) a
    | inr d ↦ same (f q) (g q) (o q d)
  ]

  pub none_then : (f g h : Histories) → AddsNone adds f g → AddsNone adds g h → AddsNone adds f h
  none_then f g h a b q = both (f q) (g q) (h q) [] [] (a q) (b q)

  -- ---- one call

  pub grows_called : (f g : Histories) (place : ℕ) (steps : List Step) → adds (f place) steps (g place) → ((q : ℕ) → q ≢ place → g q ≡ f q) → GrowsBy adds f place steps g
  grows_called f g place steps a o = record { here = a; elsewhere = λ q d. same (f q) (g q) (o q d) }

  pub grows_after : (f g h : Histories) (place : ℕ) (steps : List Step) → AddsNone adds f g → GrowsBy adds g place steps h → GrowsBy adds f place steps h
  grows_after f g h place steps a k = record { here = both (f place) (g place) (h place) [] steps (a place) k.here; elsewhere = λ q d. both (f q) (g q) (h q) [] [] (a q) (k.elsewhere q d) }

  pub grows_then : (f g h : Histories) (place : ℕ) (steps : List Step) → GrowsBy adds f place steps g → AddsNone adds g h → GrowsBy adds f place steps h
  grows_then f g h place steps k a = record {
    here = subst (λ (x : List Step). adds (f place) x (h place)) (append-nil steps) (both (f place) (g place) (h place) steps [] k.here (a place));
    elsewhere = λ q d. both (f q) (g q) (h q) [] [] (k.elsewhere q d) (a q);
  }

  -- ---- its last calls

  pub as_none : (limits : Shape) (f g : Histories) (known known' : List Step) (place : ℕ) (visits visits' : List Visit) → visits' ≡ visits → AddsNone adds f g → GrowsAs adds limits f known place visits visits' g known'
  as_none limits f g known known' place visits visits' e a = record { steps = []; visits_are = e; grows = record { here = a place; elsewhere = λ q d. a q }; reaches = tt }

  pub as_made : (limits : Shape) (f g h : Histories) (known mid known' : List Step) (place : ℕ) (entry : Entry) (m : Made) (visits visits' : List Visit) → Makes place entry m visits visits' → IsNoted limits (f place) known entry m mid
      → Begins mid known' → GrowsBy adds f place (made_step entry m) g → AddsNone adds g h → GrowsAs adds limits f known place visits visits' h known'
  as_made limits f g h known mid known' place entry (made.Answer r) visits visits' k n i b a = record {
    steps = (entry, r) ∷ [];
    visits_are = k;
    grows = grows_then f g h place ((entry, r) ∷ []) b a;
    reaches = reaches_one limits (f place) known mid known' (entry, r) n i;
  }
  as_made limits f g h known mid known' place entry (made.Busy e) visits visits' k n i b a = record { steps = []; visits_are = k.1; grows = grows_then f g h place [] b a; reaches = tt }
  as_made limits f g h known mid known' place entry (made.Worn e) visits visits' k n i b a = record { steps = []; visits_are = k.1; grows = grows_then f g h place [] b a; reaches = tt }
  as_made limits f g h known mid known' place entry (made.OutOfMemory e) visits visits' k n i b a = record { steps = []; visits_are = k.1; grows = grows_then f g h place [] b a; reaches = tt }

  -- one call, and then those that follow
  pub as_more : (limits : Shape) (f g h : Histories) (known mid known' : List Step) (place : ℕ) (entry : Entry) (r : Reply) (visits between visits' : List Visit) → between ≡ (place, (entry, r)) ∷ visits
      → Noted limits (f place) known (entry, r) mid → Begins mid known' → GrowsBy adds f place ((entry, r) ∷ []) g → GrowsAs adds limits g mid place between visits' h known' → GrowsAs adds limits f known place visits visits' h known'
  as_more limits f g h known mid known' place entry r visits between visits' e n i k w = record {
    steps = (entry, r) ∷ w.steps;
    visits_are = w.visits_are ∙ ap (λ (v : List Visit). visited place w.steps v) e;
    grows = record {
      here = both (f place) (g place) (h place) ((entry, r) ∷ []) w.steps k.here w.grows.here;
      elsewhere = λ q d. both (f q) (g q) (h q) [] [] (k.elsewhere q d) (w.grows.elsewhere q d);
    };
    reaches = reaches_more limits (f place) (g place) known mid known' (entry, r) w.steps n i w.reaches;
  }

  pub from_place : (limits : ℕ → Shape) (f g known known' : Histories) (o : Option ℕ) (place : ℕ) (visits visits' : List Visit) → o ≡ Some place → GrowsAs adds (limits place) f (known place) place visits visits' g (known' place)
      → GrowsFrom adds limits f known o visits visits' g known'
  from_place limits f g known known' o place visits visits' e w = subst (λ (x : Option ℕ). GrowsFrom adds limits f known x visits visits' g known') (sym e) w

  pub from_nowhere : (limits : ℕ → Shape) (f g known known' : Histories) (o : Option ℕ) (visits visits' : List Visit) → o ≡ None → visits' ≡ visits → AddsNone adds f g → GrowsFrom adds limits f known o visits visits' g known'
  from_nowhere limits f g known known' o visits visits' e v a = subst (λ (x : Option ℕ). GrowsFrom adds limits f known x visits visits' g known') (sym e) (v, a)
