-- A SESSION'S OWN CALLS, AND NO OTHER: what its seat adds to the histories, and which passes are split off
use Rattle.std.specs.Prelude.{◌≡◌, ◌≢◌, ◌⊎◌, ℕ, ◌+◌, ◌≤◌, List, [], ◌∷◌, length, Option, Some, None}
use Rattle.std.specs.declared.result.Result.{Result}
use Rattle.std.specs.declared.result.Result.TheVariants.{Ok, Err}
use Rattle.stream_model.specs.declared.calls.Entry.{Entry}
use Rattle.stream_model.specs.declared.calls.Shape.{Shape}
use Rattle.stream_model.specs.declared.replies.Reply.{Reply}
use Rattle.turn_gate.specs.declared.view.Branch.{Branch}
use Rattle.turn_gate.specs.Branches.{offshoot}
use Rattle.turn_gate.specs.Histories.{Begins}
use Rattle.stream_registry.specs.declared.port.PortFail.{PortFail}
use Rattle.stream_registry.specs.declared.port.PortFail.TheVariants as fail
use Rattle.stream_registry.specs.Splits.{Kin, CallSplits, SplitsOff, TakesIn}
use Rattle.stream_registry.specs.Told.{Step, Histories, Keeps}
use Rattle.relay_session.specs.SeatState.{place_of, stays}
use Rattle.relay_session.specs.SeatVisits.{Visit}
use Rattle.relay_session.specs.declared.seat_answers.Made.{Made}
use Rattle.relay_session.specs.declared.seat_answers.Made.TheVariants as made

-- ---- what is added to the histories

-- a call that was made
abbrev pub made_step : Entry → Made → List Step
made_step entry (made.Answer r) = (entry, r) ∷ []
made_step entry (made.Busy e) = []
made_step entry (made.Worn e) = []
made_step entry (made.OutOfMemory e) = []

-- nothing was added
abbrev pub AddsNone : (List Step → List Step → List Step → Type 0) → Histories → Histories → Type 0
AddsNone adds h h' = (q : ℕ) → adds (h q) [] (h' q)

-- THESE CALLS WERE ADDED AT ONE PLACE, and none elsewhere
pub record GrowsBy (adds : List Step → List Step → List Step → Type 0) (h : Histories) (place : ℕ) (steps : List Step) (h' : Histories) : Type 0 where
  pub here : adds (h place) steps (h' place)
  pub elsewhere : (q : ℕ) → q ≢ place → adds (h q) [] (h' q)

-- these calls at a place, the oldest first, after those visits
abbrev pub visited : ℕ → List Step → List Visit → List Visit
visited place [] visits = visits
visited place (step ∷ steps) visits = visited place steps ((place, step) ∷ visits)

-- so many calls, the last of them behind all that the root and the pass had known, ARE KNOWN THEN TO KEEP THE RULES
pub record Reaches (limits : Shape) (root known : List Step) (count : ℕ) (known' : List Step) : Type 0 where
  pub upto : List Step
  pub within : Begins upto known'
  pub long : (k : ℕ) → (k ≤ length root) ⊎ (k ≤ length known) → k + count ≤ length upto
  pub lawful : Keeps limits upto

abbrev pub ReachesBy : Shape → List Step → List Step → List Step → List Step → Type 0
ReachesBy limits root known [] known' = Unit {0}
ReachesBy limits root known (s ∷ steps) known' = Reaches limits root known (length (s ∷ steps)) known'

-- THE CALLS THAT CAME TO ITS VISITS WERE ADDED at a place, answered by the rules, and no other
pub record GrowsAs (adds : List Step → List Step → List Step → Type 0) (limits : Shape) (h : Histories) (known : List Step) (place : ℕ)
    (visits visits' : List Visit) (h' : Histories) (known' : List Step) : Type 0 where
  pub steps : List Step
  pub visits_are : visits' ≡ visited place steps visits
  pub grows : GrowsBy adds h place steps h'
  pub reaches : ReachesBy limits (h place) known steps known'

-- where it was nowhere, none
abbrev pub GrowsFrom : (List Step → List Step → List Step → Type 0) → (ℕ → Shape) → Histories → Histories → Option ℕ → List Visit → List Visit
    → Histories → Histories → Type 0
GrowsFrom adds limits h known None visits visits' h' known' = (visits' ≡ visits) × AddsNone adds h h'
GrowsFrom adds limits h known (Some place) visits visits' h' known' = GrowsAs adds (limits place) h (known place) place visits visits' h' (known' place)

-- ---- which passes are split off

-- the branches of its pass, if it has one
abbrev pub branches_at : {Q : Type 0} → (Q → List Branch) → Option (ℕ × Q) → List Branch
branches_at branches None = []
branches_at branches (Some p) = branches p.1

-- IT GIVES BACK ITS PASS, if it has one
abbrev pub GivesBack : {Q : Type 0} → (Q → List Branch) → Kin → Option (ℕ × Q) → Kin → Type 0
GivesBack branches kin None kin' = kin' ≡ kin
GivesBack branches kin (Some p) kin' = TakesIn kin (branches p.1) kin' p.0

-- it comes to a place where it isn't: it gives back the pass that it has, and one is split off for it
pub record Arrives {Q : Type 0} (branches : Q → List Branch) (kin : Kin) (spot : Option (ℕ × Q)) (place : ℕ) (pass : List Branch) (kin' : Kin) : Type 0 where
  pub between : Kin
  pub gives : GivesBack branches kin spot between
  pub split : SplitsOff between kin' place
  pub pass_is : pass ≡ offshoot (between place)

-- IT HAS A PASS WITH THESE BRANCHES AT A PLACE: the one that it had there, or one that was split off for it
abbrev pub Comes : {Q : Type 0} → (Q → List Branch) → Kin → Option (ℕ × Q) → ℕ → List Branch → Kin → Type 0
Comes branches kin spot place pass kin' =
    ((place_of spot ≡ Some place) × ((pass ≡ branches_at branches spot) × (kin' ≡ kin)))
    ⊎ Arrives branches kin spot place pass kin'

-- what the port answered
abbrev pub answer_of : Made → Result Reply PortFail
answer_of (made.Answer r) = Ok r
answer_of (made.Busy e) = Err (fail.Busy e)
answer_of (made.Worn e) = Err (fail.Worn e)
answer_of (made.OutOfMemory e) = Err (fail.OutOfMemory e)

-- it stays with its pass, or it gives that back
abbrev pub Rests : Option ℕ → ℕ → Kin → List Branch → Kin → List Branch → Type 0
Rests None place kin pass kin' pass' = TakesIn kin pass kin' place × (pass' ≡ [])
Rests (Some p) place kin pass kin' pass' = (kin' ≡ kin) × (pass' ≡ pass)

-- one call at a place, by the pass that it has there
pub record Splits (kin : Kin) (place : ℕ) (pass : List Branch) (r : Made) (kin' : Kin) (pass' : List Branch) : Type 0 where
  pub between : Kin
  pub grown : List Branch
  pub call : CallSplits kin pass (answer_of r) between grown place
  pub rests : Rests (stays place r) place between grown kin' pass'

-- NO PASS IS HIDDEN IN A CALL of a seat: one is split off for the seat, where it comes to the place, and one
-- by the call
pub record SplitsSo {Q : Type 0} (branches : Q → List Branch) (kin : Kin) (spot : Option (ℕ × Q)) (place : ℕ) (r : Made)
    (kin' : Kin) (spot' : Option (ℕ × Q)) : Type 0 where
  pub between : Kin
  pub pass : List Branch
  pub comes : Comes branches kin spot place pass between
  pub call : Splits between place pass r kin' (branches_at branches spot')

-- ---- the same of its last calls

-- calls at a place, one after another, by one pass
abbrev pub SplitAll : List Made → ℕ → Kin → List Branch → Kin → List Branch → Type 0
SplitAll [] place kin pass kin' pass' = (kin' ≡ kin) × (pass' ≡ pass)
SplitAll (r ∷ rs) place kin pass kin' pass' =
    (between : Kin) × ((grown : List Branch) × (CallSplits kin pass (answer_of r) between grown place × SplitAll rs place between grown kin' pass'))

-- how many of these were answered
abbrev pub count_made : List Made → ℕ
count_made [] = 0
count_made (made.Answer r ∷ rs) = 1 + count_made rs
count_made (made.Busy e ∷ rs) = count_made rs
count_made (made.Worn e ∷ rs) = count_made rs
count_made (made.OutOfMemory e ∷ rs) = count_made rs

-- NO PASS IS HIDDEN WHERE IT LEAVES, and no call: as many were answered as came to its visits
pub record LeaveSplits {Q : Type 0} (branches : Q → List Branch) (kin : Kin) (spot : Option (ℕ × Q)) (place : ℕ) (visits visits' : List Visit)
    (kin' : Kin) (spot' : Option (ℕ × Q)) : Type 0 where
  pub answers : List Made
  pub between : Kin
  pub grown : List Branch
  pub calls : SplitAll answers place kin (branches_at branches spot) between grown
  pub rests : Rests (place_of spot') place between grown kin' (branches_at branches spot')
  pub counted : length visits' ≡ count_made answers + length visits

abbrev pub LeavesSplit : {Q : Type 0} → Option ℕ → (Q → List Branch) → Kin → Option (ℕ × Q) → List Visit → List Visit → Kin → Option (ℕ × Q) → Type 0
LeavesSplit None branches kin spot visits visits' kin' spot' = kin' ≡ kin
LeavesSplit (Some place) branches kin spot visits visits' kin' spot' = LeaveSplits branches kin spot place visits visits' kin' spot'
