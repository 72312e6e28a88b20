-- Where a session stands at the streams
use Rattle.std.specs.Prelude.{◌≡◌, ◌≢◌, ◌⊎◌, ℕ, ◌<◌, ◌^◌, if◌then◌else◌, nat_eq, true, false, Bool, List, [], ◌∷◌, ◌++◌, reverse, Option, Some, None}
use Rattle.stream_model.specs.declared.calls.Shape.{Shape}
use Rattle.stream_model.specs.declared.calls.Call.{Call}
use Rattle.stream_model.specs.declared.calls.Call.TheVariants as call
use Rattle.stream_model.specs.declared.calls.Entry.{Entry}
use Rattle.stream_model.specs.declared.replies.Reply.{Reply}
use Rattle.stream_model.specs.declared.replies.Reply.TheVariants as reply
use Rattle.stream_model.specs.Shape.{shape_reply}
use Rattle.turn_gate.specs.Histories.{Begins}
use Rattle.stream_registry.specs.Names.{PortRules}
use Rattle.stream_registry.specs.Told.{Step, Histories, Keeps, Rose, risen}
use Rattle.relay_session.specs.SeatVisits.{Visit, calls_at, AllStand}
use Rattle.relay_session.specs.declared.seat_answers.Active.{Active}
use Rattle.relay_session.specs.declared.seat_answers.Active.TheVariants as active
use Rattle.relay_session.specs.declared.seat_answers.Made.{Made}
use Rattle.relay_session.specs.declared.seat_answers.Made.TheVariants as made
use Rattle.relay_session.specs.declared.seat_answers.Leaving.{Leaving}
use Rattle.relay_session.specs.declared.seat_answers.Leaving.TheVariants as leaving

pub record SeatState (Q : Type 0) : Type 0 where
  -- where it has a pass
  pub spot : Option (ℕ × Q)
  -- what it was granted there
  pub active : Active
  -- its calls at all places, the newest first
  pub visits : List Visit

-- ---- where it is

abbrev pub place_of : {Q : Type 0} → Option (ℕ × Q) → Option ℕ
place_of None = None
place_of (Some p) = Some p.0

-- it has no pass at this place
abbrev pub IsElsewhere : {Q : Type 0} → Option (ℕ × Q) → ℕ → Type 0
IsElsewhere None q = Unit {0}
IsElsewhere (Some p) q = q ≢ p.0

-- the pass that it has, if there is one, fits
abbrev pub HasFit : {Q : Type 0} → (ℕ → Q → Type 0) → Option (ℕ × Q) → Type 0
HasFit fits None = Unit {0}
HasFit fits (Some p) = fits p.0 p.1

-- it can come to this place: it is there, or there is such a place
abbrev pub CanCome : {Q : Type 0} → Option (ℕ × Q) → ℕ → ℕ → Type 0
CanCome None count place = place < count
CanCome (Some p) count place = (p.0 ≡ place) ⊎ (place < count)

-- the calls that its pass has seen are so many
abbrev pub HasCount : {Q : Type 0} → (Q → ℕ) → Option (ℕ × Q) → ℕ → Type 0
HasCount count None n = ⊥
HasCount count (Some p) n = count p.1 ≡ n

-- what is known of the history at each place: what its pass has seen, where it has one there, and else the root
abbrev pub known_if : {Q : Type 0} → (Q → List Step) → Histories → Option (ℕ × Q) → Histories
known_if seen root None q = root q
known_if seen root (Some p) q = if nat_eq p.0 q then seen p.1 else root q

-- the numbers of the calls that were made with its pass at a place
abbrev pub numbers_at : {Q : Type 0} → (Q → List ℕ) → Option (ℕ × Q) → ℕ → List ℕ
numbers_at mine None q = []
numbers_at mine (Some p) q = if nat_eq p.0 q then mine p.1 else []

-- ---- what it was granted

-- after a reply
abbrev pub active_after : Reply → Active → Active
active_after (reply.Began n) a = active.Publishes
active_after (reply.Joined player from) a = active.Plays player
active_after (reply.InUse by) a = active.Nothing
active_after reply.Full a = active.Nothing
active_after (reply.NoSlot slots) a = active.Nothing
active_after (reply.Ended n) a = active.Nothing
active_after (reply.Left player) a = active.Nothing
active_after (reply.Pushed n) a = a
active_after (reply.NotPublisher live) a = a
active_after reply.NotPlayer a = a
active_after (reply.Sent from n item) a = a
active_after (reply.Skip from to) a = a
active_after (reply.NotYet end) a = a
active_after (reply.Counts began pushed ended joined skips) a = a

-- a reply after which it has nothing more to do there
abbrev pub is_over : Reply → Bool
is_over (reply.Began n) = false
is_over (reply.Joined player from) = false
is_over (reply.InUse by) = true
is_over reply.Full = true
is_over (reply.NoSlot slots) = true
is_over (reply.Ended n) = true
is_over (reply.Left player) = true
is_over (reply.Pushed n) = false
is_over (reply.NotPublisher live) = false
is_over reply.NotPlayer = false
is_over (reply.Sent from n item) = false
is_over (reply.Skip from to) = false
is_over (reply.NotYet end) = false
is_over (reply.Counts began pushed ended joined skips) = false

-- what it was granted at a place: nothing, where it isn't there
abbrev pub active_at : {Q : Type 0} → Option (ℕ × Q) → Active → ℕ → Active
active_at None a q = active.Nothing
active_at (Some p) a q = if nat_eq p.0 q then a else active.Nothing

-- the last of its own calls, the newest first, that began or ended a broadcast began one
abbrev pub publishes_after : Reply → Bool → Bool
publishes_after (reply.Began n) before = true
publishes_after (reply.Ended n) before = false
publishes_after _ before = before

abbrev pub publishes : List Step → Bool
publishes [] = false
publishes (s ∷ calls) = publishes_after s.1 (publishes calls)

-- the last of its own calls that was given this player's place or gave it back was given it
abbrev pub plays_after : ℕ → Reply → Bool → Bool
plays_after player (reply.Joined p from) before = if nat_eq p player then true else before
plays_after player (reply.Left p) before = if nat_eq p player then false else before
plays_after player _ before = before

abbrev pub plays : ℕ → List Step → Bool
plays player [] = false
plays player (s ∷ calls) = plays_after player s.1 (plays player calls)

-- so its calls say
abbrev pub IsGranted : Active → List Step → Type 0
IsGranted active.Nothing calls = Unit {0}
IsGranted active.Publishes calls = publishes calls ≡ true
IsGranted (active.Plays player) calls = plays player calls ≡ true

abbrev pub IsActive : {Q : Type 0} → Option (ℕ × Q) → Active → List Visit → Type 0
IsActive None a visits = a ≡ active.Nothing
IsActive (Some p) a visits = IsGranted a (calls_at p.0 visits)

-- ---- what it stands for, at a port

-- what is known of the histories, by the port's root and by its pass
abbrev pub known : {P Q : Type 0} → (P → Histories) → (Q → List Step) → P → SeatState Q → Histories
known root seen port s = known_if seen (root port) s.spot

-- all its calls stand in what is known, and it is granted what they say
pub record IsStanding {Q : Type 0} (limits : ℕ → Shape) (histories : Histories) (s : SeatState Q) : Type 0 where
  pub calls : AllStand limits histories s.visits
  pub granted : IsActive s.spot s.active s.visits

abbrev pub StandsAt : {P Q : Type 0} → (P → PortRules) → (P → Histories) → (Q → List Step) → P → SeatState Q → Type 0
StandsAt rules root seen port s = IsStanding (rules port).limits (known root seen port s) s

-- each history has gone on
pub record GoOn (histories later : Histories) : Type 0 where
  pub at_each : (q : ℕ) → Begins (histories q) (later q)

-- A call stands in what is then known of a place, once, behind all that the root and the seat had known of
-- it. Its reply is the rules', after what stands before it, and all that keeps the rules
pub record Noted (limits : Shape) (root known : List Step) (step : Step) (known' : List Step) : Type 0 where
  pub before : List Step
  pub root_first : Begins root before
  pub known_first : Begins known before
  pub reply_is : step.1 ≡ shape_reply limits (reverse before) step.0
  pub within : Begins (before ++ step ∷ []) known'
  pub lawful : Keeps limits (before ++ step ∷ [])

-- ---- what became of a call

-- it was made, and is the newest visit, or the same entry comes back
abbrev pub Makes : ℕ → Entry → Made → List Visit → List Visit → Type 0
Makes place entry (made.Answer r) visits visits' = visits' ≡ (place, (entry, r)) ∷ visits
Makes place entry (made.Busy e) visits visits' = (e ≡ entry) × (visits' ≡ visits)
Makes place entry (made.Worn e) visits visits' = (e ≡ entry) × (visits' ≡ visits)
Makes place entry (made.OutOfMemory e) visits visits' = (e ≡ entry) × (visits' ≡ visits)

-- the same of the calls, the oldest first
abbrev pub Calls : Entry → Made → List Step → List Step → Type 0
Calls entry (made.Answer r) calls calls' = calls' ≡ calls ++ (entry, r) ∷ []
Calls entry (made.Busy e) calls calls' = calls' ≡ calls
Calls entry (made.Worn e) calls calls' = calls' ≡ calls
Calls entry (made.OutOfMemory e) calls calls' = calls' ≡ calls

-- what its history says of it
abbrev pub IsNoted : Shape → List Step → List Step → Entry → Made → List Step → Type 0
IsNoted limits root known entry (made.Answer r) known' = Noted limits root known (entry, r) known'
IsNoted limits root known entry (made.Busy e) known' = Unit {0}
IsNoted limits root known entry (made.Worn e) known' = Unit {0}
IsNoted limits root known entry (made.OutOfMemory e) known' = Unit {0}

-- why it wasn't made: the port was busy, the history is full, or the call may want memory
abbrev pub Fails : {Q : Type 0} → (Q → ℕ) → Type 0 → ℕ → ℕ → Made → Option (ℕ × Q) → Type 0
Fails count wants busies busies' (made.Answer r) spot' = Unit {0}
Fails count wants busies busies' (made.Busy e) spot' = Rose busies busies'
Fails count wants busies busies' (made.Worn e) spot' = HasCount count spot' (2 ^ 62)
Fails count wants busies busies' (made.OutOfMemory e) spot' = wants

-- the stream was tried once: the port's count of busy calls is one more by such an answer, and by any other it stays
abbrev pub Tries : ℕ → ℕ → Made → Type 0
Tries busies busies' (made.Answer r) = busies' ≡ busies
Tries busies busies' (made.Busy e) = busies' ≡ risen busies
Tries busies busies' (made.Worn e) = busies' ≡ busies
Tries busies busies' (made.OutOfMemory e) = busies' ≡ busies

-- its pass has made this call, and no other: one number has come, or none
abbrev pub Once : Made → List ℕ → List ℕ → Type 0
Once (made.Answer r) numbers numbers' = (n : ℕ) × (numbers' ≡ numbers ++ n ∷ [])
Once (made.Busy e) numbers numbers' = numbers' ≡ numbers
Once (made.Worn e) numbers numbers' = numbers' ≡ numbers
Once (made.OutOfMemory e) numbers numbers' = numbers' ≡ numbers

-- the same, where it still has the pass
abbrev pub OnceIf : {Q : Type 0} → Made → (Q → List ℕ) → ℕ → List ℕ → Option (ℕ × Q) → Type 0
OnceIf r mine place numbers None = Unit {0}
OnceIf r mine place numbers (Some p) = Once r numbers (numbers_at mine (Some p) place)

-- where it is then: it stays, unless it has nothing more to do there
abbrev pub stays : ℕ → Made → Option ℕ
stays place (made.Answer r) = if is_over r then None else Some place
stays place (made.Busy e) = Some place
stays place (made.Worn e) = Some place
stays place (made.OutOfMemory e) = Some place

-- and what it is granted
abbrev pub active_then : Made → Active → Active
active_then (made.Answer r) a = active_after r a
active_then (made.Busy e) a = a
active_then (made.Worn e) a = a
active_then (made.OutOfMemory e) a = a

-- ---- how it leaves

-- the call that ends what it is granted
abbrev pub last_of : Active → Option Call
last_of active.Nothing = None
last_of active.Publishes = Some call.End
last_of (active.Plays player) = Some (call.Leave player)

-- one call was made
abbrev pub IsMade : ℕ → Entry → Reply → List Visit → List Visit → Type 0
IsMade place entry r visits visits' = visits' ≡ (place, (entry, r)) ∷ visits

-- the kept call was made, if there was one
abbrev pub KeptMade : ℕ → Option Entry → Active → List Visit → Active → List Visit → Type 0
KeptMade place None a visits a' visits' = (a' ≡ a) × (visits' ≡ visits)
KeptMade place (Some e) a visits a' visits' = (r : Reply) × (a' ≡ active_after r a) × IsMade place e r visits visits'

-- and then the last one, if there is one
abbrev pub LastMade : ℕ → ℕ → ℕ → Option Call → List Visit → List Visit → Type 0
LastMade place who fed None visits visits' = visits' ≡ visits
LastMade place who fed (Some c) visits visits' = (r : Reply) × IsMade place (record { who = who; at = fed; call = c }) r visits visits'

pub record AllMade (place who fed : ℕ) (kept : Option Entry) (a : Active) (visits visits' : List Visit) : Type 0 where
  pub granted : Active
  pub between : List Visit
  pub kept_made : KeptMade place kept a visits granted between
  pub last_made : LastMade place who fed (last_of granted) between visits'

-- the kept call was made and is no longer kept, or it is still kept. No other was made
abbrev pub KeptOrMade : ℕ → Option Entry → Active → List Visit → Active → List Visit → Option Entry → Type 0
KeptOrMade place kept a visits a' visits' kept' =
    ((a' ≡ a) × (visits' ≡ visits) × (kept' ≡ kept)) ⊎ (KeptMade place kept a visits a' visits' × (kept' ≡ None))

-- the last call, if there is one, as it is answered
abbrev pub Finishes : ℕ → ℕ → ℕ → Option Call → Active → List Visit → Leaving → Active → List Visit → Type 0
Finishes place who fed last a visits leaving.Done a' visits' = LastMade place who fed last visits visits'
Finishes place who fed last a visits leaving.Worn a' visits' = visits' ≡ visits
Finishes place who fed last a visits leaving.Busy a' visits' = (a' ≡ a) × (visits' ≡ visits)
Finishes place who fed last a visits leaving.OutOfMemory a' visits' = (a' ≡ a) × (visits' ≡ visits)

-- what leaving does of a place, as it is answered
abbrev pub Leaves : ℕ → ℕ → ℕ → Option Entry → Active → List Visit → Leaving → Option Entry → Active → List Visit → Type 0
Leaves place who fed kept a visits leaving.Done kept' a' visits' = AllMade place who fed kept a visits visits' × (kept' ≡ None)
Leaves place who fed kept a visits leaving.Worn kept' a' visits' = (granted : Active) × KeptOrMade place kept a visits granted visits' kept'
Leaves place who fed kept a visits leaving.Busy kept' a' visits' = KeptOrMade place kept a visits a' visits' kept'
Leaves place who fed kept a visits leaving.OutOfMemory kept' a' visits' = KeptOrMade place kept a visits a' visits' kept'

-- where it is nowhere there is nothing to be left
abbrev pub LeavesFrom : Option ℕ → ℕ → ℕ → Option Entry → Active → List Visit → Leaving → Option Entry → Active → List Visit → Type 0
LeavesFrom None who fed kept a visits r kept' a' visits' = (r ≡ leaving.Done) × (visits' ≡ visits) × (kept' ≡ kept)
LeavesFrom (Some place) who fed kept a visits r kept' a' visits' = Leaves place who fed kept a visits r kept' a' visits'

-- where it is then: it has left, or it is still there
abbrev pub left_at : Leaving → Option ℕ → Option ℕ
left_at leaving.Done place = None
left_at leaving.Worn place = None
left_at leaving.Busy place = place
left_at leaving.OutOfMemory place = place

-- a pass to that place has seen so many calls
abbrev pub IsWornAt : {Q : Type 0} → (ℕ → Q → Type 0) → (Q → ℕ) → Option ℕ → Type 0
IsWornAt fits count None = ⊥
IsWornAt {Q} fits count (Some place) = (p : Q) × fits place p × (count p ≡ 2 ^ 62)

-- the kept call may want memory, or one that ends what was granted
abbrev pub KeptWants : (Entry → Type 0) → Option Entry → Type 0
KeptWants wants None = ⊥
KeptWants wants (Some e) = wants e

abbrev pub LastWants : (Entry → Type 0) → ℕ → ℕ → Type 0
LastWants wants who fed = (a : Active) × ((c : Call) × (last_of a ≡ Some c) × wants (record { who = who; at = fed; call = c }))

-- why the last call wasn't made
abbrev pub FinishFails : {Q : Type 0} → (ℕ → Q → Type 0) → (Q → ℕ) → (Entry → Type 0) → ℕ → ℕ → ℕ → ℕ → ℕ → Leaving → Type 0
FinishFails fits count wants place who fed busies busies' leaving.Done = Unit {0}
FinishFails fits count wants place who fed busies busies' leaving.Worn = IsWornAt fits count (Some place)
FinishFails fits count wants place who fed busies busies' leaving.Busy = Rose busies busies'
FinishFails fits count wants place who fed busies busies' leaving.OutOfMemory = LastWants wants who fed

-- why it didn't leave, or made no further call
abbrev pub LeaveFails : {Q : Type 0} → (ℕ → Q → Type 0) → (Q → ℕ) → (Entry → Type 0) → Option ℕ → ℕ → ℕ → Option Entry → ℕ → ℕ → Leaving → Type 0
LeaveFails fits count wants place who fed kept busies busies' leaving.Done = Unit {0}
LeaveFails fits count wants place who fed kept busies busies' leaving.Worn = IsWornAt fits count place
LeaveFails fits count wants place who fed kept busies busies' leaving.Busy = Rose busies busies'
LeaveFails fits count wants place who fed kept busies busies' leaving.OutOfMemory = KeptWants wants kept ⊎ LastWants wants who fed

-- nothing was tried after a busy answer: the count is one more by such an answer, and by any other it stays
abbrev pub LeaveTries : ℕ → ℕ → Leaving → Type 0
LeaveTries busies busies' leaving.Done = busies' ≡ busies
LeaveTries busies busies' leaving.Worn = busies' ≡ busies
LeaveTries busies busies' leaving.Busy = busies' ≡ risen busies
LeaveTries busies busies' leaving.OutOfMemory = busies' ≡ busies
