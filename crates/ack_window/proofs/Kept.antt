-- What calls of an `Outbound` keep, whatever they are.
use Rattle.std.proofs.Common.{ℕ, ◌+◌, ◌-◌, ◌%◌, ◌^◌, ◌<◌, ◌≤◌, ◌≡◌, ◌↔◌, ◌⊎◌, ◌∙◌, true, false, IsTrue, List, [], ◌∷◌, ◌++◌, max, min, refl, ap, arith, inl, inr}
use Rattle.std.proofs.lemmas.Bool.Decides.{nat_tests}
use Rattle.ack_window.specs.Inbound.{number_of}
use Rattle.ack_window.specs.Outbound.{OutWindow, new_out, out_set, out_sent, out_acked, limited, behind, meant, IsHeldBack}
use Rattle.ack_window.specs.OutboundRuns.{OutCall, Set, Sent, Acked, out_after, out_after_all, outbound, sent_by, AckedIn, meant_after, IsMeant}

-- what each state keeps
record Good (s : OutWindow) : Type 0 where
  least : 1000 ≤ s.window
  within : s.acknowledged ≤ s.sent
  far : s.sent < 2 ^ 64

good_new : (size : ℕ) → Good (new_out size)
good_new size = record { least = omega arith; within = omega arith; far = omega arith }

least_limited : (window size limit : ℕ) → 1000 ≤ window → 1000 ≤ limited window size limit
least_limited window size limit h = grind (arith, nat_tests)

meant_within : (sent value : ℕ) → meant sent value ≤ sent
meant_within sent value = grind (arith, nat_tests)

good_after : (s : OutWindow) (call : OutCall) → Good s → Good (out_after s call)
good_after s (Set size limit) g = record { least = least_limited s.window size limit g.least; within = g.within; far = g.far }
good_after s (Sent n) g = record { least = g.least; within = omega arith; far = omega arith }
good_after s (Acked value) g = record { least = g.least; within = omega (arith, meant_within s.sent value); far = g.far }

good_all : (s : OutWindow) (calls : List OutCall) → Good s → Good (out_after_all s calls)
good_all s [] g = g
good_all s (call ∷ calls) g = good_all (out_after s call) calls (good_after s call g)

good : (size : ℕ) (calls : List OutCall) → Good (outbound size calls)
good size calls = good_all (new_out size) calls (good_new size)

pub within_sent : (size : ℕ) (calls : List OutCall) → (outbound size calls).acknowledged ≤ (outbound size calls).sent
within_sent size calls = (good size calls).within

pub least_window : (size : ℕ) (calls : List OutCall) → 1000 ≤ (outbound size calls).window
least_window size calls = (good size calls).least

-- calls after calls
pub all_append : (s : OutWindow) (xs ys : List OutCall) → out_after_all s (xs ++ ys) ≡ out_after_all (out_after_all s xs) ys
all_append s [] ys = refl
all_append s (x ∷ xs) ys = all_append (out_after s x) xs ys

rises_one : (s : OutWindow) (call : OutCall) → s.acknowledged ≤ (out_after s call).acknowledged
rises_one s (Set size limit) = omega arith
rises_one s (Sent n) = omega arith
rises_one s (Acked value) = omega arith

rises_all : (s : OutWindow) (calls : List OutCall) → s.acknowledged ≤ (out_after_all s calls).acknowledged
rises_all s [] = omega arith
rises_all s (call ∷ calls) = omega (arith, rises_one s call, rises_all (out_after s call) calls)

pub never_falls : (size : ℕ) (calls more : List OutCall) → (outbound size calls).acknowledged ≤ (outbound size (calls ++ more)).acknowledged
never_falls size calls more = rw (all_append (new_out size) calls more) (rises_all (outbound size calls) more)

-- the bytes sent
sent_all : (s : OutWindow) (calls : List OutCall) → s.sent < 2 ^ 64 → (out_after_all s calls).sent ≡ min (s.sent + sent_by calls) (2 ^ 64 - 1)
sent_all s [] h = omega arith
sent_all s (Set size limit ∷ calls) h = sent_all (out_set s size limit) calls h
sent_all s (Sent n ∷ calls) h = let rest = sent_all (out_sent s n) calls (omega arith) in omega arith
sent_all s (Acked value ∷ calls) h = sent_all (out_acked s value) calls h

pub sent_is : (size : ℕ) (calls : List OutCall) → (outbound size calls).sent ≡ min (sent_by calls) (2 ^ 64 - 1)
sent_is size calls = let e = sent_all (new_out size) calls (omega arith) in omega arith

-- an acknowledgement among later calls
later : (call : OutCall) (calls : List OutCall) → AckedIn calls → AckedIn (call ∷ calls)
later call calls a = record { before = call ∷ a.before; value = a.value; after = a.after; is = ap (λ (t : List OutCall). call ∷ t) a.is }

-- once heard, heard
stays_heard : (s : OutWindow) (calls : List OutCall) → s.heard ≡ true → (out_after_all s calls).heard ≡ true
stays_heard s [] h = h
stays_heard s (Set size limit ∷ calls) h = stays_heard (out_set s size limit) calls h
stays_heard s (Sent n ∷ calls) h = stays_heard (out_sent s n) calls h
stays_heard s (Acked value ∷ calls) h = stays_heard (out_acked s value) calls refl

heard_all : (s : OutWindow) (calls : List OutCall) → s.heard ≡ false → IsTrue (out_after_all s calls).heard → AckedIn calls
heard_all s [] none h = absurd (cc)
heard_all s (Set size limit ∷ calls) none h = later (Set size limit) calls (heard_all (out_set s size limit) calls none h)
heard_all s (Sent n ∷ calls) none h = later (Sent n) calls (heard_all (out_sent s n) calls none h)
heard_all s (Acked value ∷ calls) none h = record { before = []; value = value; after = calls; is = refl }

heard_back : (size : ℕ) (before after : List OutCall) (value : ℕ) → (outbound size (before ++ (Acked value ∷ after))).heard ≡ true
heard_back size before after value =
    rw (all_append (new_out size) before (Acked value ∷ after)) (stays_heard (out_acked (outbound size before) value) after refl)

pub heard_is : (size : ℕ) (calls : List OutCall) → IsTrue (outbound size calls).heard ↔ AckedIn calls
heard_is size calls = (heard_all (new_out size) calls refl, λ a. rw (a.is, heard_back size a.before a.after a.value) refl)

pub held_after_ack : (size : ℕ) (calls : List OutCall) → IsHeldBack (outbound size calls) → AckedIn calls
held_after_ack size calls h = heard_all (new_out size) calls refl h.heard

-- each acknowledgement counts
pub counts : (size : ℕ) (before after : List OutCall) (value : ℕ) → meant_after size before value ≤ (outbound size (before ++ (Acked value ∷ after))).acknowledged
counts size before after value =
    rw (all_append (new_out size) before (Acked value ∷ after))
    (omega (arith, rises_all (out_acked (outbound size before) value) after))

-- n is what an acknowledgement among calls means that begin at s
record Means (s : OutWindow) (calls : List OutCall) (n : ℕ) : Type 0 where
  at : AckedIn calls
  is : n ≡ meant (out_after_all s at.before).sent at.value

meant_later : (s : OutWindow) (call : OutCall) (calls : List OutCall) (n : ℕ) → Means (out_after s call) calls n → Means s (call ∷ calls) n
unfolding later
meant_later s call calls n m = record { at = later call calls m.at; is = m.is }

max_either : (a b : ℕ) → (max a b ≡ a) ⊎ (max a b ≡ b)
max_either a b = grind arith

attained_all : (s : OutWindow) (calls : List OutCall) → ((out_after_all s calls).acknowledged ≡ s.acknowledged) ⊎ Means s calls (out_after_all s calls).acknowledged
attained_all s [] = inl refl
attained_all s (Set size limit ∷ calls) = elim (attained_all (out_set s size limit) calls) [
  | inl same ↦ inl same
  | inr m ↦ inr (meant_later s (Set size limit) calls _ m)
]
attained_all s (Sent n ∷ calls) = elim (attained_all (out_sent s n) calls) [
  | inl same ↦ inl same
  | inr m ↦ inr (meant_later s (Sent n) calls _ m)
]
attained_all s (Acked value ∷ calls) = elim (attained_all (out_acked s value) calls) [
  | inr m ↦ inr (meant_later s (Acked value) calls _ m)
  | inl same ↦ elim (max_either s.acknowledged (meant s.sent value)) [
    | inl old ↦ inl (same ∙ old)
    | inr new ↦ inr (record { at = record { before = []; value = value; after = calls; is = refl }; is = same ∙ new })
  ]
]

pub attained : (size : ℕ) (calls : List OutCall) → ((outbound size calls).acknowledged ≡ 0) ⊎ IsMeant size calls (outbound size calls).acknowledged
attained size calls = elim (attained_all (new_out size) calls) [
  | inl none ↦ inl none
  | inr m ↦ inr (record { at = m.at; is = m.is })
]

-- a count less than 2^31 behind is understood
pub understood : (count sent : ℕ) → count ≤ sent → sent - count < 2 ^ 31 → meant sent (number_of count) ≡ count
understood count sent le near =
    let e : behind sent (number_of count) ≡ sent - count = omega arith in
    rw e (grind (arith, nat_tests))

pub behind_is : (sent value : ℕ) → value < 2 ^ 32 → (value + behind sent value) % 2 ^ 32 ≡ number_of sent
behind_is sent value h = omega arith

-- an acknowledgement of all that was sent
pub released : (size : ℕ) (calls : List OutCall) → IsHeldBack (out_acked (outbound size calls) (number_of (outbound size calls).sent)) → ⊥
released size calls h =
    let all : meant (outbound size calls).sent (number_of (outbound size calls).sent) ≡ (outbound size calls).sent =
    understood (outbound size calls).sent (outbound size calls).sent (omega arith) (omega arith) in
    let full = h.full in
    let least = least_window size calls in
    omega arith
