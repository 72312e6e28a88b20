-- What the calls of one name at a place are answered, whether it has a stream or a pool
use Rattle.std.proofs.Common.{◌≡◌, nat_eq, ℕ, Bool, true, false, if◌then◌else◌, List, [], ◌∷◌, map, reverse, All, Option, Some, None, sym, ap, ◌∙◌, subst, inl, inr}
use Rattle.std.proofs.lemmas.Bool.Decides.{eqb_tells}
use Rattle.std.proofs.lemmas.List.{reverse-append}
use Rattle.std.proofs.lemmas.List.Elements.{All-cons, All-head, All-nil, All-push, All-tail}
use Rattle.session_owed.specs.Talk.{is_take}
use Rattle.stream_model.specs.declared.calls.StreamLimits.{StreamLimits}
use Rattle.stream_model.specs.declared.calls.Shape.{Shape}
use Rattle.stream_model.specs.declared.calls.Call.{Call}
use Rattle.stream_model.specs.declared.calls.Call.TheVariants as call
use Rattle.stream_model.specs.declared.calls.Entry.{Entry}
use Rattle.stream_model.specs.declared.replies.Reply.{Reply}
use Rattle.stream_model.specs.History.{History}
use Rattle.stream_model.specs.Shape.{reply_by, shape_reply, IsLawfulBy, IsShapeLawful}
use Rattle.stream_registry.specs.Told.{Histories, Step}
use Rattle.relay_session.specs.SeatState.{publishes, plays}
use Rattle.relay_session.specs.SeatOwn.{own, Acts, ActsSo, AnsweredSo, AreAnswered, BringsSo, FaresSo, Fares, PublishesBy, PlaysBy, IsPublisher, IsPlayer}
use Rattle.relay_session.specs.SeatVisits.{AllStand, StandIn, Visit, calls_at, calls_of}
use Rattle.relay_session.proofs.SeatStanding.{calls_here}
use Rattle.relay_session.proofs.SeatOwn.{brings, publishes_so, plays_so, fares_so, no_item}
use Rattle.relay_session.proofs.PoolOwn.{pool_published, pool_played, pool_fares, pool_item}

-- ---- who publishes, and who holds a place

published_by : (limits : StreamLimits) (slots : Option ℕ) (past : History) (who : ℕ) → IsLawfulBy limits slots past → publishes (own who past) ≡ true → PublishesBy limits slots past who
published_by limits None past who l p = publishes_so limits past who l p
published_by limits (Some n) past who l p = pool_published limits n past who l p

pub published : (s : Shape) (past : History) (who : ℕ) → IsShapeLawful s past → publishes (own who past) ≡ true → IsPublisher s past who
published s past who l p = published_by s.limits s.slots past who l p

played_by : (limits : StreamLimits) (slots : Option ℕ) (past : History) (who player : ℕ) → IsLawfulBy limits slots past → plays player (own who past) ≡ true → PlaysBy limits slots past who player
played_by limits None past who player l p = plays_so limits past who player l p
played_by limits (Some n) past who player l p = pool_played limits n past who player l p

pub played : (s : Shape) (past : History) (who player : ℕ) → IsShapeLawful s past → plays player (own who past) ≡ true → IsPlayer s past who player
played s past who player l p = played_by s.limits s.slots past who player l p

-- ---- its own calls

one_by : (limits : StreamLimits) (slots : Option ℕ) (past : History) (who at : ℕ) (c : Call) → IsLawfulBy limits slots past → FaresSo (own who past) c (reply_by limits slots past (record { who = who; at = at; call = c }))
one_by limits None past who at c l = fares_so limits past who l c
one_by limits (Some n) past who at c l = pool_fares limits n past who at c l

one_fares : (s : Shape) (past : History) (who : ℕ) (e : Entry) (r : Reply) → IsShapeLawful s past → e.who ≡ who → r ≡ shape_reply s past e → FaresSo (own who past) e.call r
one_fares s past who e r l same is =
    subst (λ (x : Reply). FaresSo (own who past) e.call x) (sym is) (subst (λ (w : ℕ). FaresSo (own w past) e.call (shape_reply s past e)) same (one_by s.limits s.slots past e.who e.at e.call l))

-- the calls before the last were answered by the rules, and so was the last
last_by : (limits : StreamLimits) (slots : Option ℕ) (step : Step) (past : History) → IsLawfulBy limits slots (step ∷ past) → (step.1 ≡ reply_by limits slots past step.0) × IsLawfulBy limits slots past
last_by limits None step past l = l
last_by limits (Some n) step past l = l

pub fares : (s : Shape) (past : History) (who : ℕ) → IsShapeLawful s past → Fares (own who past)
fares s [] who l = tt
fares s (step ∷ past) who l =
    let k = last_by s.limits s.slots step past l in
    let before = fares s past who k.1 in
    elim (eqb_tells step.0.who who) [
      | inl h ↦ subst (λ (b : Bool). Fares (if b then step ∷ own who past else own who past)) (sym h.0) (one_fares s past who step.0 step.1 k.1 h.1 k.0, before)
      | inr h ↦ subst (λ (b : Bool). Fares (if b then step ∷ own who past else own who past)) (sym h.0) before
    ]

-- a caller that asks for nothing but what it was granted
answered_one : (before : List Step) (c : Call) (r : Reply) → FaresSo before c r → ActsSo before c → AnsweredSo c r
answered_one before (call.Push unit) r f a = f a
answered_one before call.End r f a = f a
answered_one before (call.Take player want) r f a = f a
answered_one before (call.Leave player) r f a = f a
answered_one before call.Begin r f a = tt
answered_one before (call.BeginAs name) r f a = tt
answered_one before call.Join r f a = tt
answered_one before (call.JoinAs name) r f a = tt
answered_one before call.Count r f a = tt

answered_all : (calls : List Step) → Fares calls → Acts calls → AreAnswered calls
answered_all [] f a = tt
answered_all (step ∷ before) f a = (answered_one before step.0.call step.1 f.0 a.0, answered_all before f.1 a.1)

pub answered : (s : Shape) (past : History) (who : ℕ) (calls : List Step) → IsShapeLawful s past → own who past ≡ calls → Acts calls → AreAnswered calls
answered s past who calls l same a = answered_all calls (subst (λ (c : List Step). Fares c) same (fares s past who l)) a

-- ---- an item

item_by : (limits : StreamLimits) (slots : Option ℕ) (past : History) (e : Entry) → is_take e.call ≡ false → brings (reply_by limits slots past e) ≡ false
item_by limits None past e t = no_item limits past e.who e.call t
item_by limits (Some n) past e t = pool_item limits n past e t

brings_one : (s : Shape) (past : History) (step : Step) → step.1 ≡ shape_reply s past step.0 → BringsSo step
unfolding brings
brings_one s past step e = λ t. ap brings e ∙ item_by s.limits s.slots past step.0 t

brings_in : (limits : Shape) (calls : List Step) (past : History) → StandIn limits calls past → All BringsSo calls
brings_in limits [] past s = All-nil BringsSo
brings_in limits (m ∷ ms) [] s = absurd s
brings_in limits (m ∷ ms) (p ∷ past) (inl s) = All-cons BringsSo m ms (brings_one limits past m s.1) (brings_in limits ms past s.2)
brings_in limits (m ∷ ms) (p ∷ past) (inr s) = brings_in limits (m ∷ ms) past s

brings_rest : (b : Bool) (s : Step) (calls : List Step) → All BringsSo (if b then s ∷ calls else calls) → All BringsSo calls
brings_rest true s calls a = All-tail BringsSo s calls a
brings_rest false s calls a = a

brings_all : (visits : List Visit) → ((q : ℕ) → All BringsSo (calls_at q visits)) → All BringsSo (calls_of visits)
brings_all [] h = All-nil BringsSo
brings_all ((place, step) ∷ visits) h =
    let here = subst (λ (l : List Step). All BringsSo l) (calls_here place step visits) (h place) in
    let rest : (q : ℕ) → All BringsSo (calls_at q visits) = λ q. brings_rest (nat_eq place q) step (calls_at q visits) (h q) in
    subst (λ (l : List Step). All BringsSo l) (sym (reverse-append (step ∷ []) (map (λ (v : Visit). v.1) visits)))
    (All-push BringsSo (calls_of visits) step (brings_all visits rest) (All-head BringsSo step (calls_at place visits) here))

pub brings_so : (limits : ℕ → Shape) (histories : Histories) (visits : List Visit) → AllStand limits histories visits → All BringsSo (calls_of visits)
brings_so limits histories visits s = brings_all visits (λ q. brings_in (limits q) (calls_at q visits) (reverse (histories q)) (s.at_each q))
