-- What the calls of one name at a place are answered
use Rattle.std.specs.Prelude.{◌≡◌, ℕ, ◌<◌, Bool, true, false, if◌then◌else◌, ◌==◌, List, [], ◌∷◌, length, Option, Some, None}
use Rattle.std.specs.Option.{is_some}
use Rattle.session_owed.specs.Talk.{is_take}
use Rattle.stream_model.specs.declared.calls.StreamLimits.{StreamLimits}
use Rattle.stream_model.specs.declared.calls.Shape.{Shape}
use Rattle.stream_model.specs.declared.calls.Call.{Call}
use Rattle.stream_model.specs.declared.calls.Call.TheVariants as call
use Rattle.stream_model.specs.declared.replies.Reply.{Reply}
use Rattle.stream_model.specs.declared.replies.Reply.TheVariants as reply
use Rattle.stream_model.specs.Counts.{is_pushed, is_ended}
use Rattle.stream_model.specs.History.{History, publisher, holder}
use Rattle.stream_model.specs.Pool.{PoolSlot, slot_at, slots_of}
use Rattle.stream_registry.specs.Told.{Step}
use Rattle.relay_session.specs.SeatState.{plays, publishes}
use Rattle.relay_session.specs.Session.{item_in}

-- the calls of this name, the newest first
abbrev pub own : ℕ → History → List Step
own who [] = []
own who (s ∷ past) = if s.0.who == who then s ∷ own who past else own who past

abbrev pub is_not_player : Reply → Bool
is_not_player reply.NotPlayer = true
is_not_player _ = false

-- one of these slots is so
abbrev pub Somewhere : (PoolSlot → Type 0) → List PoolSlot → Type 0
Somewhere P slots = (i : ℕ) × (i < length slots) × P (slot_at slots i)

abbrev pub PublishesBy : StreamLimits → Option ℕ → History → ℕ → Type 0
PublishesBy limits None past who = publisher past ≡ Some who
PublishesBy limits (Some n) past who = Somewhere (λ s. publisher s.stream.past ≡ Some who) (slots_of limits n past)

-- the caller of this name publishes there, at a pool at one of its slots
abbrev pub IsPublisher : Shape → History → ℕ → Type 0
IsPublisher s past who = PublishesBy s.limits s.slots past who

abbrev pub PlaysBy : StreamLimits → Option ℕ → History → ℕ → ℕ → Type 0
PlaysBy limits None past who player = holder past player ≡ Some who
PlaysBy limits (Some n) past who player = Somewhere (λ s. holder s.stream.past player ≡ Some who) (slots_of limits n past)

-- it holds this player's place, at a pool at one of its slots
abbrev pub IsPlayer : Shape → History → ℕ → ℕ → Type 0
IsPlayer s past who player = PlaysBy s.limits s.slots past who player

-- Where the calls of this name before it began a broadcast and didn't end it, a Push is answered Pushed and
-- an End Ended. Where they were given a player's place and didn't give it back, no Take or Leave of that
-- player is answered NotPlayer
abbrev pub FaresSo : List Step → Call → Reply → Type 0
FaresSo before (call.Push unit) r = publishes before ≡ true → is_pushed r ≡ true
FaresSo before call.End r = publishes before ≡ true → is_ended r ≡ true
FaresSo before (call.Take player want) r = plays player before ≡ true → is_not_player r ≡ false
FaresSo before (call.Leave player) r = plays player before ≡ true → is_not_player r ≡ false
FaresSo before call.Begin r = Unit {0}
FaresSo before (call.BeginAs name) r = Unit {0}
FaresSo before call.Join r = Unit {0}
FaresSo before (call.JoinAs name) r = Unit {0}
FaresSo before call.Count r = Unit {0}

-- each of these calls, after those before it
abbrev pub Fares : List Step → Type 0
Fares [] = Unit {0}
Fares (s ∷ before) = FaresSo before s.0.call s.1 × Fares before

-- ---- a caller that asks for nothing but what it was granted

-- A call that is made after these calls of the same name, the newest first: it publishes and ends only what
-- that name began, and takes and leaves only where it was given a player's place
abbrev pub ActsSo : List Step → Call → Type 0
ActsSo before (call.Push unit) = publishes before ≡ true
ActsSo before call.End = publishes before ≡ true
ActsSo before (call.Take player want) = plays player before ≡ true
ActsSo before (call.Leave player) = plays player before ≡ true
ActsSo before call.Begin = Unit {0}
ActsSo before (call.BeginAs name) = Unit {0}
ActsSo before call.Join = Unit {0}
ActsSo before (call.JoinAs name) = Unit {0}
ActsSo before call.Count = Unit {0}

-- each of these calls, after those before it
abbrev pub Acts : List Step → Type 0
Acts [] = Unit {0}
Acts (s ∷ before) = ActsSo before s.0.call × Acts before

-- what such a call is answered
abbrev pub AnsweredSo : Call → Reply → Type 0
AnsweredSo (call.Push unit) r = is_pushed r ≡ true
AnsweredSo call.End r = is_ended r ≡ true
AnsweredSo (call.Take player want) r = is_not_player r ≡ false
AnsweredSo (call.Leave player) r = is_not_player r ≡ false
AnsweredSo call.Begin r = Unit {0}
AnsweredSo (call.BeginAs name) r = Unit {0}
AnsweredSo call.Join r = Unit {0}
AnsweredSo (call.JoinAs name) r = Unit {0}
AnsweredSo call.Count r = Unit {0}

abbrev pub AreAnswered : List Step → Type 0
AreAnswered [] = Unit {0}
AreAnswered (s ∷ before) = AnsweredSo s.0.call s.1 × AreAnswered before

-- a call that is no Take brought no item
abbrev pub BringsSo : Step → Type 0
BringsSo s = is_take s.0.call ≡ false → is_some (item_in s.1) ≡ false
