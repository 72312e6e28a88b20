-- What stands at an edge's place of the stream of its origin
use Rattle.std.specs.Prelude.{◌≡◌, ◌⊎◌, ℕ, ◌<◌, ◌≤◌, Bool, true, false, ◌||◌, ◌==◌, if◌then◌else◌, List, [], ◌∷◌, ◌++◌, Some}
use Rattle.std.specs.List.{slice_get, Contains}
use Rattle.av_unit.specs.Media.{Media}
use Rattle.av_unit.specs.declared.item.Item.{Item}
use Rattle.av_unit.specs.declared.item.Item.TheVariants as item
use Rattle.av_unit.specs.declared.unit.Kind.TheVariants.{Key, Inter}
use Rattle.stream_model.specs.declared.calls.Call.{Call}
use Rattle.stream_model.specs.declared.calls.Call.TheVariants as call
use Rattle.stream_model.specs.declared.calls.StreamLimits.{StreamLimits}
use Rattle.stream_model.specs.declared.replies.Reply.{Reply}
use Rattle.stream_model.specs.Counts.{is_began, is_ended, is_pushed}
use Rattle.stream_model.specs.History.{History, items_of}
use Rattle.stream_model.specs.Known.{IsLawful}
use Rattle.stream_model.specs.Spell.{sent, spell}
use Rattle.stream_model.specs.Take.{at_kind}
use Rattle.stream_law.specs.InEffect.{InEffect}
use Rattle.client_owed.specs.declared.types.Gift.{Gift}
use Rattle.origin_calls.specs.Calls.{edge_calls, unit_in}
use Rattle.origin_calls.specs.Origin.{IsMadeFor, tag_of}

-- ---- an edge that publishes alone

-- the calls of this name, the oldest first
abbrev pub calls_by : ℕ → History → List Call
calls_by who [] = []
calls_by who (s ∷ past) = calls_by who past ++ (if s.0.who == who then s.0.call ∷ [] else [])

-- an answer by which an item is published
abbrev pub publishes : Reply → Bool
publishes r = is_began r || (is_pushed r || is_ended r)

-- nobody else publishes: no call of another name is answered so
abbrev pub IsAlone : ℕ → History → Type 0
IsAlone who [] = Unit {0}
IsAlone who (s ∷ past) = (publishes s.1 ≡ true → s.0.who ≡ who) × IsAlone who past

-- the call was granted: a Begin began, a Push was pushed and an End ended
abbrev pub is_granted : Call → Reply → Bool
is_granted call.Begin r = is_began r
is_granted (call.Push u) r = is_pushed r
is_granted call.End r = is_ended r
is_granted _ r = false

-- each call of this name was
abbrev pub AreGranted : ℕ → History → Type 0
AreGranted who [] = Unit {0}
AreGranted who (s ∷ past) = (s.0.who ≡ who → is_granted s.0.call s.1 ≡ true) × AreGranted who past

-- AN EDGE OF THIS NAME SERVES A PLACE: in its lawful history the calls of the name are the first of those of
-- an edge that was told this, and nobody else publishes there
pub record Serves (who : ℕ) (gs : List Gift) (limits : StreamLimits) (past : History) : Type 0 where
  pub lawful : IsLawful limits past
  pub more : List Call
  pub own : calls_by who past ++ more ≡ edge_calls false gs
  pub alone : IsAlone who past

-- the item that such a call publishes
abbrev pub item_for : Call → Item
item_for call.Begin = item.Begin
item_for (call.Push u) = item.Unit u
item_for _ = item.End

unfoldable pub items_for : List Call → List Item
items_for [] = []
items_for (c ∷ cs) = item_for c ∷ items_for cs

-- ---- what comes from where

-- A UNIT COMES FROM AN ITEM: it was pushed for the item of this number, which the player of the origin was
-- sent, and is the unit in the tag of that
pub record ComesFrom (origin : History) (player n : ℕ) (v : Media) (from : ℕ) : Type 0 where
  pub made : IsMadeFor origin player n (call.Push v) from
  pub unit : Media
  pub there : slice_get (items_of origin) from ≡ Some (item.Unit unit)
  pub taken : Contains (sent (spell origin player)) from
  pub same : unit_in (tag_of unit) ≡ Some v

-- the same item was pushed for that of the origin's number, and was sent to this player here
pub record IsSentOn (origin : History) (player : ℕ) (past : History) (place k m : ℕ) : Type 0 where
  pub pushed : Call
  pub made : IsMadeFor origin player m pushed k
  pub same : slice_get (items_of past) m ≡ slice_get (items_of origin) k
  pub taken : Contains (sent (spell past place)) m

abbrev pub IsFrame : List Item → ℕ → Type 0
IsFrame items k = (at_kind Key (slice_get items k) ≡ true) ⊎ (at_kind Inter (slice_get items k) ≡ true)

-- AN INTER FRAME HAS ITS CHAIN: it comes from the origin, and each frame from the last key frame before it
-- there was sent to its player here too, before it
pub record HasItsChain (origin : History) (player : ℕ) (past : History) (place n : ℕ) : Type 0 where
  pub unit : Media
  pub here : slice_get (items_of past) n ≡ Some (item.Unit unit)
  pub from : ℕ
  pub comes : ComesFrom origin player n unit from
  pub key : ℕ
  pub is_last : InEffect Key (items_of origin) from key
  pub chain : (k : ℕ) → key ≤ k → k < from → IsFrame (items_of origin) k → (m : ℕ) × (m < n) × IsSentOn origin player past place k m
