-- What an edge is told of the items that its origin's session was sent, and the calls that it makes for each of them
use Rattle.std.specs.Prelude.{◌≡◌, ℕ, Bool, false, List, [], ◌∷◌, ◌++◌, Some}
use Rattle.std.specs.List.{slice_get}
use Rattle.av_unit.specs.Classes.{IsItselfAgain, message_type}
use Rattle.av_unit.specs.Media.{Media}
use Rattle.av_unit.specs.declared.item.Item.{Item}
use Rattle.av_unit.specs.declared.item.Item.TheVariants as item
use Rattle.flv_tags.specs.declared.tag.Tag.{Tag}
use Rattle.stream_model.specs.declared.calls.Call.{Call}
use Rattle.stream_model.specs.declared.calls.StreamLimits.{StreamLimits}
use Rattle.stream_model.specs.declared.replies.Taken.{Taken}
use Rattle.stream_model.specs.declared.replies.Taken.TheVariants.{Sent, Skip, NotYet}
use Rattle.stream_model.specs.History.{History, items_of}
use Rattle.stream_model.specs.Known.{IsLawful}
use Rattle.stream_model.specs.Spell.{spell}
use Rattle.client_owed.specs.declared.types.Gift.{Gift}
use Rattle.client_owed.specs.declared.types.Gift.TheVariants as gift
use Rattle.origin_calls.specs.Calls.{calls_for, live_by}

-- ---- what a session was sent, and what its client is told of it

-- a unit as the tag of its message
abbrev pub tag_of : Media → Tag
tag_of u = record { kind = message_type u.kind; time = u.time; body = u.body }

-- what an item tells a client that plays
abbrev pub told_by : Item → Gift
told_by item.Begin = gift.Published
told_by (item.Unit u) = gift.Tag (tag_of u)
told_by item.End = gift.Unpublished

-- the items of these answers, which stand the newest first, each with its number, the oldest first
abbrev pub given : List Taken → List (ℕ × Item)
given [] = []
given (Sent at n x ∷ before) = given before ++ (n, x) ∷ []
given (Skip at to ∷ before) = given before
given (NotYet end ∷ before) = given before

-- what they tell
unfoldable pub all_told : List (ℕ × Item) → List Gift
all_told [] = []
all_told (p ∷ ps) = told_by p.1 ∷ all_told ps

-- ---- the calls for them

abbrev pub numbered : ℕ → List Call → List (ℕ × Call)
numbered n [] = []
numbered n (c ∷ cs) = (n, c) ∷ numbered n cs

-- THE CALLS OF AN EDGE for these items, each with the number of the item for which it is made
unfoldable pub numbered_calls : Bool → List (ℕ × Item) → List (ℕ × Call)
numbered_calls live [] = []
numbered_calls live (p ∷ ps) = numbered p.0 (calls_for live (told_by p.1)) ++ numbered_calls (live_by live (told_by p.1)) ps

-- the calls alone
unfoldable pub plain : List (ℕ × Call) → List Call
plain [] = []
plain (c ∷ cs) = c.1 ∷ plain cs

-- ---- an origin: a stream, one of its players, and the client that is fed what this player is sent

-- a unit that was made of a message, by some size of lengths: sent on it is itself
abbrev pub IsMade : Media → Type 0
IsMade u = (size : ℕ) × IsItselfAgain size u

-- a lawful history of units that were made so
pub record IsOrigin (limits : StreamLimits) (origin : History) : Type 0 where
  pub lawful : IsLawful limits origin
  pub made : (n : ℕ) (u : Media) → slice_get (items_of origin) n ≡ Some (item.Unit u) → IsMade u

-- A CLIENT WAS TOLD THIS of the stream of an origin by what a player there was sent, or by the first of it
pub record Hears (gs : List Gift) (limits : StreamLimits) (origin : History) (player : ℕ) : Type 0 where
  pub stream : IsOrigin limits origin
  pub later : List Gift
  pub told : gs ++ later ≡ all_told (given (spell origin player).answers)

-- the call with this number in order is made for the item of that number
abbrev pub IsMadeFor : History → ℕ → ℕ → Call → ℕ → Type 0
IsMadeFor origin player n c from = slice_get (numbered_calls false (given (spell origin player).answers)) n ≡ Some (from, c)
