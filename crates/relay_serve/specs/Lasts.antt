-- The last call of each stream
use Rattle.std.specs.Prelude.{◌≡◌, ◌^◌, ℕ, List, [], ◌∷◌, ◌++◌, Option, None, Some, slice_get}
use Rattle.stream_model.specs.declared.calls.Call.TheVariants as call
use Rattle.stream_model.specs.declared.calls.Entry.{Entry}
use Rattle.stream_model.specs.declared.calls.Shape.{Shape}
use Rattle.stream_model.specs.declared.replies.Reply.{Reply}
use Rattle.stream_model.specs.declared.replies.Reply.TheVariants as reply
use Rattle.stream_registry.specs.Gates.{told}
use Rattle.stream_registry.specs.Pasts.{Attempt}
use Rattle.stream_registry.specs.Refusals.{IsFull}
use Rattle.stream_registry.specs.Told.{Step, Keeps}
use Rattle.relay_serve.specs.declared.counting.Counts.{Counts}

-- the server's own Count
abbrev pub counting : Entry
counting = record { who = 2 ^ 62; at = 0; call = call.Count }

abbrev pub told_by : Counts → Reply
told_by c = reply.Counts c.began c.pushed c.ended c.joined c.skips

-- A HISTORY THAT ENDS WITH THE COUNT, answered so: each reply is the one that the rules give after the calls before it
pub record EndsWith (limits : Shape) (c : Counts) (history : List Step) : Type 0 where
  pub before : List Step
  pub last : history ≡ before ++ (counting, told_by c) ∷ []
  pub keeps : Keeps limits history

-- a stream is counted, and what it was asked ends so; or its history is full
abbrev pub EndsIf : Shape → Option Counts → List Attempt → Type 0
EndsIf limits None attempts = IsFull limits attempts
EndsIf limits (Some c) attempts = EndsWith limits c (told attempts)

-- the report has no counts of the stream at that place, but says that its history is full
abbrev pub IsWorn : List (Option Counts) → ℕ → Type 0
IsWorn counts place = slice_get counts place ≡ Some None

-- each stream at these places is counted last, or its history is full
abbrev pub AllEnd : (ℕ → Shape) → List (Option Counts) → (ℕ → List Attempt) → Type 0
AllEnd limits counts attempts = (place : ℕ) (o : Option Counts) → slice_get counts place ≡ Some o → EndsIf (limits place) o (attempts place)
