-- Which past a gate's history is, where the gate's machine is a stream or a pool. The history has each call
-- with its reply or want of memory, the oldest first. The past leaves out the calls that memory refused, and
-- is newest first.
use Rattle.std.specs.Prelude.{◌≡◌, List, [], ◌∷◌, ◌++◌}
use Rattle.std.specs.List.{fold}
use Rattle.std.specs.declared.result.Result.{Result}
use Rattle.std.specs.declared.result.Result.TheVariants.{Ok, Err}
use Rattle.av_unit.specs.declared.bytes.OutOfMemory.{OutOfMemory}
use Rattle.stream_model.specs.declared.calls.Shape.{Shape}
use Rattle.stream_model.specs.declared.calls.Entry.{Entry}
use Rattle.stream_model.specs.declared.replies.Reply.{Reply}
use Rattle.stream_model.specs.Answer.{IsSent}
use Rattle.stream_model.specs.History.{History}
use Rattle.stream_model.specs.Shape.{TableKnown, shape_reply, IsShapeLawful}

-- a call at a gate
abbrev pub Attempt : Type 0
Attempt = Entry × Result Reply OutOfMemory

-- one call more, unless memory refused it
abbrev pub past_after : History → Entry → Result Reply OutOfMemory → History
past_after past entry (Ok r) = (entry, r) ∷ past
past_after past entry (Err e) = past

-- the calls that were answered, the newest first
abbrev pub past_of : List Attempt → History
past_of h = fold (λ past step. past_after past step.0 step.1) [] h

-- each call that memory refused was one that the rules answer with an item, after the calls before it and this past
abbrev pub AreWants : Shape → History → List Attempt → Type 0
AreWants limits past [] = Unit {0}
AreWants limits past ((entry, Ok r) ∷ h) = AreWants limits ((entry, r) ∷ past) h
AreWants limits past ((entry, Err e) ∷ h) = IsSent (shape_reply limits past entry) × AreWants limits past h

-- the calls that memory didn't refuse were answered by the rules of these limits, and the others wanted
-- memory for an item
abbrev pub IsLawfulAt : Shape → List Attempt → Type 0
IsLawfulAt limits h = IsShapeLawful limits (past_of h) × AreWants limits [] h

-- the stream or the pool has had these calls, and they are lawful
abbrev pub Stands : TableKnown → List Attempt → Type 0
Stands known h = (known.past ≡ past_of h) × IsLawfulAt known.shape h

-- the first past goes on to the second
abbrev pub GoesOn : History → History → Type 0
GoesOn past later = (newer : History) × (newer ++ past ≡ later)
