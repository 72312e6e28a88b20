-- The number with which a caller's Join was answered
use Rattle.std.specs.Prelude.{ℕ, List, [], ◌∷◌, Option, Some, None}
use Rattle.std.specs.Option.{option_or}
use Rattle.std.specs.declared.result.Result.{Result}
use Rattle.std.specs.declared.result.Result.TheVariants.{Ok, Err}
use Rattle.stream_model.specs.declared.calls.Call.{Call}
use Rattle.stream_model.specs.declared.calls.Call.TheVariants.{Join}
use Rattle.stream_model.specs.declared.replies.Reply.{Reply}
use Rattle.stream_model.specs.declared.replies.Reply.TheVariants.{Joined}
use Rattle.stream_registry.specs.declared.port.PortFail.{PortFail}
use Rattle.stream_registry.specs.Told.{Step}

abbrev pub from_in : Reply → Option ℕ
from_in (Joined place from) = Some from
from_in _ = None

abbrev pub from_answered : Result Reply PortFail → Option ℕ
from_answered (Ok r) = from_in r
from_answered (Err e) = None

-- the number in the answer to the call, if it was a Join and was answered Joined
abbrev pub from_at : Call → Reply → Option ℕ
from_at Join r = from_in r
from_at _ r = None

-- WHERE WHAT A CALLER IS SENT BEGINS: the number of the item from which the first of these calls joined that
-- did, the oldest call first
abbrev pub joined_from : List Step → Option ℕ
joined_from [] = None
joined_from (step ∷ later) = option_or (from_at step.0.call step.1) (joined_from later)
