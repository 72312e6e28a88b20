-- A gate's history has at least as many calls as its past
use Rattle.std.proofs.Common.{◌+◌, ◌≤◌, List, [], ◌∷◌, length, arith}
use Rattle.std.specs.List.{fold}
use Rattle.std.specs.declared.result.Result.{Result}
use Rattle.std.specs.declared.result.Result.TheVariants.{Ok, Err}
use Rattle.av_unit.specs.declared.bytes.OutOfMemory.{OutOfMemory}
use Rattle.stream_model.specs.declared.calls.Entry.{Entry}
use Rattle.stream_model.specs.declared.replies.Reply.{Reply}
use Rattle.stream_model.specs.History.{History}
use Rattle.stream_registry.specs.Pasts.{Attempt, past_after, past_of}

one_more : (past : History) (e : Entry) (r : Result Reply OutOfMemory) → length (past_after past e r) ≤ length past + 1
one_more past e (Ok r) = omega arith
one_more past e (Err x) = omega arith

folded : (past : History) (h : List Attempt) → length (fold (λ p step. past_after p step.0 step.1) past h) ≤ length past + length h
folded past [] = omega arith
folded past (s ∷ h) = omega (arith, one_more past s.0 s.1, folded (past_after past s.0 s.1) h)

pub few_answered : (h : List Attempt) → length (past_of h) ≤ length h
few_answered h = omega (arith, folded [] h)
