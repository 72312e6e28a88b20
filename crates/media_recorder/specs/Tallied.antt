-- A recorder and what its file tells
use Rattle.std.specs.Prelude.{◌≡◌, ◌≢◌, ℕ, ◌^◌, List, [], ◌∷◌, ◌++◌, Option, Some, None}
use Rattle.stream_model.specs.declared.calls.Call.TheVariants as call
use Rattle.stream_model.specs.declared.replies.Reply.TheVariants as reply
use Rattle.stream_registry.specs.Told.{Step}
use Rattle.media_recorder.specs.declared.turn.RecEnd.TheVariants.{SinkFault, Full, Worn}
use Rattle.media_recorder.specs.Seats.{entry_of}
use Rattle.media_recorder.specs.Taken.{taken}
use Rattle.media_recorder.specs.Turns.{RecorderState}

-- A CALLER THAT FOUND NO PLACE: its last call was its Join, which was answered so, and its Takes were sent nothing
pub record IsTurnedAway (who : ℕ) (calls : List Step) : Type 0 where
  pub earlier : List Step
  pub calls_are : calls ≡ earlier ++ (entry_of who call.Join, reply.Full) ∷ []
  pub nothing : taken calls ≡ []

-- there is a pass that has seen so many calls, those that were refused for memory as well
abbrev pub HasSeen : {Q : Type 0} → (Q → ℕ) → ℕ → Option Q → Type 0
HasSeen count n None = ⊥
HasSeen count n (Some p) = count p ≡ n

-- WHAT A FILE HOLDS, where it tells that, is what the recorder sent to it. One that ended by a fault of its
-- file has a file with faults; one that ended as all places were taken was turned away; one that ended as the
-- history was full has a pass that has seen all the calls that a history can have
pub record Tallied {Q : Type 0} (count : Q → ℕ) (held : Option (List ℕ)) (faults : ℕ) (r : RecorderState Q) : Type 0 where
  pub told : (bytes : List ℕ) → held ≡ Some bytes → bytes ≡ r.tape.sent
  pub blamed : r.end ≡ Some SinkFault → faults ≢ 0
  -- one that hasn't joined has taken nothing
  pub unjoined : r.player ≡ None → taken r.seat.calls ≡ []
  pub full : r.end ≡ Some Full → (r.player ≡ None) × IsTurnedAway r.seat.who r.seat.calls
  pub worn : r.end ≡ Some Worn → HasSeen count (2 ^ 62) r.seat.pass
