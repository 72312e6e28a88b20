-- What the answer of a turn says
use Rattle.std.specs.Prelude.{◌≡◌, ℕ, ◌≤◌, List, [], ◌∷◌, ◌++◌, length, Some, None}
use Rattle.stream_model.specs.declared.calls.Call.TheVariants.{Take}
use Rattle.stream_model.specs.declared.replies.Reply.TheVariants.{NotYet}
use Rattle.stream_registry.specs.Told.{Step, Rose}
use Rattle.media_recorder.specs.declared.turn.RecTurn.{RecTurn}
use Rattle.media_recorder.specs.declared.turn.RecTurn.TheVariants.{Moved, Idle, Busy, Ended}
use Rattle.media_recorder.specs.Ports.{mine_of}
use Rattle.media_recorder.specs.Seats.{entry_of}
use Rattle.media_recorder.specs.Turns.{RecorderState, all}

-- nothing is pending, and the last call was a Take that came after all that the root had seen and was answered NotYet
pub record Rests {Q : Type 0} (mine : Q → List ℕ) (root : List Step) (r : RecorderState Q) : Type 0 where
  pub drained : r.tape.pending ≡ []
  pub earlier : List Step
  pub player : ℕ
  pub last : ℕ
  pub calls_are : r.seat.calls ≡ earlier ++ (entry_of r.seat.who (Take player all), NotYet last) ∷ []
  pub numbers : List ℕ
  pub number : ℕ
  pub mine_are : mine_of mine r.seat.pass ≡ numbers ++ number ∷ []
  pub after_all : length root ≤ number

module _ {Q : Type 0} (mine : Q → List ℕ) (root : List Step) (busies busies' : ℕ) where
  -- a recorder that hasn't ended has no end, one that has ended keeps it; Busy comes only where busies rose
  abbrev pub Says : RecTurn → RecorderState Q → Type 0
  Says Moved r = r.end ≡ None
  Says Idle r = (r.end ≡ None) × Rests mine root r
  Says Busy r = (r.end ≡ None) × Rose busies busies'
  Says (Ended e) r = r.end ≡ Some e
