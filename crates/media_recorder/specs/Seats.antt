-- A caller at one place, and what each of its calls says
use Rattle.std.specs.Prelude.{◌≡◌, ℕ, List, [], ◌∷◌, ◌++◌, Option, Some, None, IfOk, IfErr}
use Rattle.std.specs.declared.result.Result.{Result}
use Rattle.std.specs.declared.result.Result.TheVariants.{Ok, Err}
use Rattle.stream_model.specs.declared.calls.Shape.{Shape}
use Rattle.stream_model.specs.declared.calls.Call.{Call}
use Rattle.stream_model.specs.declared.calls.Entry.{Entry}
use Rattle.stream_model.specs.declared.replies.Reply.{Reply}
use Rattle.turn_gate.specs.Histories.{Begins}
use Rattle.stream_registry.specs.declared.port.PortFail.{PortFail}
use Rattle.stream_registry.specs.Told.{Step}
use Rattle.stream_registry.specs.Placed.{Placed, Failed, TriedOnce}
use Rattle.media_recorder.specs.Calls.{Stand}
use Rattle.media_recorder.specs.Ports.{seen_of, mine_of}

pub record SeatState (Q : Type 0) : Type 0 where
  pub who : ℕ
  pub place : ℕ
  -- none before the first call
  pub pass : Option Q
  -- its calls with their replies, the oldest first
  pub calls : List Step

-- the call as a caller makes it that is fed nothing
abbrev pub entry_of : ℕ → Call → Entry
entry_of who call = record { who = who; at = 0; call = call }

-- one call more, if it was made
abbrev pub calls_after : List Step → Entry → Result Reply PortFail → List Step
calls_after calls entry (Ok r) = calls ++ (entry, r) ∷ []
calls_after calls entry (Err e) = calls

module _ {Q : Type 0} (limits : Q → Shape) (seen : Q → List Step) (mine : Q → List ℕ) where
  -- its calls stand in what its pass has seen
  abbrev pub StandIf : ℕ → Option Q → List Step → Type 0
  StandIf who None calls = calls ≡ []
  StandIf who (Some p) calls = Stand (limits p) who (seen p) (mine p) calls

-- one call: it was answered after all that the root and the pass had seen, or it wasn't made
pub record Asked {Q : Type 0} (seen : Q → List Step) (mine : Q → List ℕ) (count : Q → ℕ)
    (limits : Shape) (root : List Step) (busies busies' : ℕ)
    (entry : Entry) (before : Option Q) (answer : Result Reply PortFail) (after : Q) : Type 0 where
  pub later : Begins (seen_of seen root before) (seen after)
  pub made : IfOk answer (λ r. Placed limits root (seen_of seen root before) (mine_of mine before) (entry, r) (seen after) (mine after))
  pub failed : IfErr answer (λ e. Failed entry busies busies' (count after) e)
  pub once : TriedOnce busies busies' answer
  pub unmade : IfErr answer (λ _. mine after ≡ mine_of mine before)

module _ {Q : Type 0} (seen : Q → List Step) (mine : Q → List ℕ) (count : Q → ℕ) where
  abbrev pub AskedIf : Shape → List Step → ℕ → ℕ → Entry → Option Q → Result Reply PortFail → Option Q → Type 0
  AskedIf limits root busies busies' entry before answer None = ⊥
  AskedIf limits root busies busies' entry before answer (Some p) = Asked seen mine count limits root busies busies' entry before answer p

  -- ONE CALL of a caller. Its pass is attached before the first
  pub record Asks (limits : Shape) (root : List Step) (busies busies' : ℕ)
      (s : SeatState Q) (call : Call) (answer : Result Reply PortFail) (s' : SeatState Q) : Type 0 where
    pub who : s'.who ≡ s.who
    pub place : s'.place ≡ s.place
    pub calls : s'.calls ≡ calls_after s.calls (entry_of s.who call) answer
    pub asked : AskedIf limits root busies busies' (entry_of s.who call) s.pass answer s'.pass
