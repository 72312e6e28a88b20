-- The calls of a session at the streams, and how they stand in the streams' histories
use Rattle.std.specs.Prelude.{◌≡◌, ◌⊎◌, ℕ, if◌then◌else◌, nat_eq, List, [], ◌∷◌, reverse, map}
use Rattle.stream_model.specs.declared.calls.Shape.{Shape}
use Rattle.stream_model.specs.Shape.{shape_reply}
use Rattle.stream_model.specs.History.{History}
use Rattle.stream_registry.specs.Told.{Step, Histories}

-- a call at a place, with its reply
abbrev pub Visit : Type 0
Visit = ℕ × Step

-- the calls at this place
abbrev pub calls_at : ℕ → List Visit → List Step
calls_at place [] = []
calls_at place (v ∷ vs) = if nat_eq v.0 place then v.1 ∷ calls_at place vs else calls_at place vs

-- all calls, the oldest first, of visits that stand the newest first
abbrev pub calls_of : List Visit → List Step
calls_of visits = reverse (map (λ v. v.1) visits)

-- these calls, the newest first, stand in a past, the newest first, in their order and each once, and each was answered
-- as the rules say after those before it
abbrev pub StandIn : Shape → List Step → History → Type 0
StandIn limits [] past = Unit {0}
StandIn limits (m ∷ ms) [] = ⊥
StandIn limits (m ∷ ms) (s ∷ past) = ((m ≡ s) × (m.1 ≡ shape_reply limits past m.0) × StandIn limits ms past) ⊎ StandIn limits (m ∷ ms) past

-- the same of a history, the oldest first
abbrev pub Stand : Shape → List Step → List Step → Type 0
Stand limits calls history = StandIn limits calls (reverse history)

-- the visits of each place stand in the history there
pub record AllStand (limits : ℕ → Shape) (histories : Histories) (visits : List Visit) : Type 0 where
  pub at_each : (q : ℕ) → Stand (limits q) (calls_at q visits) (histories q)
