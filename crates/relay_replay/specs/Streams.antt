-- What the streams of a replay say of a call
use Rattle.std.specs.Prelude.{◌≡◌, ℕ, List, [], ◌++◌, length}
use Rattle.stream_model.specs.declared.calls.Entry.{Entry}
use Rattle.stream_registry.specs.Books.{SoleState, SeenState, FitsSole, journal_at, sole_rules}
use Rattle.stream_registry.specs.Splits.{Kin}
use Rattle.stream_registry.specs.Told.{Step}
use Rattle.turn_gate.specs.declared.view.Branch.{Branch}
use Rattle.relay_session.specs.Places.{AskedAlone}
use Rattle.relay_session.specs.SeatState.{SeatState}
use Rattle.relay_session.specs.declared.seat_answers.Made.{Made}

-- calls are put behind what was there, and no other is
abbrev pub SoleAdds : List Step → List Step → List Step → Type 0
SoleAdds = λ (h steps i : List Step). i ≡ h ++ steps

-- no pass is split off
abbrev pub no_kin : SoleState → Kin
no_kin = λ (port : SoleState) (q : ℕ). []

abbrev pub no_branches : SeenState → List Branch
no_branches = λ (p : SeenState). []

-- one call of a session, a player over HTTP or an edge at these streams, and no other
abbrev pub SoleAsks : SoleState → SeatState SeenState → ℕ → Entry → Made → SoleState → SeatState SeenState → Type 0
SoleAsks = AskedAlone FitsSole (λ (s : SoleState). sole_rules s.rules) (λ s. journal_at s.books) (λ (p : SeenState). p.seen) (λ p. length p.seen)
    (λ (_ : Entry). Unit {0}) (λ _. 0)
    SoleAdds no_kin no_branches
