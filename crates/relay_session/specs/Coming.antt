-- A call that waits has come to its place
use Rattle.std.specs.Prelude.{◌≡◌, ℕ, Option, Some, None}
use Rattle.stream_model.specs.declared.calls.Entry.{Entry}
use Rattle.relay_session.specs.SeatState.{SeatState, place_of}
use Rattle.relay_session.specs.declared.core_fields.Core.{Core}

-- where a call waits, the session's calls have a place, and its pass is there
abbrev pub ComesTo : Option Entry → Option ℕ → Option ℕ → Type 0
ComesTo None place at = Unit {0}
ComesTo (Some e) place at = (p : ℕ) × (place ≡ Some p) × (at ≡ Some p)

abbrev pub HasCome : {Q : Type 0} → Core → SeatState Q → Type 0
HasCome c s = ComesTo c.kept c.place (place_of s.spot)
