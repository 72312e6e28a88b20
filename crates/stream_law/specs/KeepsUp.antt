-- What it means that a player keeps up with an item.
use Rattle.std.specs.Prelude.{◌≡◌, ℕ, true, false}
use Rattle.stream_model.specs.declared.calls.StreamLimits.{StreamLimits}
use Rattle.stream_model.specs.declared.replies.Taken.{Taken}
use Rattle.stream_model.specs.declared.replies.Taken.TheVariants.{Sent, Skip, NotYet}
use Rattle.stream_model.specs.Window.{lags}
use Rattle.stream_model.specs.Legal.{Turn, IsBetween}

abbrev pub SkipsOver : ℕ → Taken → Type 0
SkipsOver n (Skip from to) = IsBetween from n to
SkipsOver n (Sent from m x) = ⊥
SkipsOver n (NotYet end) = ⊥

-- At this Take it wanted pictures, and didn't lag at item n, nor did the window pass its cursor there.
pub record KeepsUp (limits : StreamLimits) (n : ℕ) (turn : Turn) : Type 0 where
  pub pictures : turn.want.video ≡ true
  pub near : lags limits turn.items n ≡ false
  pub unskipped : SkipsOver n turn.answer → ⊥
