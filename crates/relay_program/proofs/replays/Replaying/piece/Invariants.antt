use Rattle.std.proofs.Common.{◌≡◌, ◌+◌, ◌++◌, List, ℕ, length}
use Rattle.relay_program.specs.ReplayParts.{Fit, Advances}
use Rattle.relay_program.proofs.replays.Replaying.piece.Given as goal

abbrev pub invariant-loop-feed : goal.invariant-loop-feed
invariant-loop-feed g l = record {
  fit : Fit l.self;
  place : l.self.place + length l.left ≡ l.fn.self.place + length l.fn.piece;
  goes : (rest : List ℕ) → Advances l.fn.self (l.fn.piece ++ rest) l.self (l.left ++ rest);
}

abbrev pub decreases-loop-feed : goal.decreases-loop-feed
decreases-loop-feed g l = length l.left
