use Rattle.std.proofs.Common.{◌≡◌, length, map}
use Rattle.relay_outside.specs.Pieces.{nonempty_from, cut_first}
use Rattle.relay_outside.proofs.pieces.drop_used.Given as goal

abbrev pub invariant-loop-piece : goal.invariant-loop-piece
invariant-loop-piece l = nonempty_from (cut_first l.used (map (λ v. v.items) l.queue.items))
    ≡ nonempty_from (cut_first l.fn.used (map (λ v. v.items) l.fn.queue.items))

abbrev pub decreases-loop-piece : goal.decreases-loop-piece
decreases-loop-piece l = length l.queue.items
