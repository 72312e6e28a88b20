use Rattle.std.proofs.Common.{◌∙◌, ◌<◌, length}
use Rattle.relay_outside.proofs.PieceLemmas.{cut_first-nonempty}
use Rattle.relay_outside.proofs.pieces.drop_used.Goals as goal

pub returns-then-used-len-clause-same : goal.returns-then-used-len-clause-same
returns-then-used-len-clause-same c =
    let piece = c.in-Some.piece.now in
    let first = c.in-Some.ensures in
    let less : c.loop-piece.used < length piece.items = rw (c.len.ensures ∙ piece.ok.0) at c.if-used-len.true in
    cut_first-nonempty (λ v. v.items) c.loop-piece.queue.items c.loop-piece.used piece first.item.3.0 first.lookup less ∙ c.loop-piece.invariant
