use Rattle.std.specs.Prelude.{◌≡◌, None, length}
use Rattle.relay_edge.specs.Forwarding.{who_asks_behind}
use Rattle.relay_edge.proofs.forwarded.who_asks.Given as goal

-- behind the proxies so far, what is left tells the same as all words
abbrev pub invariant-loop-left : goal.invariant-loop-left
invariant-loop-left l = who_asks_behind l.proxy l.left ≡ who_asks_behind None l.words

abbrev pub decreases-loop-left : goal.decreases-loop-left
decreases-loop-left l = length l.left
