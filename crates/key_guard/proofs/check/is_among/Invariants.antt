use Rattle.std.proofs.Common.{◌≡◌, ◌||◌, drop, nat_eq}
use Rattle.std.specs.List.{list_any}
use Rattle.std.specs.Cmp.Lexicographic.{pointwise}
use Rattle.key_guard.proofs.check.is_among.Given as goal

abbrev pub invariant-loop-key : goal.invariant-loop-key
invariant-loop-key l = (l.found || list_any (pointwise nat_eq l.asked) (drop l.key-index l.keys)) ≡ list_any (pointwise nat_eq l.asked) l.keys
