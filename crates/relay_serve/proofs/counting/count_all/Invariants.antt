use Rattle.std.proofs.Common.{◌≡◌, ◌<◌, ℕ, length}
use Rattle.std.specs.Prelude.{Contains}
use Rattle.stream_registry.specs.Gates.{told_at}
use Rattle.stream_registry.specs.Roots.{Later, seen_at}
use Rattle.stream_registry.specs.SharedState.{shared_rules}
use Rattle.relay_serve.specs.Lasts.{AllEnd, IsWorn}
use Rattle.relay_serve.proofs.counting.count_all.Given as goal

abbrev pub invariant-loop-place : goal.invariant-loop-place
invariant-loop-place g l = record {
  each : length l.list.items ≡ l.place;
  rules : shared_rules l.port ≡ shared_rules l.fn.port;
  last : AllEnd (shared_rules l.fn.port).limits l.list.items (seen_at l.port.roots);
  worn : (q : ℕ) → q < length l.list.items → Contains l.full q → IsWorn l.list.items q;
  grown : Later (told_at l.fn.port.roots) (told_at l.port.roots);
}
