use Rattle.std.proofs.Common.{◌≡◌, ◌≢◌, ℕ, Some, slice_get}
use Rattle.turn_gate.specs.Histories.{Begins}
use Rattle.stream_registry.specs.Gates.{told_at}
use Rattle.stream_registry.specs.Roots.{gates, seen_at}
use Rattle.stream_registry.specs.SharedState.{shared_rules}
use Rattle.relay_serve.proofs.counting.count_one.Given as goal

abbrev pub invariant-loop : goal.invariant-loop
invariant-loop g l = record {
  more : (goal.iterator-loop g).can_next l.iterator';
  finite : (goal.iterator-loop g).is_finite l.iterator';
  fits : slice_get (gates l.port.roots) l.place ≡ Some l.pass.gate;
  rules : shared_rules l.port ≡ shared_rules l.fn.port;
  grown : Begins (told_at l.fn.port.roots l.place) (told_at l.port.roots l.place);
  attempts : Begins (seen_at l.port.roots l.place) l.pass.seen;
  others : (q : ℕ) → q ≢ l.place → seen_at l.port.roots q ≡ seen_at l.fn.port.roots q;
}
