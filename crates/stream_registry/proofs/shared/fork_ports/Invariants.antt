use Rattle.std.proofs.Common.{◌≡◌, ℕ, All, vec_len}
use Rattle.stream_registry.specs.Roots.{kin_at}
use Rattle.stream_registry.specs.Splits.{cut_times}
use Rattle.stream_registry.specs.SharedState.{IsAsBefore, IsFork}
use Rattle.stream_registry.proofs.shared.fork_ports.Given as goal

abbrev pub invariant-loop : goal.invariant-loop
invariant-loop l = record {
  same : IsAsBefore l.initial.first l.first;
  each : All (IsFork l.initial.first) l.list.items;
  count : vec_len l.list ≡ l.counter;
  kin : (q : ℕ) → kin_at l.first.roots q ≡ cut_times l.counter (kin_at l.initial.first.roots q);
}
