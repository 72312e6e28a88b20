-- Ports that were made together
use Rattle.std.proofs.Common.{◌≡◌, ℕ, List, slice_get}
use Rattle.std.specs.Prelude.{All}
use Rattle.std.proofs.lemmas.List.Elements.{All-weaker}
use Rattle.stream_model.specs.declared.calls.StreamLimits.{StreamLimits}
use Rattle.stream_registry.specs.declared.names.Name.{Name}
use Rattle.stream_registry.specs.declared.names.OpenName.{OpenName}
use Rattle.stream_registry.specs.Names.{PortRules}
use Rattle.stream_registry.specs.SharedState.{Streams, IsNewPort, AreNewPorts, limits_of, shared_rules}

-- new ports have the same of what never changes
pub alike : (names : List Name) (opens : List OpenName) (limits : StreamLimits) (count : ℕ) (ports : List Streams) → AreNewPorts names opens limits count ports → (r : PortRules) × All (λ s. shared_rules s ≡ r) ports
alike names opens limits count ports n =
    let r : PortRules = record { names = names; opens = opens; limits = λ place. limits_of (slice_get n.ids place); gates = n.ids } in
    (r, All-weaker (IsNewPort names opens n.ids) (λ s. shared_rules s ≡ r) (λ s p i. record { names = p.names_are i; opens = p.opens_are i; limits = λ place. limits_of (slice_get (p.gates_are i) place); gates = p.gates_are i }) ports n.each)
