-- Ports and recorders by the rules of a port, which no call changes
use Rattle.std.specs.Prelude.{◌≡◌, ℕ, ◌<◌, All, List, Option, length, slice_get, Some, true}
use Rattle.turn_gate.specs.Known.{PassKnown}
use Rattle.media_recorder.specs.Ports.{FitsIf}
use Rattle.stream_registry.specs.Names.{PortRules}
use Rattle.stream_registry.specs.Pasts.{Attempt}
use Rattle.stream_registry.specs.SharedState.{Streams, shared_rules}
use Rattle.stream_registry.specs.declared.place_table.Site.{Site}
use Rattle.relay_worker.specs.declared.recorder.Recorder.{Recorder}
use Rattle.relay_worker.specs.Benches.{WorkerState}
use Rattle.relay_worker.specs.Filed.{Tallies, is_ready, state_of}

-- a port with these rules
abbrev pub HasRules : PortRules → Streams → Type 0
HasRules rules port = shared_rules port ≡ rules

-- a recorder at a place of the ports with these rules, with a pass of theirs, if it has one
pub record IsFiledBy {K : Type 0} (rules : PortRules) (r : Recorder Streams K (PassKnown Site Attempt)) : Type 0 where
  pub there : (state_of r).seat.place < length rules.names
  pub fit : FitsIf (λ p. slice_get rules.gates (state_of r).seat.place ≡ Some p.gate) (state_of r).seat.pass

-- a recorder with its tally, by the calls that its pass has seen
abbrev pub HasTally : {K : Type 0} → (K → Option (List ℕ)) → (K → ℕ) → Recorder Streams K (PassKnown Site Attempt) → Type 0
HasTally holds faults r = Tallies (λ p. length p.seen) holds faults r

-- all recorders of a worker have joined their streams, or have ended
abbrev pub AreReady : {D K L : Type 0} → WorkerState Streams D K (PassKnown Site Attempt) L → Type 0
AreReady w = All (λ r. is_ready r ≡ true) w.recorders
