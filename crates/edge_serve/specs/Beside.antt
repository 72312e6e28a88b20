-- Only proofs and private functions use it.
-- The workers of a server that run beside an edge
use Rattle.std.specs.Prelude.{◌≡◌, ◌≤◌, ℕ, List, length, is_some, All, IfSome, Option}
use Rattle.http_worker.specs.Benches.{WorkerState as HttpState}
use Rattle.http_worker.specs.Running.{HasRun as HasRunHttp}
use Rattle.relay_config.specs.declared.config.Config.{Config}
use Rattle.relay_outside.specs.Doors.{DoorTold}
use Rattle.relay_outside.specs.Told.{LinkCounts, LinkTold}
use Rattle.relay_serve.specs.Http.{IsServingHttp}
use Rattle.relay_serve.specs.Places.{HasPlaces, places_in}
use Rattle.relay_serve.specs.Settling.{IsServing}
use Rattle.relay_serve.specs.Starts.{AreReady, HasRules}
use Rattle.relay_worker.specs.Benches.{WorkerState}
use Rattle.relay_worker.specs.Running.{EachAt, HasRun}
use Rattle.stream_registry.specs.Names.{PortRules}
use Rattle.stream_registry.specs.Pasts.{Attempt}
use Rattle.stream_registry.specs.SharedState.{Streams}
use Rattle.stream_registry.specs.declared.place_table.Site.{Site}
use Rattle.turn_gate.specs.Known.{PassKnown}

module _ {D K L : Type 0} (config : Config) (links : L → Option LinkTold) (counts : L → LinkCounts) (doors : D → DoorTold)
    (holds : K → Option (List ℕ)) (faults : K → ℕ) (rules : PortRules) where
  -- workers of the server, with ports by these rules
  pub record AreServing (workers : List (WorkerState Streams D K (PassKnown Site Attempt) L))
      (http : Option (HttpState Streams D (PassKnown Site Attempt) L)) : Type 0 where
    pub rules_are : All (λ x. HasRules rules x.bench.port) workers
    pub serving : EachAt (IsServing config links counts doors holds faults) workers
    pub http_rules : IfSome http (λ w. HasRules rules w.bench.port)
    pub http_serving : IfSome http (IsServingHttp config links counts doors)

  -- they can run: all recorders have joined their streams
  pub record CanRun (workers : List (WorkerState Streams D K (PassKnown Site Attempt) L))
      (http : Option (HttpState Streams D (PassKnown Site Attempt) L)) : Type 0 where
    pub total : places_in config ≤ 64
    pub places : HasPlaces config rules
    pub serving : AreServing workers http
    pub ready : All AreReady workers

  -- they have run: nobody lives at them any more
  pub record HaveRun (workers workers' : List (WorkerState Streams D K (PassKnown Site Attempt) L))
      (http http' : Option (HttpState Streams D (PassKnown Site Attempt) L)) : Type 0 where
    pub each : length workers' ≡ length workers
    pub there : is_some http' ≡ is_some http
    pub serving : AreServing workers' http'
    pub run : All (HasRun doors) workers'
    pub http_run : IfSome http' (HasRunHttp doors)
