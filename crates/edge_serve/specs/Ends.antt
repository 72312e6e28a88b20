-- How `edge` ends
use Rattle.std.specs.Prelude.{◌≡◌, ◌≢◌, ℕ, List, Option, Some, is_some}
use Rattle.std.specs.Io.KnownBytes.{append_known}
use Rattle.client_owed.specs.declared.types.Asked.{Asked}
use Rattle.origin_pull.specs.declared.end.EdgeEnd.{EdgeEnd}
use Rattle.origin_pull.specs.declared.end.EdgeEnd.TheVariants as edge
use Rattle.relay_base.specs.declared.limits.Status.{Status}
use Rattle.relay_config.specs.Accepts.{Accepts}
use Rattle.relay_config.specs.declared.config.Config.{Config}
use Rattle.relay_outside.specs.Counts.{Rose}
use Rattle.relay_serve.specs.Ends.{EndsAs, Outer, Reports, RunsAs, Seen, code_of}
use Rattle.relay_serve.specs.Places.{AreShaped}
use Rattle.relay_serve.specs.Taking.{TakesText}
use Rattle.relay_serve.specs.declared.serving.Ending.{Ending}
use Rattle.relay_serve.specs.declared.serving.Ending.TheVariants as end
use Rattle.rtmp_client.specs.declared.end.ClientEnd.{ClientEnd}
use Rattle.stream_model.specs.declared.calls.Shape.{Shape}
use Rattle.stream_registry.specs.Gates.{tells}
use Rattle.stream_registry.specs.Pasts.{Attempt}
use Rattle.stream_registry.specs.Refusals.{IsFull}
use Rattle.edge_serve.specs.Line.{edge_line}
use Rattle.edge_serve.specs.Pulls.{HasPlayed, HasPulled, Origin, edge_name, edge_place}

-- WHAT IS SEEN WHERE ALL WERE SERVED, by what each place was asked to the end: what `serve` reports, and
-- behind it the line of the edge, how that has pulled, and why it has ended
pub record ReportsBoth (k : Asked) (config : Config) (attempts : ℕ → List Attempt) (old new : Seen) (o o' : Origin) : Type 0 where
  -- what is seen before the line is written
  pub mid : Seen
  pub served : Reports config attempts old mid
  -- why the edge has ended, and why its client has
  pub ended : EdgeEnd
  pub client : Option ClientEnd
  pub written : new ≡ record mid { held = append_known mid.held (edge_line ended client) }
  -- what stands at each place
  pub shapes : ℕ → Shape
  pub shaped : AreShaped config shapes
  pub pulled : HasPulled k config.limits.max_message edge_name edge_place shapes (tells attempts) ended client o o'
  -- it had memory, and ended as a history was full only where that of its place is
  pub spared : ended ≢ edge.OutOfMemory
  pub full : ended ≡ edge.Worn → IsFull (shapes edge_place) (attempts edge_place)

-- HOW A CONFIGURATION THAT IS ACCEPTED IS SERVED beside an edge. Where the report couldn't be written the
-- stream was played over the link all the same, and where nobody could be served the link wasn't used
abbrev pub RunsBoth : Asked → Config → (ℕ → List Attempt) → Seen → Seen → Origin → Origin → Ending → Type 0
RunsBoth k config attempts old new o o' end.Served =
    ReportsBoth k config attempts old new o o' × (new.sink_faults ≡ old.sink_faults) × (new.house.faults ≡ old.house.faults)
RunsBoth k config attempts old new o o' end.SinkFault = RunsAs config attempts old new end.SinkFault × HasPlayed k config.limits.max_message o o'
RunsBoth k config attempts old new o o' end.HouseFault = RunsAs config attempts old new end.HouseFault × (o' ≡ o)
RunsBoth k config attempts old new o o' end.OutOfMemory = RunsAs config attempts old new end.OutOfMemory
RunsBoth k config attempts old new o o' end.BadWords = ⊥
RunsBoth k config attempts old new o o' end.SourceFault = ⊥
RunsBoth k config attempts old new o o' end.Refused = ⊥

-- the stream that the words ask for is pulled: what was read is accepted, and served so
pub record AcceptedBoth (asked : Option Asked) (old new : Outer) (o o' : Origin) (ending : Ending) : Type 0 where
  pub stream : Asked
  pub asked_is : asked ≡ Some stream
  pub sound : new.source_faults ≡ old.source_faults
  pub bytes : List ℕ
  pub taken : TakesText old.left new.left bytes
  pub config : Config
  pub accepts : Accepts bytes config
  -- what each place was asked to the end
  pub attempts : ℕ → List Attempt
  pub runs : RunsBoth stream config attempts old.out new.out o o' ending

-- HOW `edge` ENDS, where the words ask for this: as `serve` does where nobody is served
abbrev pub BothEndAs : Option Asked → Outer → Outer → Origin → Origin → Ending → Type 0
BothEndAs asked old new o o' end.BadWords = EndsAs (is_some asked) old new end.BadWords × (o' ≡ o)
BothEndAs asked old new o o' end.SourceFault = EndsAs (is_some asked) old new end.SourceFault × (o' ≡ o)
BothEndAs asked old new o o' end.Refused = EndsAs (is_some asked) old new end.Refused × (o' ≡ o)
BothEndAs asked old new o o' end.OutOfMemory = EndsAs (is_some asked) old new end.OutOfMemory
BothEndAs asked old new o o' end.Served = AcceptedBoth asked old new o o' end.Served
BothEndAs asked old new o o' end.SinkFault = AcceptedBoth asked old new o o' end.SinkFault
BothEndAs asked old new o o' end.HouseFault = AcceptedBoth asked old new o o' end.HouseFault

-- what a status says
pub record ServesBoth (asked : Option Asked) (old new : Outer) (o o' : Origin) (status : Status) : Type 0 where
  pub ending : Ending
  pub status_is : status ≡ record { code = code_of ending; place = 0 }
  pub ends : BothEndAs asked old new o o' ending

-- ---- the line
-- Only proofs and private functions use what follows.

-- how it ends behind a report that is whole
abbrev pub LinesAs : EdgeEnd → List ℕ → Option (List ℕ) → ℕ → Option (List ℕ) → ℕ → Ending → Type 0
LinesAs e line held faults held' faults' end.Served = (e ≢ edge.OutOfMemory) × (held' ≡ append_known held line) × (faults' ≡ faults)
LinesAs e line held faults held' faults' end.SinkFault = Rose faults faults'
LinesAs e line held faults held' faults' end.OutOfMemory = faults' ≡ faults
LinesAs e line held faults held' faults' end.HouseFault = ⊥
LinesAs e line held faults held' faults' end.BadWords = ⊥
LinesAs e line held faults held' faults' end.SourceFault = ⊥
LinesAs e line held faults held' faults' end.Refused = ⊥

-- nothing is written behind another
abbrev pub TellsAs : Ending → EdgeEnd → List ℕ → Option (List ℕ) → ℕ → Option (List ℕ) → ℕ → Ending → Type 0
TellsAs end.Served e line held faults held' faults' ending = LinesAs e line held faults held' faults' ending
TellsAs before e line held faults held' faults' ending = (ending ≡ before) × (held' ≡ held) × (faults' ≡ faults)
