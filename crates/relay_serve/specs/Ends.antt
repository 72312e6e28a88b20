-- How `serve` ends
use Rattle.std.specs.Prelude.{◌≡◌, ◌≢◌, ◌⊎◌, ℕ, Bool, true, false, List, Option, Some, length}
use Rattle.std.specs.Io.KnownBytes.{append_known}
use Rattle.relay_base.specs.declared.limits.Status.{Status}
use Rattle.relay_config.specs.declared.config.Config.{Config}
use Rattle.relay_config.specs.declared.config.ConfigFail.{ConfigFail}
use Rattle.relay_config.specs.declared.config.ConfigFail.TheVariants as fail
use Rattle.relay_config.specs.Accepts.{Accepts, refusal}
use Rattle.relay_config.specs.Report.{report_text}
use Rattle.relay_outside.specs.Counts.{Rose}
use Rattle.relay_outside.specs.Houses.{Asked, HouseTold, Refuses}
use Rattle.relay_serve.specs.declared.reading.ReadFail.{ReadFail}
use Rattle.relay_serve.specs.declared.reading.ReadFail.TheVariants as read
use Rattle.relay_serve.specs.declared.starting.OpenFail.{OpenFail}
use Rattle.relay_serve.specs.declared.starting.OpenFail.TheVariants as opened
use Rattle.relay_serve.specs.declared.serving.Ending.{Ending}
use Rattle.relay_serve.specs.declared.serving.Ending.TheVariants as end
use Rattle.relay_serve.specs.Taking.{TakesText}
use Rattle.put_text.specs.Written.{WritesPart}
use Rattle.relay_serve.specs.Counts.{report_lines}
use Rattle.relay_serve.specs.Lasts.{AllEnd, IsWorn}
use Rattle.relay_serve.specs.Recorded.{IsRecorded}
use Rattle.relay_serve.specs.Recordings.{names_upto, recordings_upto, with_names}
use Rattle.relay_serve.specs.Http.{AsksAll, ShutAll}
use Rattle.relay_serve.specs.Settling.{TellsMore}
use Rattle.stream_model.specs.declared.calls.Shape.{Shape}
use Rattle.relay_serve.specs.Places.{AreShaped, places_in}
use Rattle.relay_serve.specs.declared.counting.Counts.{Counts}
use Rattle.stream_registry.specs.Gates.{tells}
use Rattle.stream_registry.specs.Pasts.{Attempt}
use Rattle.stream_registry.specs.Roots.{Later}
use Rattle.stream_registry.specs.Told.{Histories}

-- ---- why a part fails

abbrev pub SourceCause : ReadFail → ℕ → ℕ → Type 0
SourceCause read.SourceFault before now = Rose before now
SourceCause read.OutOfMemory before now = now ≡ before

abbrev pub HouseCause : OpenFail → HouseTold → HouseTold → Type 0
HouseCause opened.HouseFault before now = Refuses before now
HouseCause opened.OutOfMemory before now = now ≡ before

-- ---- the codes

-- what is seen of a report and a house: what the report holds, where it tells it, its faults, what the house
-- tells, how its doors were asked for, and under which names it gave files
pub record Seen : Type 0 where
  pub held : Option (List ℕ)
  pub sink_faults : ℕ
  pub house : HouseTold
  pub asked : Option (List Asked)
  pub named : Option (List (List ℕ))

abbrev pub seen : Option (List ℕ) → ℕ → HouseTold → Option (List Asked) → Option (List (List ℕ)) → Seen
seen held sink_faults house asked named = record { held = held; sink_faults = sink_faults; house = house; asked = asked; named = named }

-- and of the configuration's file: what is left of it, where it tells that, and its faults
pub record Outer : Type 0 where
  pub left : Option (List ℕ)
  pub source_faults : ℕ
  pub out : Seen

abbrev pub outer : Option (List ℕ) → ℕ → Seen → Outer
outer left source_faults out = record { left = left; source_faults = source_faults; out = out }

-- the line of a refused configuration is written, or a first part of it where the sink's faults rose
abbrev pub WritesOrFails : List ℕ → Option (List ℕ) → ℕ → Option (List ℕ) → ℕ → Type 0
WritesOrFails text held faults held' faults' = ((held' ≡ append_known held text) × (faults' ≡ faults))
    ⊎ (WritesPart text held held' × Rose faults faults')

-- WHAT IS SEEN WHERE ALL WERE SERVED, by what each stream and each open table was asked to the end, with what
-- memory refused: the report, the doors that were shut and the files that were kept
pub record Reports (config : Config) (attempts : ℕ → List Attempt) (old new : Seen) : Type 0 where
  pub counts : List (Option Counts)
  pub each : length counts ≡ places_in config
  pub written : new.held ≡ append_known old.held (report_lines (length config.places) counts)
  -- what stands at each place: a stream, or the pool of an open table
  pub streams : ℕ → Shape
  pub shaped : AreShaped config streams
  -- the line of a place tells what the last call of its history was answered: the server's own Count. Each
  -- reply of that history is the one that the rules give after the calls before it. Or the line tells that
  -- the history is full, and it is: the place was asked as often as it can count
  pub last : AllEnd streams counts attempts
  -- the histories once neither a session nor a player lived any more
  pub joined : Histories
  pub later : Later joined (tells attempts)
  -- each worker's door was asked for with the configured address and number of links, and then that of the
  -- HTTP players with theirs
  pub asked : AsksAll config config.workers old.asked new.asked
  -- the file of each recording was made under the configured name, and no other file was
  pub named : new.named ≡ with_names old.named (names_upto config config.workers)
  -- a session or a player ended as the history of its stream was full: only where the line of its place tells
  -- that its history is
  pub worn : Bool
  pub full : worn ≡ true → (place : ℕ) × IsWorn counts place
  -- each worker's door was shut, that of the HTTP players as the last, and what its links were sent is what
  -- they were owed
  pub shut : ShutAll config streams joined worn old.house.shut new.house.shut
  -- the file of each recording was kept, and holds what its recorder was sent
  pub kept : TellsMore (IsRecorded streams joined (tells attempts) (IsWorn counts) config.places) (recordings_upto config config.workers)
      old.house.kept new.house.kept

-- HOW A CONFIGURATION THAT IS ACCEPTED IS SERVED, by what each stream was asked to the end
abbrev pub RunsAs : Config → (ℕ → List Attempt) → Seen → Seen → Ending → Type 0
RunsAs config attempts old new end.Served = Reports config attempts old new × (new.sink_faults ≡ old.sink_faults)
    × (new.house.faults ≡ old.house.faults)
RunsAs config attempts old new end.SinkFault = Rose old.sink_faults new.sink_faults × (new.house.faults ≡ old.house.faults)
RunsAs config attempts old new end.HouseFault = Refuses old.house new.house × (new.held ≡ old.held)
    × (new.sink_faults ≡ old.sink_faults)
RunsAs config attempts old new end.OutOfMemory = (new.sink_faults ≡ old.sink_faults) × (new.house.faults ≡ old.house.faults)
RunsAs config attempts old new end.BadWords = ⊥
RunsAs config attempts old new end.SourceFault = ⊥
RunsAs config attempts old new end.Refused = ⊥

-- how it ends where nobody can be served
abbrev pub unopened_as : OpenFail → Ending
unopened_as opened.HouseFault = end.HouseFault
unopened_as opened.OutOfMemory = end.OutOfMemory

-- how a configuration that isn't is reported
abbrev pub RefusesAs : ConfigFail → Option (List ℕ) → ℕ → Option (List ℕ) → ℕ → Ending → Type 0
RefusesAs cause held faults held' faults' end.Refused = (cause ≢ fail.OutOfMemory) × WritesOrFails (report_text cause) held faults held' faults'
RefusesAs cause held faults held' faults' end.OutOfMemory = faults' ≡ faults
RefusesAs cause held faults held' faults' end.Served = ⊥
RefusesAs cause held faults held' faults' end.SinkFault = ⊥
RefusesAs cause held faults held' faults' end.HouseFault = ⊥
RefusesAs cause held faults held' faults' end.BadWords = ⊥
RefusesAs cause held faults held' faults' end.SourceFault = ⊥

-- what was read is refused, for that cause
pub record IsRefused (old new : Outer) : Type 0 where
  pub bytes : List ℕ
  pub taken : TakesText old.left new.left bytes
  pub cause : ConfigFail
  pub refused : refusal bytes ≡ Some cause
  pub reported : WritesOrFails (report_text cause) old.out.held old.out.sink_faults new.out.held new.out.sink_faults
  pub house : new.out.house ≡ old.out.house

-- what was read is accepted, and served so
pub record Accepted (old new : Outer) (ending : Ending) : Type 0 where
  pub bytes : List ℕ
  pub taken : TakesText old.left new.left bytes
  pub config : Config
  pub accepts : Accepts bytes config
  -- what each stream was asked to the end
  pub attempts : ℕ → List Attempt
  pub runs : RunsAs config attempts old.out new.out ending

-- HOW `serve` ENDS, where `asked` says whether the words ask for it
abbrev pub EndsAs : Bool → Outer → Outer → Ending → Type 0
EndsAs asked old new end.BadWords = (asked ≡ false) × (new ≡ old)
EndsAs asked old new end.SourceFault = (asked ≡ true) × Rose old.source_faults new.source_faults × (new.out ≡ old.out)
EndsAs asked old new end.Refused = (asked ≡ true) × (new.source_faults ≡ old.source_faults) × IsRefused old new
EndsAs asked old new end.OutOfMemory = (asked ≡ true) × (new.source_faults ≡ old.source_faults) × (new.out.sink_faults ≡ old.out.sink_faults)
    × (new.out.house.faults ≡ old.out.house.faults)
EndsAs asked old new end.Served = (asked ≡ true) × (new.source_faults ≡ old.source_faults) × Accepted old new end.Served
EndsAs asked old new end.SinkFault = (asked ≡ true) × (new.source_faults ≡ old.source_faults) × Accepted old new end.SinkFault
EndsAs asked old new end.HouseFault = (asked ≡ true) × (new.source_faults ≡ old.source_faults) × Accepted old new end.HouseFault

-- THE CODE of each way to end. No two have the same
abbrev pub code_of : Ending → ℕ
code_of end.Served = 0
code_of end.BadWords = 2
code_of end.SourceFault = 3
code_of end.Refused = 4
code_of end.SinkFault = 5
code_of end.OutOfMemory = 6
code_of end.HouseFault = 7

-- what a status says
pub record Serves (asked : Bool) (old new : Outer) (status : Status) : Type 0 where
  pub ending : Ending
  pub status_is : status ≡ record { code = code_of ending; place = 0 }
  pub ends : EndsAs asked old new ending
