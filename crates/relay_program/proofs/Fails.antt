-- What a fail says of the faults and of the status.
use Rattle.std.proofs.Common.{◌≡◌, ℕ, List, [], Option, None, Result, Ok, Err, MatchResult, ◌∙◌}
use Rattle.relay_program.specs.declared.drills.DrillFail.{DrillFail}
use Rattle.relay_program.specs.declared.drills.DrillFail.TheVariants.{Outside, SourceFault, SinkFault, OutOfMemory}
use Rattle.put_text.specs.Written.{Writes, WritesPart}
use Rattle.relay_program.specs.Parts.{AfterFault, AfterFaultOf, FailsAt, SinkCause, SinkFaults, SourceFaults}

pub sink_faults : (fail : DrillFail) (before now : ℕ) → SinkCause fail before now → SinkFaults fail before now
sink_faults (Outside n) before now h = h
sink_faults SourceFault before now h = absurd h
sink_faults SinkFault before now h = h
sink_faults OutOfMemory before now h = h

-- a part that has a sink alone leaves the source's faults
pub source_kept : (fail : DrillFail) (before now start end : ℕ) → SinkCause fail before now → end ≡ start → SourceFaults fail start end
source_kept (Outside n) before now start end h e = e
source_kept SourceFault before now start end h e = absurd h
source_kept SinkFault before now start end h e = e
source_kept OutOfMemory before now start end h e = e

pub source_kept_by : (r : Result (Unit {0}) DrillFail) (before now start end : ℕ) → MatchResult r (λ _. now ≡ before) (λ fail. SinkCause fail before now)
    → end ≡ start →
    MatchResult r (λ _. end ≡ start) (λ fail. SourceFaults fail start end)
source_kept_by (Ok x) before now start end h e = e
source_kept_by (Err fail) before now start end h e = source_kept fail before now start end h e

pub sink_faults_by : (r : Result (Unit {0}) DrillFail) (start before now : ℕ) → before ≡ start
    → MatchResult r (λ _. now ≡ before) (λ fail. SinkCause fail before now) →
    MatchResult r (λ _. now ≡ start) (λ fail. SinkFaults fail start now)
sink_faults_by (Ok x) start before now e h = h ∙ e
sink_faults_by (Err fail) start before now e h = sink_faults fail start now (rw (← e) h)

-- ---- the status of a fail

pub fail_part : (fail : DrillFail) (text : List ℕ) (outside : Option ℕ) (before now : Option (List ℕ)) → FailsAt fail text outside before now
    → WritesPart text before now
fail_part (Outside n) text outside before now h = ([], h.0)
fail_part SourceFault text outside before now h = h
fail_part SinkFault text outside before now h = h
fail_part OutOfMemory text outside before now h = h

pub result_part : (r : Result (Unit {0}) DrillFail) (text : List ℕ) (outside : Option ℕ) (before now : Option (List ℕ)) →
    MatchResult r (λ _. Writes text [] before now × (outside ≡ None)) (λ fail. FailsAt fail text outside before now) → WritesPart text before now
result_part (Ok x) text outside before now h = ([], h.0)
result_part (Err fail) text outside before now h = fail_part fail text outside before now h

-- ---- after a fault of the source

-- a part that has a sink alone fails for no fault of the source
pub no_source_fault : (fail : DrillFail) (rose held : ℕ) (script left before now : Option (List ℕ)) → SinkCause fail rose held
    → AfterFault fail script left before now
no_source_fault (Outside n) rose held script left before now h = tt
no_source_fault SourceFault rose held script left before now h = absurd h
no_source_fault SinkFault rose held script left before now h = tt
no_source_fault OutOfMemory rose held script left before now h = tt

pub no_source_fault_by : (r : Result (Unit {0}) DrillFail) (rose held : ℕ) (script left before now : Option (List ℕ))
    → MatchResult r (λ _. held ≡ rose) (λ fail. SinkCause fail rose held) →
    AfterFaultOf r script left before now
no_source_fault_by (Ok x) rose held script left before now h = tt
no_source_fault_by (Err fail) rose held script left before now h = no_source_fault fail rose held script left before now h
