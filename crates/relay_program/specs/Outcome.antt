-- How a command ends that reads a script and answers its lines as it goes.
use Rattle.std.specs.Prelude.{◌≡◌, ◌⊎◌, ◌↔◌, ℕ, Bool, true, false, List, [], ◌∷◌, ◌++◌, None, Some}
use Rattle.std.specs.declared.option.Option.{Option}
use Rattle.std.specs.Io.KnownBytes.{append_known, IsAtEnd}
use Rattle.relay_base.specs.declared.limits.Status.{Status}
use Rattle.relay_outside.specs.Counts.{Rose}
use Rattle.put_text.specs.Written.{Writes, WritesPart}
use Rattle.relay_script.specs.Script.{NoLineFeed}

-- bytes that end with an LF, or none
abbrev pub IsWholeLines : List ℕ → Type 0
IsWholeLines text = (text ≡ []) ⊎ ((front : List ℕ) × (text ≡ front ++ 10 ∷ []))

-- what is seen of a source and a sink: what is left of the one and what the other holds, where they tell it,
-- and their faults
pub record InOut : Type 0 where
  pub left : Option (List ℕ)
  pub held : Option (List ℕ)
  pub source_faults : ℕ
  pub sink_faults : ℕ

abbrev pub in_out : Option (List ℕ) → Option (List ℕ) → ℕ → ℕ → InOut
in_out left held source_faults sink_faults = record { left = left; held = held; source_faults = source_faults; sink_faults = sink_faults }

abbrev pub IsScriptCode : ℕ → Type 0
IsScriptCode code = (code ≡ 0) ⊎ ((code ≡ 2) ⊎ ((code ≡ 3) ⊎ ((code ≡ 4) ⊎ ((code ≡ 5) ⊎ (code ≡ 6)))))

-- the status of a script that was read to its end, by its first line outside the grammar
abbrev pub status_without_faults : Option ℕ → Status
status_without_faults None = record { code = 0; place = 0 }
status_without_faults (Some line) = record { code = 4; place = line }

-- what a script is to be answered, and the number of its first line outside the grammar
module _ (printed : List ℕ → List ℕ) (outside : List ℕ → Option ℕ) where
  -- of a script that was read up to some place, a first part of the replies to what was read is written
  abbrev pub WritesPartOfRead : Option (List ℕ) → Option (List ℕ) → Option (List ℕ) → Option (List ℕ) → Type 0
  WritesPartOfRead script left before now = (read rest : List ℕ) → script ≡ Some (read ++ rest) → left ≡ Some rest → WritesPart (printed read) before now

  -- of a script that was read up to some place, the replies to the whole lines are written, and no more
  abbrev pub WritesWholeLines : Option (List ℕ) → Option (List ℕ) → Option (List ℕ) → Option (List ℕ) → Type 0
  WritesWholeLines script left before now = (whole line rest : List ℕ) → IsWholeLines whole → NoLineFeed line → script ≡ Some (whole ++ line ++ rest) → left
      ≡ Some rest →
      (now ≡ append_known before (printed whole)) × (outside whole ≡ None)

  -- what a status says of the source and the sink before and after, where `asked` says whether the words ask
  -- for the command
  pub record Outcome (asked : Bool) (old new : InOut) (status : Status) : Type 0 where
    pub words : (status.code ≡ 2) ↔ (asked ≡ false)
    pub read : status.code ≡ 0 → IsAtEnd new.left
    pub inside : status.code ≡ 0 → (text : List ℕ) → old.left ≡ Some text → outside text ≡ None
    pub line : status.code ≡ 4 → (text : List ℕ) → old.left ≡ Some text → outside text ≡ Some status.place
    pub written : (status.code ≡ 0) ⊎ (status.code ≡ 4) → (text : List ℕ) → old.left ≡ Some text → new.held ≡ append_known old.held (printed text)
    pub part : (text : List ℕ) → old.left ≡ Some text → WritesPart (printed text) old.held new.held
    pub part_read : WritesPartOfRead old.left new.left old.held new.held
    pub as_it_goes : status.code ≡ 3 → WritesWholeLines old.left new.left old.held new.held
    pub source_fault : status.code ≡ 3 → Rose old.source_faults new.source_faults
    pub sink_fault : status.code ≡ 5 → Rose old.sink_faults new.sink_faults
    pub source : (status.code ≡ 3 → ⊥) → new.source_faults ≡ old.source_faults
    pub sink : (status.code ≡ 5 → ⊥) → new.sink_faults ≡ old.sink_faults
    pub codes : IsScriptCode status.code
    pub place : (status.code ≡ 4 → ⊥) → status.place ≡ 0
    pub complete : (text : List ℕ) → old.left ≡ Some text → asked ≡ true → (Rose old.source_faults new.source_faults → ⊥)
        → (Rose old.sink_faults new.sink_faults → ⊥)
        → (status ≡ status_without_faults (outside text)) ⊎ (status.code ≡ 6)
