-- How a soak ends.
use Rattle.std.specs.Prelude.{◌≡◌, ◌⊎◌, ◌↔◌, ℕ, List, [], ◌∷◌, codes, if◌then◌else◌, None, Some}
use Rattle.std.specs.declared.option.Option.{Option}
use Rattle.std.specs.Io.KnownBytes.{append_known}
use Rattle.relay_base.specs.declared.limits.Status.{Status}
use Rattle.relay_outside.specs.Counts.{Rose}
use Rattle.relay_script.specs.Lines.{count_of, is_text}
use Rattle.relay_soak.specs.Runs.{Printed}
use Rattle.put_text.specs.Written.{WritesPart}

abbrev pub asked_by : List ℕ → List ℕ → Option ℕ
asked_by word number = if is_text word (codes "soak") then count_of 100001 number else None

-- how many units the words ask for: `soak N`, with N from 1 to 100,000
abbrev pub units_asked : List (List ℕ) → Option ℕ
units_asked [] = None
units_asked (word ∷ []) = None
units_asked (word ∷ number ∷ []) = asked_by word number
units_asked (word ∷ number ∷ other ∷ words) = None

-- all that is printed of so many units is written
pub record WritesSoak (n : ℕ) (before now : Option (List ℕ)) : Type 0 where
  pub text : List ℕ
  pub printed : Printed n text
  pub grown : now ≡ append_known before text

-- a first part of it
pub record WritesPartSoak (n : ℕ) (before now : Option (List ℕ)) : Type 0 where
  pub text : List ℕ
  pub printed : Printed n text
  pub part : WritesPart text before now

-- what a status says of the sink before and after, where so many units are asked for
pub record Soaked (asked : Option ℕ) (before now : Option (List ℕ)) (faults faults' : ℕ) (status : Status) : Type 0 where
  pub words : (status.code ≡ 2) ↔ (asked ≡ None)
  pub written : (n : ℕ) → asked ≡ Some n → status.code ≡ 0 → WritesSoak n before now
  pub part : (n : ℕ) → asked ≡ Some n → (now ≡ before) ⊎ WritesPartSoak n before now
  pub sink_fault : status.code ≡ 5 → Rose faults faults'
  pub sink : (status.code ≡ 5 → ⊥) → faults' ≡ faults
  pub codes : (status.code ≡ 0) ⊎ ((status.code ≡ 2) ⊎ ((status.code ≡ 5) ⊎ (status.code ≡ 6)))
  pub place : status.place ≡ 0
