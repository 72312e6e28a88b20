-- What is written of a text
use Rattle.std.specs.Prelude.{◌≡◌, ◌<◌, ℕ, List, ◌++◌, length}
use Rattle.std.specs.declared.option.Option.{Option}
use Rattle.std.specs.Io.KnownBytes.{append_known}
use Rattle.relay_outside.specs.Counts.{Rose}
use Rattle.put_text.specs.declared.put.PutFail.{PutFail}
use Rattle.put_text.specs.declared.put.PutFail.TheVariants as put

-- what is written of a text, and what is left of it
pub record Writes (text left : List ℕ) (before now : Option (List ℕ)) : Type 0 where
  pub wrote : List ℕ
  pub parts : wrote ++ left ≡ text
  pub grown : now ≡ append_known before wrote

-- a first part of the text is written
abbrev pub WritesPart : List ℕ → Option (List ℕ) → Option (List ℕ) → Type 0
WritesPart text before now = (left : List ℕ) × Writes text left before now

-- and what is left of it is shorter than that
abbrev pub WritesNearly : ℕ → List ℕ → Option (List ℕ) → Option (List ℕ) → Type 0
WritesNearly most text before now = (left : List ℕ) × Writes text left before now × (length left < most)

-- the faults of the sink, by why a text wasn't put
abbrev pub SinkCause : PutFail → ℕ → ℕ → Type 0
SinkCause put.SinkFault before now = Rose before now
SinkCause put.OutOfMemory before now = now ≡ before
