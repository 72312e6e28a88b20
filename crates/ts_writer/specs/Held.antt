-- How many bytes a writer keeps, and how many an item adds to the text at most
use Rattle.std.specs.Prelude.{◌≡◌, ◌≤◌, ℕ, ◌+◌, ◌*◌, Bool, false, List, [], ◌∷◌, length, Option, Some, None}
use Rattle.av_unit.specs.declared.item.Item.{Item}
use Rattle.av_unit.specs.declared.item.Item.TheVariants.{Begin, Unit as AUnit, End}
use Rattle.avc_annexb.specs.Record.{Config}
use Rattle.avc_annexb.specs.AnnexB.{annexb}
use Rattle.ts_writer.specs.declared.in_force.InForce.{InForce}

abbrev pub lengths : List (List ℕ) → ℕ
lengths [] = 0
lengths (n ∷ ns) = length n + lengths ns

abbrev pub sets_length : Config → ℕ
sets_length c = lengths c.sps + lengths c.pps

abbrev pub length_or_none : Option Config → ℕ
length_or_none None = 0
length_or_none (Some c) = sets_length c

-- the parameter sets of the video configuration in force
abbrev pub held_of : InForce → ℕ
held_of s = length_or_none s.video

-- a configuration whose record had so many bytes at most: a set has a byte, and stands behind two there and
-- behind four here
pub record IsWithin (n : ℕ) (c : Config) : Type 0 where
  pub size : 1 ≤ c.size
  pub kept : sets_length c ≤ n
  pub text : 3 * (length (annexb c.sps) + length (annexb c.pps)) ≤ 5 * n

abbrev pub IsWithinOrNone : ℕ → Option Config → Type 0
IsWithinOrNone n None = Unit {0}
IsWithinOrNone n (Some c) = IsWithin n c

-- no configuration is longer than 65,536 bytes
abbrev pub IsSmall : InForce → Type 0
IsSmall s = IsWithinOrNone 65536 s.video

-- how many bytes an item adds at most: four for each of a unit's, and 131,072 for parameter sets, headers and tables
abbrev pub most_added : Item → ℕ
most_added Begin = 0
most_added (AUnit u) = 4 * length u.body + 131072
most_added End = 0
