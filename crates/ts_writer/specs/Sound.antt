-- What a writer keeps true of its fields
use Rattle.std.specs.Prelude.{◌≡◌, Bool, false, List}
use Rattle.av_unit.specs.declared.item.Item.{Item}
use Rattle.ts_writer.specs.declared.in_force.InForce.{InForce}
use Rattle.ts_writer.specs.declared.part.Part.{Part}
use Rattle.ts_writer.specs.Text.{in_force as in_force_of, parts as parts_of}
use Rattle.ts_writer.specs.Held.{IsSmall}

pub record IsPast (in_force : InForce) (parts : List Part) (past : List Item) : Type 0 where
  pub configs : in_force ≡ in_force_of past
  pub text : parts ≡ parts_of past

-- until it wants memory it has what its past asks for
pub record IsSound (broken : Bool) (in_force : InForce) (parts : List Part) (past : List Item) : Type 0 where
  pub small : IsSmall in_force
  pub of_past : broken ≡ false → IsPast in_force parts past
