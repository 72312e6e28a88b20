-- A file of which nothing was read.
use Rattle.std.proofs.Common.{inl, [], refl, arith}
use Rattle.file_commands.specs.Remux.{RemuxGives, remux_text}

pub nothing_read : RemuxGives [] (remux_text [])
nothing_read = record {
  tags = [];
  rest = [];
  reads = inl (record { short = omega arith; as_header = λ i within early other. absurd (omega (arith, within)); none = refl; all = refl });
  text_is = refl;
}
