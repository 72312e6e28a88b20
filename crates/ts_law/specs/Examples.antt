-- A worked example of the bridged units
use Rattle.std.specs.Prelude.{false, List, [], ◌∷◌}
use Rattle.ts_reader.specs.declared.unit.TsUnit.{TsUnit}

-- those of an AAC configuration and a frame of the bytes 1 to 9
abbrev pub sound_units : List TsUnit
sound_units =
    record { video = false; pts = 0; dts = 0; payload = 0xFF ∷ 0xF1 ∷ 0x50 ∷ 0x80 ∷ 0x02 ∷ 0x1F ∷ 0xFC ∷ 1 ∷ 2 ∷ 3 ∷ 4 ∷ 5 ∷ 6 ∷ 7 ∷ 8 ∷ 9 ∷ [] } ∷ []
