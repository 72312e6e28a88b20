-- Worked examples of the cuts and the playlist
use Rattle.std.specs.Prelude.{ℕ, List, [], ◌∷◌, codes}
use Rattle.av_unit.specs.declared.unit.Kind.TheVariants.{VConfig, Key}
use Rattle.av_unit.specs.declared.item.Item.{Item}
use Rattle.av_unit.specs.declared.item.Item.TheVariants.{Unit as AUnit}

-- an AVC configuration with one parameter set of each kind, and a key picture with one NAL unit
abbrev pub config : Item
config =
    AUnit (record { kind = VConfig; time = 0; body = 0x17 ∷ 0 ∷ 0 ∷ 0 ∷ 0 ∷ 1 ∷ 0x42 ∷ 0 ∷ 0x1E ∷ 0xFF ∷ 0xE1 ∷ 0 ∷ 1 ∷ 0x67 ∷ 1 ∷ 0 ∷ 1 ∷ 0x68 ∷ [] })

abbrev pub key_at : ℕ → Item
key_at time = AUnit (record { kind = Key; time = time; body = 0x17 ∷ 1 ∷ 0 ∷ 0 ∷ 0 ∷ 0 ∷ 0 ∷ 0 ∷ 2 ∷ 0x65 ∷ 0x88 ∷ [] })

-- key pictures alone
abbrev pub key_pictures : List Item
key_pictures = key_at 4000 ∷ key_at 3999 ∷ key_at 2000 ∷ key_at 0 ∷ config ∷ []

-- where each segment but the last spans two seconds at least, the third picture goes with the second
abbrev pub list_of_pictures : List ℕ
list_of_pictures =
    codes
    "#EXTM3U\n#EXT-X-VERSION:3\n#EXT-X-TARGETDURATION:2\n#EXT-X-MEDIA-SEQUENCE:0\n#EXTINF:2.000,\na-0.ts\n#EXTINF:2.000,\na-1.ts\n#EXTINF:0.000,\na-2.ts\n#EXT-X-ENDLIST\n"

-- one frame of sound
abbrev pub list_of_sound : List ℕ
list_of_sound = codes "#EXTM3U\n#EXT-X-VERSION:3\n#EXT-X-TARGETDURATION:1\n#EXT-X-MEDIA-SEQUENCE:0\n#EXTINF:0.000,\na-0.ts\n#EXT-X-ENDLIST\n"
