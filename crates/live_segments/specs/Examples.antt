-- Worked examples: a broadcast of keyframes at 0, 2,000 and 4,000 milliseconds; another from 0 on whose first unit is an
-- inter frame; and keyframes at 2,000 and 1,000, which is a step back
use Rattle.std.specs.Prelude.{ℕ, List, [], ◌∷◌, ◌++◌, codes}
use Rattle.av_unit.specs.declared.unit.Kind.TheVariants.{Inter}
use Rattle.av_unit.specs.declared.item.Item.{Item}
use Rattle.av_unit.specs.declared.item.Item.TheVariants.{Begin, Unit as AUnit, End}
use Rattle.ts_writer.specs.Examples.{sound_items}
use Rattle.hls_segments.specs.Examples.{config, key_at}

abbrev pub inter_at : ℕ → Item
inter_at time = AUnit (record { kind = Inter; time = time; body = 0x27 ∷ 1 ∷ 0 ∷ 0 ∷ 0 ∷ 0 ∷ 0 ∷ 0 ∷ 2 ∷ 0x41 ∷ 0x88 ∷ [] })

abbrev pub one_broadcast : List Item
one_broadcast = End ∷ key_at 4000 ∷ inter_at 2500 ∷ key_at 2000 ∷ key_at 0 ∷ config ∷ Begin ∷ []

-- an encoder that comes again
abbrev pub again : List Item
again = key_at 2000 ∷ key_at 0 ∷ inter_at 40 ∷ config ∷ Begin ∷ one_broadcast

-- and whose time steps back; the inter frame after that isn't written
abbrev pub back : List Item
back = key_at 1100 ∷ inter_at 1000 ∷ again

abbrev pub list_at_first : List ℕ
list_at_first = codes "#EXTM3U\n#EXT-X-VERSION:3\n#EXT-X-TARGETDURATION:2\n#EXT-X-MEDIA-SEQUENCE:0\n#EXT-X-DISCONTINUITY-SEQUENCE:0\n#EXTINF:2.000,\na-0.ts\n#EXTINF:2.000,\na-1.ts\n"

abbrev pub list_again : List ℕ
list_again = codes "#EXTM3U\n#EXT-X-VERSION:3\n#EXT-X-TARGETDURATION:2\n#EXT-X-MEDIA-SEQUENCE:2\n#EXT-X-DISCONTINUITY-SEQUENCE:0\n#EXTINF:0.000,\na-2.ts\n#EXT-X-DISCONTINUITY\n#EXTINF:2.000,\na-3.ts\n"

-- the last text, of three that have ended the last two and the open one
abbrev pub list_back : List ℕ
list_back = codes "#EXTM3U\n#EXT-X-VERSION:3\n#EXT-X-TARGETDURATION:2\n#EXT-X-MEDIA-SEQUENCE:3\n#EXT-X-DISCONTINUITY-SEQUENCE:0\n#EXT-X-DISCONTINUITY\n#EXTINF:2.000,\na-3.ts\n#EXTINF:0.000,\na-4.ts\n#EXT-X-DISCONTINUITY\n#EXTINF:0.000,\na-5.ts\n#EXT-X-ENDLIST\n"

-- with room for one, when the marked one has left
abbrev pub list_of_one : List ℕ
list_of_one = codes "#EXTM3U\n#EXT-X-VERSION:3\n#EXT-X-TARGETDURATION:2\n#EXT-X-MEDIA-SEQUENCE:4\n#EXT-X-DISCONTINUITY-SEQUENCE:1\n#EXTINF:0.000,\na-4.ts\n"

-- audio alone, twice: the first audio frame of the second broadcast begins a segment
abbrev pub sound_twice : List Item
sound_twice = (sound_items ++ Begin ∷ End ∷ sound_items) ++ Begin ∷ []

abbrev pub list_of_sound : List ℕ
list_of_sound = codes "#EXTM3U\n#EXT-X-VERSION:3\n#EXT-X-TARGETDURATION:2\n#EXT-X-MEDIA-SEQUENCE:0\n#EXT-X-DISCONTINUITY-SEQUENCE:0\n#EXTINF:0.000,\na-0.ts\n#EXT-X-DISCONTINUITY\n#EXTINF:0.000,\na-1.ts\n#EXT-X-ENDLIST\n"
