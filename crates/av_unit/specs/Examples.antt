-- Worked examples of the table of classes: the first bytes of a body, as an encoder sends them, and what the body is.
use Rattle.std.specs.Prelude.{ℕ, List, [], ◌∷◌, ◌++◌, ◌+◌, ◌*◌, codes, Option, Some, None}
use Rattle.av_unit.specs.declared.unit.Kind.{Kind}
use Rattle.av_unit.specs.declared.unit.Class.{Class}
use Rattle.av_unit.specs.Classes.{amf_text}

-- a unit of a kind, which begins at a place of its body
abbrev pub unit_at : Kind → ℕ → Option Class
unit_at kind from = Some (record { kind = kind; from = from })

abbrev pub nothing : Option Class
nothing = None

-- AAC (FLV 10.1, E.4.2): SoundFormat 10, and AACPacketType 0 with the AudioSpecificConfig of AAC LC, or 1 with a frame
abbrev pub aac_header : List ℕ
aac_header = 175 ∷ 0 ∷ 18 ∷ 16 ∷ []

abbrev pub aac_frame : List ℕ
aac_frame = 175 ∷ 1 ∷ 33 ∷ 27 ∷ []

-- AVC (E.4.3): Frame Type, CodecID 7, AVCPacketType and the composition time
abbrev pub avc : ℕ → ℕ → List ℕ
avc frame packet = (frame * 16 + 7) ∷ packet ∷ 0 ∷ 0 ∷ 0 ∷ []

-- metadata, as a publisher sends it and as it is stored
abbrev pub meta : List ℕ
meta = amf_text (codes "onMetaData")

abbrev pub set_meta : List ℕ
set_meta = amf_text (codes "@setDataFrame") ++ meta

-- units of H.264 behind their lengths of four bytes: supplemental information, a slice that no picture refers
-- to, and one that pictures refer to (7.3.1: nal_ref_idc 1)
abbrev pub other : List ℕ
other = 0 ∷ 0 ∷ 0 ∷ 2 ∷ 6 ∷ 5 ∷ []

abbrev pub slice : List ℕ
slice = 0 ∷ 0 ∷ 0 ∷ 2 ∷ 1 ∷ 154 ∷ []

abbrev pub needed_slice : List ℕ
needed_slice = 0 ∷ 0 ∷ 0 ∷ 2 ∷ 33 ∷ 154 ∷ []
