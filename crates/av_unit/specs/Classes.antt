-- What a message is as a unit. The message types are those of RTMP 1.0: 8 for audio (7.1.4), 9 for video
-- (7.1.5), 18 for data in AMF0 (7.1.2). Sections by E are those of Adobe's FLV 10.1, whose tags have these
-- bodies. Which messages are published is this project's own choice.
use Rattle.std.specs.Prelude.{◌≡◌, ℕ, Bool, true, false, ◌==◌, ◌&&◌, ◌||◌, nat_le, nat_lt, nat_eq, if◌then◌else◌, List, [], ◌∷◌, length, drop, codes, Option, Some, None, option_map, ◌/◌, ◌%◌}
use Rattle.std.specs.Io.{StartsWith}
use Rattle.std.specs.List.{starts_with}
use Rattle.av_unit.specs.declared.unit.Kind.{Kind}
use Rattle.av_unit.specs.declared.unit.Kind.TheVariants.{Meta, VConfig, AConfig, Key, Inter, Spare, Audio, Data}
use Rattle.av_unit.specs.declared.unit.Class.{Class}
use Rattle.av_unit.specs.Fits.{is_config}
use Rattle.av_unit.specs.Disposable.{is_disposable}
use Rattle.av_unit.specs.Media.{Media}

-- the first byte's high four bits: SoundFormat (E.4.2.1), Frame Type (E.4.3.1)
abbrev pub high : List ℕ → ℕ
high [] = 0
high (first ∷ _) = first / 16

-- the first byte's low four bits: CodecID (E.4.3.1)
abbrev pub low : List ℕ → ℕ
low [] = 0
low (first ∷ _) = first % 16

-- whether there is a second byte and it is n: AACPacketType (E.4.2.1), AVCPacketType (E.4.3.1)
abbrev pub second_is : ℕ → List ℕ → Bool
second_is n (_ ∷ second ∷ _) = second == n
second_is _ _ = false

abbrev pub is_empty : List ℕ → Bool
is_empty [] = true
is_empty _ = false

-- a text of AMF0 (2.4) with fewer than 256 bytes: its marker, its length in two bytes, its bytes
abbrev pub amf_text : List ℕ → List ℕ
amf_text text = 2 ∷ 0 ∷ length text ∷ text

abbrev pub begins_with_text : List ℕ → List ℕ → Bool
begins_with_text text body = starts_with nat_eq body (amf_text text)

-- the kind of a picture of frame type 1 to 4: a key frame, an inter frame, a disposable inter frame, a
-- generated key frame. What a publisher calls disposable isn't believed.
abbrev pub picture : ℕ → Kind
picture frame = if (frame == 1) || (frame == 4) then Key else Inter

-- a row of a table: what its answer is where its test holds
abbrev pub Row : Type 0
Row = Bool × Option Kind

-- the answer of the first row whose test holds
abbrev pub first_of : List Row → Option Kind
first_of [] = None
first_of (row ∷ rows) = if row.0 then row.1 else first_of rows

-- the kind of a body in a message of type 8 (audio), 9 (video) or 18 (data in AMF0), as it stands
abbrev pub kind_of : ℕ → List ℕ → Option Kind
kind_of message body = first_of
    ((is_empty body, None)
    ∷ ((message == 8) && ((high body == 10) && second_is 0 body), Some AConfig)
    ∷ (message == 8, Some Audio)
    ∷ ((message == 9) && ((high body == 0) || nat_le 5 (high body)), None)
    ∷ ((message == 9) && ((low body == 7) && (length body == 1)), None)
    ∷ ((message == 9) && ((low body == 7) && second_is 0 body), Some VConfig)
    ∷ ((message == 9) && ((low body == 7) && second_is 1 body), Some (picture (high body)))
    ∷ ((message == 9) && (low body == 7), None)
    ∷ (message == 9, Some (picture (high body)))
    ∷ ((message == 18) && begins_with_text (codes "onMetaData") body, Some Meta)
    ∷ (message == 18, Some Data)
    ∷ [])

-- whether the message is data that begins with the text by which a publisher asks that what follows be kept as the
-- stream's data
abbrev pub SetsData : ℕ → List ℕ → Type 0
SetsData message body = (message ≡ 18) × StartsWith body (amf_text (codes "@setDataFrame"))

-- how many bytes stand before the unit: those of that text
abbrev pub from_of : ℕ → List ℕ → ℕ
from_of message body = if (message == 18) && begins_with_text (codes "@setDataFrame") body then 16 else 0

-- the class of a kind whose unit begins at a place, with the bytes there; a configuration has at most 65,536 of them
abbrev pub placed : ℕ → List ℕ → Option Kind → Option Class
placed from rest None = None
placed from rest (Some kind) =
    if is_config kind && nat_lt 65536 (length rest) then None else Some (record { kind = kind; from = from })

-- the class by the table: the kind of what follows the name, which is taken off once, and the place where that begins
unfoldable pub table_class : ℕ → List ℕ → Option Class
table_class message body =
    let from = from_of message body in
    placed from (drop from body) (kind_of message (drop from body))

-- an inter frame that no other picture needs is a Spare: one of AVC, by its units with lengths of so many bytes
abbrev pub finer : ℕ → List ℕ → Kind → Kind
finer size body Inter = if (low body == 7) && is_disposable size body then Spare else Inter
finer size body kind = kind

abbrev pub finer_class : ℕ → List ℕ → Class → Class
finer_class size body c = record { kind = finer size (drop c.from body) c.kind; from = c.from }

-- THE CLASS of a message, whose NAL units have lengths of so many bytes
unfoldable pub class_of : ℕ → List ℕ → ℕ → Option Class
class_of message body size = option_map (finer_class size body) (table_class message body)

-- the unit of a message, where it has a class
unfoldable pub unit_from : ℕ → ℕ → List ℕ → ℕ → Option Media
unit_from message time body size =
    option_map (λ c. record { kind = c.kind; time = time; body = drop c.from body }) (class_of message body size)

-- the message type of a kind (RTMP 1.0, 7.1)
abbrev pub message_type : Kind → ℕ
message_type AConfig = 8
message_type Audio = 8
message_type VConfig = 9
message_type Key = 9
message_type Inter = 9
message_type Spare = 9
message_type Meta = 18
message_type Data = 18

-- what follows the name has its class by itself, unless it is data that begins with that text once more
abbrev pub HasItselfAgain : List ℕ → Class → Type 0
HasItselfAgain body c =
    (c.kind ≡ Data → begins_with_text (codes "@setDataFrame") (drop c.from body) ≡ false)
    → table_class (message_type c.kind) (drop c.from body) ≡ Some (record { kind = c.kind; from = 0 })

abbrev pub IsClassAgain : ℕ → List ℕ → Class → Type 0
IsClassAgain size body c =
    (c.kind ≡ Data → begins_with_text (codes "@setDataFrame") (drop c.from body) ≡ false)
    → class_of (message_type c.kind) (drop c.from body) size ≡ Some (record { kind = c.kind; from = 0 })

-- sent as a message of its kind, a unit is the same unit again, unless it is data that begins with that text itself
abbrev pub IsItselfAgain : ℕ → Media → Type 0
IsItselfAgain size u =
    (u.kind ≡ Data → begins_with_text (codes "@setDataFrame") u.body ≡ false)
    → unit_from (message_type u.kind) u.time u.body size ≡ Some u
