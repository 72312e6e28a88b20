-- Transport packets (ISO/IEC 13818-1, 2.4.3.2 to 2.4.3.5): 188 bytes, of which 184 are adaptation field and payload
use Rattle.std.specs.Prelude.{ℕ, zero, suc, ◌+◌, ◌-◌, ◌%◌, ◌<◌, ◌^◌, Bool, true, false, ◌==◌, ◌||◌, if◌then◌else◌, is_some, List, [], ◌∷◌, ◌++◌, length, take, drop, replicate, Option, Some, None, IfSome}
use Rattle.bit_fields.specs.Fields.{Field, field_bytes}
use Rattle.pes_packets.specs.declared.flags.PesFlags.{PesFlags}

abbrev pub bit : Bool → ℕ
bit true = 1
bit false = 0

-- the four bytes before adaptation field and payload (2.4.3.2)
abbrev pub packet_header : Bool → ℕ → ℕ → ℕ → List Field
packet_header start pid control counter =
    (8, 0x47)  -- sync_byte
    ∷ (1, 0)  -- transport_error_indicator
    ∷ (1, bit start)  -- payload_unit_start_indicator
    ∷ (1, 0)  -- transport_priority
    ∷ (13, pid)  -- PID
    ∷ (2, 0)  -- transport_scrambling_control
    ∷ (2, control)  -- adaptation_field_control: 1 payload alone, 3 adaptation field and payload
    ∷ (4, counter)  -- continuity_counter
    ∷ []

unfoldable pub head_bytes : Bool → ℕ → ℕ → ℕ → List ℕ
head_bytes start pid control counter = field_bytes (packet_header start pid control counter)

-- a program clock reference (2.4.3.5) whose extension is 0
abbrev pub pcr_fields : ℕ → List Field
pcr_fields base =
    (33, base)  -- program_clock_reference_base
    ∷ (6, 63)  -- reserved
    ∷ (9, 0)  -- program_clock_reference_extension
    ∷ []

unfoldable pub pcr_bytes : ℕ → List ℕ
pcr_bytes base = field_bytes (pcr_fields base)

-- the flags of an adaptation field (2.4.3.4)
abbrev pub flag_fields : PesFlags → List Field
flag_fields f =
    (1, bit f.jump)  -- discontinuity_indicator
    ∷ (1, bit f.random)  -- random_access_indicator
    ∷ (1, 0)  -- elementary_stream_priority_indicator
    ∷ (1, bit (is_some f.pcr))  -- PCR_flag
    ∷ (1, 0)  -- OPCR_flag
    ∷ (1, 0)  -- splicing_point_flag
    ∷ (1, 0)  -- transport_private_data_flag
    ∷ (1, 0)  -- adaptation_field_extension_flag
    ∷ []

abbrev pub or_none : Option ℕ → List ℕ
or_none (Some base) = pcr_bytes base
or_none None = []

-- what an adaptation field tells
unfoldable pub told : PesFlags → List ℕ
told f = field_bytes (flag_fields f) ++ or_none f.pcr

-- nothing
abbrev pub silent : PesFlags
silent = record { pcr = None; random = false; jump = false }

abbrev pub tells : PesFlags → Bool
tells f = is_some f.pcr || (f.random || f.jump)

-- an adaptation field of so many bytes: nothing, a length of 0, or its length, what it tells and stuffing
unfoldable pub adaptation : PesFlags → ℕ → List ℕ
adaptation f size =
    if size == 0 then []
    else (if size == 1 then 0 ∷ []
    else (size - 1) ∷ (told f ++ replicate (size - 1 - length (told f)) 255))

-- how many bytes of payload a packet has room for
unfoldable pub room : PesFlags → ℕ
room f = if tells f then 183 - length (told f) else 184

-- 1 payload alone, 3 adaptation field and payload
abbrev pub control_of : ℕ → ℕ
control_of size = if size == 0 then 1 else 3

-- A PACKET: its adaptation field fills what the payload leaves
unfoldable pub packet : ℕ → ℕ → Bool → PesFlags → List ℕ → List ℕ
packet pid counter start f payload =
    head_bytes start pid (control_of (184 - length payload)) counter ++ (adaptation f (184 - length payload) ++ payload)

-- bytes cut into runs: the first has at most so many, and the others have 184; there are at most so many runs
unfoldable pub cuts : ℕ → ℕ → List ℕ → List (List ℕ)
cuts zero first b = []
cuts (suc most) first [] = []
cuts (suc most) first (x ∷ xs) = take first (x ∷ xs) ∷ cuts most 184 (drop first (x ∷ xs))

-- packets with these payloads: the first starts a unit and tells the flags, and each counter is one more than
-- that before it, modulo 16
unfoldable pub packets : ℕ → ℕ → Bool → PesFlags → List (List ℕ) → List ℕ
packets pid counter start f [] = []
packets pid counter start f (run ∷ runs) = packet pid counter start f run ++ packets pid ((counter + 1) % 16) false silent runs

-- the payloads of a PES packet's transport packets
abbrev pub runs_of : PesFlags → List ℕ → List (List ℕ)
runs_of f pes = cuts (length pes) (room f) pes

-- THE PACKETS of a PES packet
abbrev pub pes_text : ℕ → ℕ → PesFlags → List ℕ → List ℕ
pes_text pid counter f pes = packets pid counter true f (runs_of f pes)

-- the counter after so many packets
abbrev pub counted : ℕ → ℕ → ℕ
counted counter n = (counter + n) % 16

-- THE PACKET of a section (2.4.4.1): pointer_field 0, the section, and bytes FF
unfoldable pub section_text : ℕ → ℕ → List ℕ → List ℕ
section_text pid counter section = head_bytes true pid 1 counter ++ (0 ∷ (section ++ replicate (183 - length section) 255))

-- what may be written
abbrev pub IsCounter : ℕ → Type 0
IsCounter n = n < 16

abbrev pub IsPid : ℕ → Type 0
IsPid n = n < 2 ^ 13

abbrev pub IsTime : ℕ → Type 0
IsTime t = t < 2 ^ 33

abbrev pub AreFlags : PesFlags → Type 0
AreFlags f = IfSome f.pcr IsTime
