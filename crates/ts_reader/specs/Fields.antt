-- The fields of a transport packet of 188 bytes (ISO/IEC 13818-1, 2.4.3.2 to 2.4.3.4), as they are read. A
-- byte that isn't there counts as 0.
use Rattle.std.specs.Prelude.{ℕ, ◌+◌, ◌*◌, ◌/◌, ◌%◌, Bool, ◌==◌, ◌&&◌, not, nat_lt, if◌then◌else◌, List, take, drop, slice_index, Option, Some, None}
use Rattle.std.specs.List.{list_all}

-- the bytes of a packet
abbrev pub packet_size : ℕ
packet_size = 188

abbrev pub is_synced : List ℕ → Bool
is_synced p = slice_index p 0 == 0x47

-- payload_unit_start_indicator
abbrev pub starts : List ℕ → Bool
starts p = slice_index p 1 / 64 % 2 == 1

abbrev pub pid_in : List ℕ → ℕ
pid_in p = slice_index p 1 % 32 * 256 + slice_index p 2

abbrev pub control_in : List ℕ → ℕ
control_in p = slice_index p 3 / 16 % 4

abbrev pub counter_in : List ℕ → ℕ
counter_in p = slice_index p 3 % 16

-- transport_error_indicator, transport_priority and transport_scrambling_control are 0
abbrev pub is_plain : List ℕ → Bool
is_plain p = (slice_index p 1 / 128 == 0) && ((slice_index p 1 / 32 % 2 == 0) && (slice_index p 3 / 64 == 0))

-- adaptation_field_length
abbrev pub field_length : List ℕ → ℕ
field_length p = slice_index p 4

-- how many bytes of an adaptation field are passed over, behind its length: its flags, and a clock reference where one
-- has to stand
abbrev pub passed_over : Bool → ℕ
passed_over clock = if clock then 7 else 1

-- the bytes of the field behind these are FF
abbrev pub is_stuffed : Bool → List ℕ → Bool
is_stuffed clock p = list_all (λ b. b == 255) (drop (passed_over clock) (take (field_length p) (drop 5 p)))

-- THE PLACE of the payload: alone, or behind an adaptation field that leaves it a byte. Where a clock reference has to
-- stand there is a field with room for it
unfoldable pub payload_at : Bool → List ℕ → Option ℕ
payload_at clock p =
    if control_in p == 1 then (if clock then None else Some 4)
    else (if not (control_in p == 3) then None
    else (if nat_lt 182 (field_length p) then None
    else (if clock && nat_lt (field_length p) 7 then None
    else (if is_stuffed clock p then Some (5 + field_length p) else None))))
