-- A chunk header as it is written: the basic header in its shortest form (5.3.1.1) and the message header (5.3.1.2)
use Rattle.std.specs.Prelude.{ℕ, ◌+◌, ◌-◌, ◌*◌, ◌/◌, ◌%◌, nat_eq, nat_lt, if◌then◌else◌, List, [], ◌∷◌, ◌++◌}
use Rattle.std.specs.Int.{bytes_high_first, bytes_low_first}
use Rattle.chunk_wire.specs.declared.headers.Head.{Head}

-- the id from 64 on less 64, the lowest byte first
unfoldable pub basic_bytes : ℕ → ℕ → List ℕ
basic_bytes format id =
    if nat_lt id 64 then (format * 64 + id) ∷ []
    else (if nat_lt id 320 then (format * 64) ∷ (id - 64) ∷ []
    else (format * 64 + 1) ∷ ((id - 64) % 256) ∷ ((id - 64) / 256) ∷ [])

unfoldable pub field_bytes : Head → List ℕ
field_bytes h =
    if nat_eq h.format 0 then bytes_high_first 3 h.field ++ bytes_high_first 3 h.length ++ (h.kind ∷ bytes_low_first 0 4 h.stream)
    else (if nat_eq h.format 1 then bytes_high_first 3 h.field ++ bytes_high_first 3 h.length ++ (h.kind ∷ [])
    else (if nat_eq h.format 2 then bytes_high_first 3 h.field
    else []))

abbrev pub head_bytes : Head → List ℕ
head_bytes h = basic_bytes h.format h.id ++ field_bytes h
