-- The lines of a replay's script, each by itself.
use Rattle.std.specs.Prelude.{ℕ, true, false, ◌+◌, ◌-◌, ◌*◌, ◌^◌, ◌%◌, Bool, ◌&&◌, ◌||◌, if◌then◌else◌, ◌==◌, nat_le, List, [], ◌∷◌, length, codes, None, Some}
use Rattle.std.specs.List.{list_all}
use Rattle.std.specs.declared.option.Option.{Option}
use Rattle.std.specs.Option.{option_map}
use Rattle.stream_model.specs.Names.{within, is_name}
use Rattle.relay_script.specs.Lines.{first_word, next, last, is_text, number, decimal_of, count_of, name_of, slots_of}
use Rattle.relay_script.specs.declared.replay.ReplayLine.{ReplayLine}
use Rattle.key_guard.specs.declared.check.Mode.{Mode}
use Rattle.key_guard.specs.declared.check.Mode.TheVariants.{Plain, Digest, Named}
use Rattle.relay_script.specs.declared.replay.Form.{Form}
use Rattle.relay_script.specs.declared.replay.Form.TheVariants.{Flv, Ts}
use Rattle.relay_script.specs.declared.replay.Side.{Side}
use Rattle.relay_script.specs.declared.replay.Side.TheVariants.{Publish, Play}
use Rattle.relay_script.specs.declared.replay.ReplayLine.TheVariants.{Nothing, Limits, Stream, Guard, Recorder, Session, Piece, Eof, Room, FailRecv, FailSend}
use Rattle.relay_script.specs.declared.replay.ReplayLine.TheVariants.{FailPut, Turn, Rec, All, Quit, OpenApp, GuardOpen, OpenHttp, OpenEdge}

-- ---- what a word says

-- a number from the least on, at most the other
abbrev pub in_range : ℕ → ℕ → Option ℕ → Option ℕ
in_range least most None = None
in_range least most (Some n) = if within least most n then Some n else None

-- M, W
abbrev pub message_of : List ℕ → Option ℕ
message_of word = in_range 4096 4194304 (decimal_of word)

abbrev pub window_of : List ℕ → Option ℕ
window_of word = in_range 1000 (2 ^ 31 - 1) (decimal_of word)

-- the number of a session, a stream, an open table or a recorder
abbrev pub session_of : List ℕ → Option ℕ
session_of word = number (2 ^ 32) word

-- K, how many turns or rounds
abbrev pub turns_of : List ℕ → Option ℕ
turns_of word = count_of (1000000 + 1) word

-- how many bytes may still be sent, None where all may
abbrev pub room_of : List ℕ → Option (Option ℕ)
room_of word = if is_text word (codes "all") then Some None else option_map Some (number (2 ^ 64) word)

abbrev pub is_hex_byte : ℕ → Bool
is_hex_byte c = within 48 57 c || within 97 102 c

-- an even number of lower-case hexadecimal digits, at least two
abbrev pub is_hex : List ℕ → Bool
is_hex word = nat_le 2 (length word) && (length word % 2 == 0 && list_all is_hex_byte word)

abbrev pub digit : ℕ → ℕ
digit c = if within 97 102 c then c - 87 else (if within 48 57 c then c - 48 else 0)

-- the byte of each two digits
abbrev pub pairs : List ℕ → List ℕ
pairs [] = []
pairs (high ∷ []) = []
pairs (high ∷ low ∷ rest) = (16 * digit high + digit low) ∷ pairs rest

-- HEX
abbrev pub hex_of : List ℕ → Option (List ℕ)
hex_of word = if is_hex word then Some (pairs word) else None

-- ROLE, MODE and the form of a recording
abbrev pub side_of : List ℕ → Option Side
side_of word = if is_text word (codes "publish") then Some Publish else (if is_text word (codes "play") then Some Play else None)

-- only an open table has keys for one name
abbrev pub mode_of : Bool → List ℕ → Option Mode
mode_of opens word =
    if is_text word (codes "plain") then Some Plain
    else (if is_text word (codes "digest") then Some Digest
    else (if opens && is_text word (codes "named") then Some Named else None))

abbrev pub form_of : List ℕ → Option Form
form_of word = if is_text word (codes "flv") then Some Flv else (if is_text word (codes "ts") then Some Ts else None)

-- 64 lower-case hexadecimal digits
abbrev pub is_digest : List ℕ → Bool
is_digest word = length word == 64 && list_all is_hex_byte word

-- KEY in each mode, and what it stands for: itself, or the 32 bytes of its digest
abbrev pub is_key : Mode → List ℕ → Bool
is_key Plain word = is_name word
is_key Digest word = is_digest word
is_key Named word = is_digest word

abbrev pub key_bytes : Mode → List ℕ → List ℕ
key_bytes Plain word = word
key_bytes Digest word = pairs word
key_bytes Named word = pairs word

abbrev pub key_of : Mode → List ℕ → Option (List ℕ)
key_of mode word = if is_key mode word then Some (key_bytes mode word) else None

-- ---- lines

-- M R N P W
abbrev pub limits_line : Option (List ℕ) → Option ReplayLine
limits_line words =
    next words message_of (λ message rest.
    next rest (number (268435456 + 1)) (λ bytes rest.
    next rest (count_of (65536 + 1)) (λ items rest.
    next rest (count_of (256 + 1)) (λ players rest.
    next rest window_of (λ window rest.
    last rest (Limits message bytes items players window))))))

-- APP NAME
abbrev pub stream_line : Option (List ℕ) → Option ReplayLine
stream_line words =
    next words name_of (λ app rest.
    next rest name_of (λ name rest.
    last rest (Stream app name)))

-- a number, ROLE MODE KEY
abbrev pub keyed_line : Bool → (ℕ → Side → Mode → List ℕ → ReplayLine) → Option (List ℕ) → Option ReplayLine
keyed_line opens says words =
    next words session_of (λ number rest.
    next rest side_of (λ side rest.
    next rest (mode_of opens) (λ mode rest.
    next rest (key_of mode) (λ key rest.
    last rest (says number side mode key)))))

-- S ROLE MODE KEY, and O ROLE MODE KEY
abbrev pub guard_line : Option (List ℕ) → Option ReplayLine
guard_line words = keyed_line false Guard words

abbrev pub guardopen_line : Option (List ℕ) → Option ReplayLine
guardopen_line words = keyed_line true GuardOpen words

-- APP N
abbrev pub openapp_line : Option (List ℕ) → Option ReplayLine
openapp_line words =
    next words name_of (λ app rest.
    next rest slots_of (λ names rest.
    last rest (OpenApp app names)))

-- S APP NAME
abbrev pub openedge_line : Option (List ℕ) → Option ReplayLine
openedge_line words =
    next words session_of (λ stream rest.
    next rest name_of (λ app rest.
    next rest name_of (λ name rest.
    last rest (OpenEdge stream app name))))

-- S FORM
abbrev pub record_line : Option (List ℕ) → Option ReplayLine
record_line words =
    next words session_of (λ stream rest.
    next rest form_of (λ form rest.
    last rest (Recorder stream form)))

-- S HEX
abbrev pub piece_line : Option (List ℕ) → Option ReplayLine
piece_line words =
    next words session_of (λ session rest.
    next rest hex_of (λ bytes rest.
    last rest (Piece session bytes)))

-- S N, or S `all`
abbrev pub room_line : Option (List ℕ) → Option ReplayLine
room_line words =
    next words session_of (λ session rest.
    next rest room_of (λ left rest.
    last rest (Room session left)))

-- S K
abbrev pub turn_line : Option (List ℕ) → Option ReplayLine
turn_line words =
    next words session_of (λ session rest.
    next rest turns_of (λ count rest.
    last rest (Turn session count)))

-- R K
abbrev pub rec_line : Option (List ℕ) → Option ReplayLine
rec_line words =
    next words session_of (λ recorder rest.
    next rest turns_of (λ count rest.
    last rest (Rec recorder count)))

-- K
abbrev pub all_line : Option (List ℕ) → Option ReplayLine
all_line words = next words turns_of (λ count rest. last rest (All count))

-- S
abbrev pub session_line : (ℕ → ReplayLine) → Option (List ℕ) → Option ReplayLine
session_line says words = next words session_of (λ session rest. last rest (says session))

-- a line without bytes of its own, by its first word
abbrev pub plain_line : List ℕ → Option (List ℕ) → Option ReplayLine
plain_line word rest =
    if is_text word (codes "limits") then limits_line rest
    else (if is_text word (codes "record") then record_line rest
    else (if is_text word (codes "open") then last rest Session
    else (if is_text word (codes "openhttp") then last rest OpenHttp
    else (if is_text word (codes "eof") then session_line Eof rest
    else (if is_text word (codes "room") then room_line rest
    else (if is_text word (codes "failrecv") then session_line FailRecv rest
    else (if is_text word (codes "failsend") then session_line FailSend rest
    else (if is_text word (codes "failput") then session_line FailPut rest
    else (if is_text word (codes "turn") then turn_line rest
    else (if is_text word (codes "rec") then rec_line rest
    else (if is_text word (codes "all") then all_line rest
    else (if is_text word (codes "quit") then session_line Quit rest else None))))))))))))

-- a line by its first word
abbrev pub worded_line : List ℕ → Option (List ℕ) → Option ReplayLine
worded_line word rest =
    if is_text word (codes "stream") then stream_line rest
    else (if is_text word (codes "guard") then guard_line rest
    else (if is_text word (codes "openapp") then openapp_line rest
    else (if is_text word (codes "guardopen") then guardopen_line rest
    else (if is_text word (codes "openedge") then openedge_line rest
    else (if is_text word (codes "in") then piece_line rest else plain_line word rest)))))

-- an empty line, a line that begins with `#`, or one of the lines above
abbrev pub form : List ℕ → Option ReplayLine
form [] = Some Nothing
form (c ∷ cs) = if c == 35 then Some Nothing else worded_line (first_word (c ∷ cs)).word (first_word (c ∷ cs)).rest

-- what a line says, its LF left out: None is outside the grammar
abbrev pub meaning : List ℕ → Option ReplayLine
meaning line = if nat_le (length line) 65536 then form line else None

-- the lines that take memory
abbrev pub takes_memory : List ℕ → Bool
takes_memory word =
    (is_text word (codes "stream") || is_text word (codes "guard"))
    || ((is_text word (codes "openapp") || is_text word (codes "guardopen")) || (is_text word (codes "openedge") || is_text word (codes "in")))
