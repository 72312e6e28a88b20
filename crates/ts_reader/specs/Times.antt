-- The header of a PES packet (2.4.3.6), as it is read
use Rattle.std.specs.Prelude.{ℕ, ◌+◌, ◌*◌, ◌/◌, ◌%◌, Bool, ◌==◌, ◌&&◌, ◌||◌, not, nat_lt, if◌then◌else◌, List, length, drop, slice_index, Option, Some, None}

-- what a header tells: the times, PES_packet_length, and how many bytes it has itself
pub record Told : Type 0 where
  pub pts : ℕ
  pub dts : ℕ
  pub length : ℕ
  pub size : ℕ

-- stream_id: video stream 0, or audio stream 0
abbrev pub stream_id : Bool → ℕ
stream_id video = if video then 0xE0 else 0xC0

-- PES_packet_length
abbrev pub length_in : List ℕ → ℕ
length_in b = slice_index b 4 * 256 + slice_index b 5

-- packet_start_code_prefix and stream_id; '10' and flags that are 0. The length of video is left open
abbrev pub begins : Bool → List ℕ → Bool
begins video b =
    (slice_index b 0 == 0)
    && ((slice_index b 1 == 0)
    && ((slice_index b 2 == 1)
    && ((slice_index b 3 == stream_id video) && ((slice_index b 6 == 0x80) && (not video || (length_in b == 0))))))

-- PTS_DTS_flags with the flags behind them, and PES_header_data_length
abbrev pub flags_are : ℕ → ℕ → List ℕ → Bool
flags_are flags size b = (slice_index b 7 == flags) && (slice_index b 8 == size)

-- four bits, and marker bits behind the three parts of a time
abbrev pub is_time : ℕ → List ℕ → Bool
is_time prefix t =
    (slice_index t 0 / 16 == prefix)
    && ((slice_index t 0 % 2 == 1) && ((slice_index t 2 % 2 == 1) && (slice_index t 4 % 2 == 1)))

-- the three parts: 3 bits, 15 bits, 15 bits
abbrev pub time_in : List ℕ → ℕ
time_in t =
    slice_index t 0 / 2 % 8 * 1073741824
    + slice_index t 1 * 4194304
    + slice_index t 2 / 2 * 32768
    + slice_index t 3 * 128
    + slice_index t 4 / 2

-- a presentation time alone
abbrev pub one_time : List ℕ → Option Told
one_time b =
    if not (is_time 2 (drop 9 b)) then None
    else Some (record { pts = time_in (drop 9 b); dts = time_in (drop 9 b); length = length_in b; size = 14 })

-- a presentation and a decoding time, which differ
abbrev pub two_times : List ℕ → Option Told
two_times b =
    if nat_lt (length b) 19 then None
    else (if not (is_time 3 (drop 9 b) && is_time 1 (drop 14 b)) then None
    else (if time_in (drop 9 b) == time_in (drop 14 b) then None
    else Some (record { pts = time_in (drop 9 b); dts = time_in (drop 14 b); length = length_in b; size = 19 })))

-- THE HEADER at the front of a payload, where all of it is there. Audio has one time
unfoldable pub header_of : Bool → List ℕ → Option Told
header_of video b =
    if nat_lt (length b) 14 || not (begins video b) then None
    else (if flags_are 0x80 5 b then one_time b
    else (if video && flags_are 0xC0 10 b then two_times b else None))
