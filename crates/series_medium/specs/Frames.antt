-- FRAMES: how a series of files is one list of bytes. A frame of data adds to the open file: a byte 0, the number of its bytes in
-- four bytes, the highest first, and these bytes. A frame that ends the open file is a byte 1
use Rattle.std.specs.Prelude.{ℕ, ◌<◌, ◌^◌, List, [], ◌∷◌, ◌++◌, length, flat_map, None}
use Rattle.std.specs.Int.{bytes_high_first}
use Rattle.file_series.specs.Series.{Series, took, after_next}

pub data Frame : Type 0 where
  Adds : List ℕ → Frame
  EndsFile : Frame

-- the four bytes of a length
unfoldable pub size_bytes : ℕ → List ℕ
size_bytes size = bytes_high_first 4 size

abbrev pub frame_text : Frame → List ℕ
frame_text (Adds bytes) = 0 ∷ (size_bytes (length bytes) ++ bytes)
frame_text EndsFile = 1 ∷ []

abbrev pub frames_text : List Frame → List ℕ
frames_text frames = flat_map frame_text frames

-- a frame that can be read: data of at least one byte, whose number is one of 32 bits
abbrev pub IsFrame : Frame → Type 0
IsFrame (Adds bytes) = (0 < length bytes) × (length bytes < 2 ^ 32)
IsFrame EndsFile = Unit {0}

-- what a frame says
abbrev pub said : Series → Frame → Series
said s (Adds bytes) = took bytes s
said s EndsFile = after_next None s
