-- NAL units with start codes before them (ISO/IEC 14496-10, annex B)
use Rattle.std.specs.Prelude.{ℕ, ◌==◌, if◌then◌else◌, List, [], ◌∷◌, ◌++◌, Result, Ok, Err}
use Rattle.avc_annexb.specs.declared.fail.AvcFail.{AvcFail}
use Rattle.avc_annexb.specs.Nal.{nal_type}
use Rattle.avc_annexb.specs.Prefixed.{nals_of}

-- a unit with a zero byte and a start code before it (B.1.1)
abbrev pub started : List ℕ → List ℕ
started n = 0 ∷ 0 ∷ 0 ∷ 1 ∷ n

-- THE BYTE STREAM of units
abbrev pub annexb : List (List ℕ) → List ℕ
annexb [] = []
annexb (n ∷ ns) = started n ++ annexb ns

-- units but access unit delimiters, of type 9 (7.4.2.4)
abbrev pub but_delimiters : List (List ℕ) → List (List ℕ)
but_delimiters [] = []
but_delimiters (n ∷ ns) = if nal_type n == 9 then but_delimiters ns else n ∷ but_delimiters ns

abbrev pub stream_of : Result (List (List ℕ)) AvcFail → Result (List ℕ) AvcFail
stream_of (Ok units) = Ok (annexb (but_delimiters units))
stream_of (Err e) = Err e

-- the byte stream of the units with lengths of so many bytes, but for delimiters
abbrev pub kept_of : ℕ → List ℕ → Result (List ℕ) AvcFail
kept_of size b = stream_of (nals_of size b)

-- a text behind what stands there
abbrev pub behind : List ℕ → Result (List ℕ) AvcFail → Result (List ℕ) AvcFail
behind out (Ok text) = Ok (out ++ text)
behind out (Err e) = Err e
