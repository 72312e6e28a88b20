-- The sliding playlist (RFC 8216). Rows have the newest first, unless said.
use Rattle.std.specs.Prelude.{ℕ, ◌+◌, Bool, true, false, if◌then◌else◌, max, List, [], ◌∷◌, ◌++◌, codes, reverse, length, take, drop}
use Rattle.std.specs.Fmt.{decimal}
use Rattle.hls_segments.specs.Playlist.{entry, rounded}
use Rattle.live_segments.specs.declared.cutter.Row.{Row}
use Rattle.live_segments.specs.Ways.{seconds_of}
use Rattle.live_segments.specs.Live.{Segment, ended_rows, open_row}

-- the greatest of the target in whole seconds and of the spans, rounded
abbrev pub longest : ℕ → List Row → ℕ
longest target [] = seconds_of target
longest target (r ∷ earlier) = max (longest target earlier) (rounded r.span)

-- the number of marked ones
abbrev pub marks : List Row → ℕ
marks [] = 0
marks (r ∷ earlier) = marks earlier + (if r.marked then 1 else 0)

abbrev pub mark_line : Bool → List ℕ
mark_line marked = if marked then codes "#EXT-X-DISCONTINUITY\n" else []

-- the lines of rows, the oldest first here
abbrev pub lines : List ℕ → ℕ → List Row → List ℕ
lines name n [] = []
lines name n (r ∷ more) = (mark_line r.marked ++ entry name n r.span) ++ lines name (n + 1) more

abbrev pub head : ℕ → ℕ → ℕ → List ℕ
head most first gone =
    codes "#EXTM3U\n#EXT-X-VERSION:3\n#EXT-X-TARGETDURATION:"
    ++ (decimal most ++ (codes "\n#EXT-X-MEDIA-SEQUENCE:" ++ (decimal first
    ++ (codes "\n#EXT-X-DISCONTINUITY-SEQUENCE:" ++ (decimal gone ++ codes "\n")))))

abbrev pub last_line : Bool → List ℕ
last_line ended = if ended then codes "#EXT-X-ENDLIST\n" else []

-- the text of rows, the oldest first here, by the number of rows before them, and of marked rows before them
abbrev pub text_of : List ℕ → ℕ → ℕ → ℕ → List Row → Bool → List ℕ
text_of name most first gone rows ended = head most first gone ++ (lines name first rows ++ last_line ended)

-- what is listed of those that have ended: the last ones, up to the number that is kept
abbrev pub shown : ℕ → List Row → List Row
shown keep rows = reverse (take keep rows)

abbrev pub live_text : List ℕ → ℕ → ℕ → List Row → List ℕ
live_text name target keep rows =
    text_of name (longest target rows) (length (drop keep rows)) (marks (drop keep rows)) (shown keep rows) false

-- the open one too, once it ends
abbrev pub all_rows : List Segment → List Row
all_rows segments = open_row segments ++ ended_rows segments

-- and at the end one more: the segment that was open
abbrev pub last_text : List ℕ → ℕ → ℕ → List Segment → List ℕ
last_text name target keep segments =
    text_of name (longest target (all_rows segments)) (length (drop keep (ended_rows segments))) (marks (drop keep (ended_rows segments)))
    (shown keep (ended_rows segments) ++ open_row segments) true

-- THE PLAYLIST of segments: while they go on those that have ended, and at the end all
abbrev pub playlist : List ℕ → ℕ → ℕ → List Segment → Bool → List ℕ
playlist name target keep segments false = live_text name target keep (ended_rows segments)
playlist name target keep segments true = last_text name target keep segments
