-- The playlist of segments (RFC 8216). Spans are in milliseconds, the oldest first here.
use Rattle.std.specs.Prelude.{ℕ, ◌+◌, ◌/◌, ◌%◌, max, List, [], ◌∷◌, ◌++◌, codes, reverse}
use Rattle.std.specs.Fmt.{decimal}
use Rattle.hls_segments.specs.Cuts.{Segment, spans}

-- THE NAME of the file of a segment: NAME-0.ts, NAME-1.ts and so on
abbrev pub file_name : List ℕ → ℕ → List ℕ
file_name name n = name ++ (codes "-" ++ (decimal n ++ codes ".ts"))

-- a span in whole seconds, rounded (4.3.3.1)
abbrev pub rounded : ℕ → ℕ
rounded span = (span + 500) / 1000

-- the greatest of the spans so rounded, or 1
abbrev pub target : List ℕ → ℕ
target [] = 1
target (span ∷ more) = max (rounded span) (target more)

-- seconds with three digits behind the point (4.3.2.1)
abbrev pub seconds : ℕ → List ℕ
seconds span =
    decimal (span / 1000)
    ++ (codes "." ++ (decimal (span / 100 % 10) ++ (decimal (span / 10 % 10) ++ decimal (span % 10))))

-- a segment's lines
abbrev pub entry : List ℕ → ℕ → ℕ → List ℕ
entry name n span = codes "#EXTINF:" ++ (seconds span ++ (codes ",\n" ++ (file_name name n ++ codes "\n")))

abbrev pub entries : List ℕ → ℕ → List ℕ → List ℕ
entries name n [] = []
entries name n (span ∷ more) = entry name n span ++ entries name (n + 1) more

abbrev pub head : ℕ → List ℕ
head longest =
    codes "#EXTM3U\n#EXT-X-VERSION:3\n#EXT-X-TARGETDURATION:" ++ (decimal longest ++ codes "\n#EXT-X-MEDIA-SEQUENCE:0\n")

abbrev pub text_of : List ℕ → List ℕ → List ℕ
text_of name list = head (target list) ++ (entries name 0 list ++ codes "#EXT-X-ENDLIST\n")

-- THE PLAYLIST of segments, of which the newest stands first
abbrev pub playlist : List ℕ → List Segment → List ℕ
playlist name segments = text_of name (reverse (spans segments))
