-- What a unit that is written does to live segments, by plain facts of it. Times are milliseconds modulo 2^32.
use Rattle.std.specs.Prelude.{ℕ, ◌+◌, ◌/◌, ◌^◌, Bool, true, false, ◌&&◌, ◌||◌, not, nat_lt, if◌then◌else◌, max, Option, Some, None}
use Rattle.av_unit.specs.declared.unit.Kind.{Kind}
use Rattle.av_unit.specs.declared.unit.Kind.TheVariants.{Meta, VConfig, AConfig, Key, Inter, Spare, Audio, Data}
use Rattle.hls_segments.specs.Cuts.{is_long, since}
use Rattle.hls_segments.specs.Playlist.{rounded}
use Rattle.live_segments.specs.declared.cutter.Way.{Way}
use Rattle.live_segments.specs.declared.cutter.Way.TheVariants.{Break, Hold, Split, Join}

-- A STEP BACK: a later time that is 2^31 or more behind, modulo 2^32
abbrev pub is_back : ℕ → ℕ → Bool
is_back earlier later = not (nat_lt (since earlier later) (2 ^ 31))

-- from the last unit of its own track, if there is one
abbrev pub goes_back : Option ℕ → ℕ → Bool
goes_back None time = false
goes_back (Some earlier) time = is_back earlier time

-- audio is one track, and all else that is written the other
abbrev pub is_sound : Kind → Bool
is_sound Audio = true
is_sound Meta = false
is_sound VConfig = false
is_sound AConfig = false
is_sound Key = false
is_sound Inter = false
is_sound Spare = false
is_sound Data = false

-- the target in whole seconds, rounded up, and at least 1
abbrev pub seconds_of : ℕ → ℕ
seconds_of target = max 1 ((target + 999) / 1000)

-- A SEGMENT IS LONG ENOUGH: it spans the target, or with one more interval like its last one it would span more whole seconds
-- than the target has
abbrev pub is_due : ℕ → ℕ → ℕ → Bool
is_due target long interval =
    is_long target long || (nat_lt long (2 ^ 31) && (nat_lt interval (2 ^ 31) && nat_lt (seconds_of target) (rounded (long + interval))))

-- at that time, if one is open: by the times of its first unit and of the last one at which a segment may begin
abbrev pub long_by : ℕ → ℕ → Option (ℕ × ℕ) → Bool
long_by target time None = false
long_by target time (Some t) = is_due target (since t.0 time) (since t.1 time)

-- WHAT A UNIT DOES: after a break, or at a step back, one that may begin a segment begins a marked one, and any other isn't
-- written; else one that may begins the next if the open one is long enough, and any other goes on
abbrev pub way_of : Bool → Bool → Bool → Way
way_of broken may long = if broken then (if may then Break else Hold) else (if may && long then Split else Join)
