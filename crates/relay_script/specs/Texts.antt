-- The reply lines.
use Rattle.std.specs.Prelude.{ℕ, List, ◌++◌, length, codes, None, Some}
use Rattle.std.specs.declared.option.Option.{Option}
use Rattle.std.specs.Fmt.{decimal}
use Rattle.av_unit.specs.declared.unit.Kind.{Kind}
use Rattle.av_unit.specs.declared.unit.Kind.TheVariants.{Meta, VConfig, AConfig, Key, Inter, Spare, Audio, Data}
use Rattle.av_unit.specs.declared.item.Item.{Item}
use Rattle.av_unit.specs.declared.item.Item.TheVariants as item
use Rattle.stream_model.specs.declared.replies.Reply.{Reply}
use Rattle.stream_model.specs.declared.replies.Reply.TheVariants.{Began, InUse, Pushed, NotPublisher, Ended, Joined, Full, NotPlayer, Sent, Skip, NotYet}
use Rattle.stream_model.specs.declared.replies.Reply.TheVariants.{Left, Counts, NoSlot}

-- LIVE: `-` where nobody publishes
abbrev pub live_text : Option ℕ → List ℕ
live_text None = codes "-"
live_text (Some by) = decimal by

-- KIND
abbrev pub kind_text : Kind → List ℕ
kind_text Meta = codes "meta"
kind_text VConfig = codes "vconfig"
kind_text AConfig = codes "aconfig"
kind_text Key = codes "key"
kind_text Inter = codes "inter"
kind_text Spare = codes "spare"
kind_text Audio = codes "audio"
kind_text Data = codes "data"

-- KIND TIME LEN
abbrev pub unit_text : Kind → ℕ → ℕ → List ℕ
unit_text kind time len = kind_text kind ++ codes " " ++ decimal time ++ codes " " ++ decimal len

-- `begin`, `end`, or KIND TIME LEN
abbrev pub item_text : Item → List ℕ
item_text item.Begin = codes "begin"
item_text item.End = codes "end"
item_text (item.Unit u) = unit_text u.kind u.time (length u.body)

-- the line of what is held, with its LF
abbrev pub held_text : ℕ → List ℕ
held_text bytes = codes "held " ++ decimal bytes ++ codes "\n"

-- the line of a reply, with its LF
abbrev pub line_of : Reply → List ℕ
line_of (Began n) = codes "began " ++ decimal n ++ codes "\n"
line_of (InUse by) = codes "inuse " ++ decimal by ++ codes "\n"
line_of (Pushed n) = codes "pushed " ++ decimal n ++ codes "\n"
line_of (NotPublisher live) = codes "notpublisher " ++ live_text live ++ codes "\n"
line_of (Ended n) = codes "ended " ++ decimal n ++ codes "\n"
line_of (Joined player from) = codes "joined " ++ decimal player ++ codes " " ++ decimal from ++ codes "\n"
line_of Full = codes "full\n"
line_of NotPlayer = codes "notplayer\n"
line_of (Sent from n x) = codes "item " ++ decimal from ++ codes " " ++ decimal n ++ codes " " ++ item_text x ++ codes "\n"
line_of (Skip from to) = codes "skip " ++ decimal from ++ codes " " ++ decimal to ++ codes "\n"
line_of (NotYet end) = codes "notyet " ++ decimal end ++ codes "\n"
line_of (Left player) = codes "left " ++ decimal player ++ codes "\n"
line_of (Counts began pushed ended joined skips) =
    codes "counts " ++ decimal began ++ codes " " ++ decimal pushed ++ codes " " ++ decimal ended ++ codes " " ++ decimal joined ++ codes " " ++ decimal
    skips ++ codes "\n"
line_of (NoSlot slots) = codes "noslot " ++ decimal slots ++ codes "\n"
