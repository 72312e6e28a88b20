-- Only proofs and private functions use it.
-- What the parts of the command do
use Rattle.std.specs.Prelude.{◌≡◌, ◌⊎◌, ◌≤◌, ℕ, Bool, true, List, [], ◌∷◌, ◌++◌, length, reverse, Option, None, if◌then◌else◌}
use Rattle.std.specs.declared.result.Result.{Result}
use Rattle.std.specs.declared.result.Result.TheVariants.{Ok, Err}
use Rattle.std.specs.Io.KnownBytes.{IsAtEnd}
use Rattle.relay_base.specs.declared.limits.Status.{Status}
use Rattle.relay_outside.specs.Counts.{Rose}
use Rattle.relay_outside.specs.Houses.{HouseTold}
use Rattle.flv_tags.specs.declared.tag.Tag.{Tag}
use Rattle.flv_tags.specs.declared.fail.FlvFail.{FlvFail}
use Rattle.flv_tags.specs.declared.fail.FlvFail.TheVariants as flv
use Rattle.flv_tags.specs.Known.{Known as TagsKnown}
use Rattle.flv_tags.specs.Feeds.{Stands as TagsStand}
use Rattle.flv_tags.specs.Reads.{IsFile, Reads}
use Rattle.flv_tags.specs.Stops.{Ends as TagsEnd, Stops as TagsStop}
use Rattle.av_unit.specs.declared.item.Item.{Item}
use Rattle.file_commands.specs.Outcome.{Seen, most_bytes}
use Rattle.file_commands.specs.Remux.{items_of, offset_of}
use Rattle.hls_segments.specs.declared.cut.CutFail.{CutFail}
use Rattle.hls_segments.specs.declared.cut.CutFail.TheVariants as cutting
use Rattle.hls_segments.specs.Cuts.{is_too_many, most_segments, segments, some_left_out}
use Rattle.hls_segments.specs.Known.{Known}
use Rattle.segment_command.specs.declared.stop.Fault.{Fault}
use Rattle.segment_command.specs.declared.stop.Fault.TheVariants.{Sink, House, Memory}
use Rattle.segment_command.specs.declared.stop.End.{End}
use Rattle.segment_command.specs.declared.stop.End.TheVariants.{Whole, Refused, TooMany, SourceFault}
use Rattle.segment_command.specs.declared.stop.Stop.{Stop}
use Rattle.segment_command.specs.declared.stop.Stop.TheVariants.{Ended, Broken}
use Rattle.segment_command.specs.declared.shelf.Pending.{Pending}
use Rattle.segment_command.specs.Words.{Asked}
use Rattle.segment_command.specs.Files.{texts}
use Rattle.segment_command.specs.Shelves.{Breaks, FileSeen, IsSameHouse, StandsBy}
use Rattle.segment_command.specs.Outcome.{IsTooMany, WritesAll, WritesFirst, past_of}
use Rattle.segment_command.specs.Films.{IsCutOff, IsFirst, IsStopped, IsTooLong, WasRead}

abbrev pub stop_of_cut : CutFail → Stop
stop_of_cut cutting.TooMany = Ended TooMany
stop_of_cut cutting.OutOfMemory = Broken Memory

abbrev pub stop_of_tags : FlvFail → Stop
stop_of_tags (flv.BadHeader at) = Ended (Refused at)
stop_of_tags (flv.BadTag at) = Ended (Refused at)
stop_of_tags (flv.BadBack at stored real) = Ended (Refused at)
stop_of_tags flv.OutOfMemory = Broken Memory

abbrev pub ended : Result (Unit {0}) Stop → Result End Fault
ended (Ok x) = Ok Whole
ended (Err (Ended end)) = Ok end
ended (Err (Broken fault)) = Err fault

-- the bytes of the segments of items
abbrev pub list_of : Known → List (List ℕ)
list_of k = texts (segments k.least k.past)

-- a segmenter that goes on
pub record GoesOn (k : Known) : Type 0 where
  pub lives : k.failed ≡ None
  pub few : length (list_of k) ≤ most_segments

-- a film that is read and cut
pub record Fits (r : TagsKnown) (k : Known) : Type 0 where
  pub lives : r.failed ≡ None
  pub stands : TagsStand r
  pub past_is : k.past ≡ past_of r.given
  pub cuts : GoesOn k

-- WHY NO MORE IS CUT: the reading ends in one of these ways, and all segments stand; or they can't be
-- written, and a part stands
abbrev pub Stops : (End → Type 0) → Type 0 → Stop → List ℕ → Known → Pending → Option FileSeen → HouseTold → HouseTold → Type 0
Stops Ends Read (Ended end) name k p f old new = Ends end × StandsBy name (list_of k) p f old new
Stops Ends Read (Broken fault) name k p f old new = Read × Breaks fault name (list_of k) p.title f old new

-- ---- an item, and a tag

-- it would begin a segment too many
abbrev pub ItemEnds : Known → Known → Item → End → Type 0
ItemEnds k k' item Whole = ⊥
ItemEnds k k' item (Refused at) = ⊥
ItemEnds k k' item TooMany = (is_too_many k.least k.past item ≡ true) × (k'.past ≡ k.past)
ItemEnds k k' item SourceFault = ⊥

abbrev pub ItemBreaks : Known → Known → Item → Type 0
ItemBreaks k k' item = (k'.past ≡ item ∷ k.past) ⊎ (k'.past ≡ k.past)

abbrev pub TagEnds : Known → Known → Tag → End → Type 0
TagEnds k k' t Whole = ⊥
TagEnds k k' t (Refused at) = ⊥
TagEnds k k' t TooMany = (unit : Item) × (items_of t ≡ unit ∷ []) × (is_too_many k.least k.past unit ≡ true) × (k'.past ≡ k.past)
TagEnds k k' t SourceFault = ⊥

abbrev pub TagBreaks : Known → Known → Tag → Type 0
TagBreaks k k' t = (k'.past ≡ reverse (items_of t) ++ k.past) ⊎ (k'.past ≡ k.past)

-- ---- a piece

-- some first bytes read as tags with these items
pub record IsReadSo (read : List ℕ) (past : List Item) : Type 0 where
  pub tags : List Tag
  pub past_is : past ≡ past_of tags
  pub first : IsFirst read tags

-- and the reading ends so
pub record IsEndedBy (Ends : End → List ℕ → List Tag → Type 0) (read : List ℕ) (past : List Item) (end : End) : Type 0 where
  pub tags : List Tag
  pub past_is : past ≡ past_of tags
  pub first : IsFirst read tags
  pub ends : Ends end read tags

-- bytes are refused
pub record IsRefusedHere (read : List ℕ) (at : ℕ) (tags : List Tag) : Type 0 where
  pub count : ℕ
  pub cause : FlvFail
  pub stops : TagsStop read count tags cause
  pub place : at ≡ offset_of cause

abbrev pub StepEnds : ℕ → End → List ℕ → List Tag → Type 0
StepEnds least Whole read tags = ⊥
StepEnds least (Refused at) read tags = IsRefusedHere read at tags
StepEnds least TooMany read tags = IsTooMany least read tags
StepEnds least SourceFault read tags = ⊥

-- the same where the bytes may be too many
abbrev pub TakeEnds : ℕ → End → List ℕ → List Tag → Type 0
TakeEnds least Whole all tags = ⊥
TakeEnds least (Refused at) all tags = IsStopped all at tags ⊎ IsTooLong all at tags
TakeEnds least TooMany all tags = IsTooMany least all tags
TakeEnds least SourceFault all tags = ⊥

-- ---- a whole film

-- whether bytes may end there
abbrev pub FileEnds : Result (Unit {0}) Stop → List ℕ → List Tag → Type 0
FileEnds (Ok x) fed tags = IsFile fed tags
FileEnds (Err (Ended Whole)) fed tags = ⊥
FileEnds (Err (Ended (Refused at))) fed tags = (cause : FlvFail) × TagsEnd fed tags cause × (at ≡ offset_of cause)
FileEnds (Err (Ended TooMany)) fed tags = ⊥
FileEnds (Err (Ended SourceFault)) fed tags = ⊥
FileEnds (Err (Broken Sink)) fed tags = ⊥
FileEnds (Err (Broken House)) fed tags = ⊥
FileEnds (Err (Broken Memory)) fed tags = Unit {0}

-- HOW THE READING ENDS, where so much is left
abbrev pub FilmEnds : ℕ → Option (List ℕ) → End → List ℕ → List Tag → Type 0
FilmEnds least left Whole read tags = (length read ≤ most_bytes) × IsAtEnd left × IsFile read tags
FilmEnds least left (Refused at) read tags = (IsStopped read at tags ⊎ IsTooLong read at tags) ⊎ (IsAtEnd left × IsCutOff read at tags)
FilmEnds least left TooMany read tags = IsTooMany least read tags
FilmEnds least left SourceFault read tags = (rest : List ℕ) × Reads read tags rest

-- the source's faults
abbrev pub EndSource : End → ℕ → ℕ → Type 0
EndSource Whole before now = now ≡ before
EndSource (Refused at) before now = now ≡ before
EndSource TooMany before now = now ≡ before
EndSource SourceFault before now = Rose before now

-- what is left of the source before and now, and its faults
pub record IsEndedSo (least : ℕ) (left left' : Option (List ℕ)) (faults faults' : ℕ) (past : List Item) (end : End) : Type 0 where
  pub read : List ℕ
  pub was_read : WasRead read left left'
  pub so : IsEndedBy (FilmEnds least left') read past end
  pub source : EndSource end faults faults'

-- of the bytes that were read, some first read as tags with these items
pub record IsPartRead (left left' : Option (List ℕ)) (past : List Item) : Type 0 where
  pub read : List ℕ
  pub was_read : WasRead read left left'
  pub part : IsReadSo read past

-- the source's faults, where the last file couldn't be ended
abbrev pub CutSource : Fault → ℕ → ℕ → Type 0
CutSource Sink before now = Unit {0}
CutSource House before now = now ≡ before
CutSource Memory before now = Unit {0}

-- 8 where something was left out
abbrev pub status_of : End → Bool → Status
status_of Whole some_out = record { code = if some_out then 8 else 0; place = 0 }
status_of (Refused at) some_out = record { code = 4; place = at }
status_of TooMany some_out = record { code = 9; place = 0 }
status_of SourceFault some_out = record { code = 3; place = 0 }

abbrev pub fault_status : Fault → Status
fault_status Sink = record { code = 5; place = 0 }
fault_status House = record { code = 7; place = 0 }
fault_status Memory = record { code = 6; place = 0 }

-- ---- how a film is cut

-- to where its reading ends
pub record IsCutTo (a : Asked) (end : End) (some_out : Bool) (old new : Seen) (house house' : HouseTold) : Type 0 where
  pub read : List ℕ
  pub was_read : WasRead read old.left new.left
  pub tags : List Tag
  pub ends : FilmEnds a.least new.left end read tags
  pub out_is : some_left_out (past_of tags) ≡ some_out
  pub writes : WritesAll a tags old new house house'
  pub source : EndSource end old.source_faults new.source_faults
  pub sink : new.sink_faults ≡ old.sink_faults
  pub same : IsSameHouse house house'

abbrev pub IsCut : Asked → Status → Seen → Seen → HouseTold → HouseTold → Type 0
IsCut a status old new house house' = (end : End) × (some_out : Bool) × (status ≡ status_of end some_out) × IsCutTo a end some_out old new house house'

-- what the faults say
abbrev pub PartCause : Fault → Seen → Seen → HouseTold → HouseTold → Type 0
PartCause Sink old new house house' =
    ((Rose old.sink_faults new.sink_faults × (house'.spoiled ≡ house.spoiled)) ⊎ (Rose house.spoiled house'.spoiled × (new.sink_faults ≡ old.sink_faults)))
    × (house'.faults ≡ house.faults)
PartCause House old new house house' =
    Rose house.faults house'.faults × (house'.spoiled ≡ house.spoiled) × (new.sink_faults ≡ old.sink_faults)
    × (new.source_faults ≡ old.source_faults) × (new.held ≡ old.held)
PartCause Memory old new house house' = IsSameHouse house house' × (new.sink_faults ≡ old.sink_faults)

-- not so far
pub record IsPartCut (a : Asked) (fault : Fault) (old new : Seen) (house house' : HouseTold) : Type 0 where
  pub read : List ℕ
  pub was_read : WasRead read old.left new.left
  pub tags : List Tag
  pub first : IsFirst read tags
  pub writes : WritesFirst a tags old new house house'
  pub cause : PartCause fault old new house house'
