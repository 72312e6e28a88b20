-- Only proofs and private functions use it.
-- What the parts of the command do
use Rattle.std.specs.Prelude.{◌≡◌, ◌⊎◌, ◌≤◌, ℕ, Bool, List, [], ◌∷◌, ◌++◌, length, reverse, Option, None, option_map, if◌then◌else◌}
use Rattle.std.specs.declared.result.Result.{Result}
use Rattle.std.specs.declared.result.Result.TheVariants.{Ok, Err}
use Rattle.std.specs.Io.KnownBytes.{IsAtEnd}
use Rattle.relay_base.specs.declared.limits.Status.{Status}
use Rattle.relay_outside.specs.Counts.{Rose}
use Rattle.flv_tags.specs.declared.tag.Tag.{Tag}
use Rattle.flv_tags.specs.declared.fail.FlvFail.{FlvFail}
use Rattle.flv_tags.specs.declared.fail.FlvFail.TheVariants as flv
use Rattle.flv_tags.specs.Known.{Known as TagsKnown}
use Rattle.flv_tags.specs.Feeds.{Stands as TagsStand}
use Rattle.flv_tags.specs.Reads.{IsFile, Reads}
use Rattle.flv_tags.specs.Stops.{Ends as TagsEnd, Stops as TagsStop}
use Rattle.av_unit.specs.declared.item.Item.{Item}
use Rattle.file_commands.specs.Outcome.{most_bytes}
use Rattle.file_commands.specs.Remux.{items_of, offset_of}
use Rattle.file_series.specs.Series.{Cause, Series}
use Rattle.file_series.specs.declared.series.SeriesFail.{SeriesFail}
use Rattle.file_series.specs.declared.series.SeriesFail.TheVariants.{Failed, OutOfMemory}
use Rattle.live_segments.specs.Known.{Known}
use Rattle.live_segments.specs.Live.{some_lost}
use Rattle.hls_command.specs.declared.stop.End.{End}
use Rattle.hls_command.specs.declared.stop.End.TheVariants.{Whole, Refused, SourceFault}
use Rattle.hls_command.specs.declared.stop.Stop.{Stop}
use Rattle.hls_command.specs.declared.stop.Stop.TheVariants.{Ended, Broken}
use Rattle.hls_command.specs.Words.{Asked}
use Rattle.hls_command.specs.Films.{IsCutOff, IsFirst, IsStopped, IsTooLong, WasRead}
use Rattle.hls_command.specs.Outcome.{Seen, WritesAll, past_of}
use Rattle.hls_command.specs.Written.{WritesPart, finished, written}

abbrev pub stop_of_tags : FlvFail → Stop
stop_of_tags (flv.BadHeader at) = Ended (Refused at)
stop_of_tags (flv.BadTag at) = Ended (Refused at)
stop_of_tags (flv.BadBack at stored real) = Ended (Refused at)
stop_of_tags flv.OutOfMemory = Broken OutOfMemory

abbrev pub ended : Result (Unit {0}) Stop → Result End SeriesFail
ended (Ok x) = Ok Whole
ended (Err (Ended end)) = Ok end
ended (Err (Broken fault)) = Err fault

-- what a segmenter writes under a name
abbrev pub asked_by : List ℕ → Known → Asked
asked_by name k = record { name = name; target = k.target; keep = k.keep }

-- a film that is read and cut
pub record Fits (r : TagsKnown) (k : Known) : Type 0 where
  pub lives : r.failed ≡ None
  pub stands : TagsStand r
  pub past_is : k.past ≡ past_of r.given
  pub cuts : k.failed ≡ None

-- what is seen of a series
pub record SeriesSeen : Type 0 where
  pub told : Option Series
  pub faults : ℕ

abbrev pub series_seen : Option Series → ℕ → SeriesSeen
series_seen told faults = record { told = told; faults = faults }

-- WHAT ITEMS WRITE STANDS in the series
abbrev pub Stands : List ℕ → Known → SeriesSeen → SeriesSeen → Type 0
Stands name k start now = (now.told ≡ option_map (written (asked_by name k) k.past) start.told) × (now.faults ≡ start.faults)

-- A PART OF IT STANDS, and why no more
abbrev pub Breaks : List ℕ → Known → SeriesSeen → SeriesSeen → SeriesFail → Type 0
Breaks name k start now fail = WritesPart (asked_by name k) k.past start.told now.told × Cause fail start.faults now.faults

-- all of it, and the last file has ended with the last listing
abbrev pub Finishes : List ℕ → Known → SeriesSeen → SeriesSeen → Type 0
Finishes name k start now = (now.told ≡ option_map (finished (asked_by name k) k.past) start.told) × (now.faults ≡ start.faults)

-- WHY NO MORE IS CUT: the reading ends in one of these ways, and all stands; or it can't be written, and a part stands
abbrev pub Stops : (End → Type 0) → Type 0 → Type 0 → (SeriesFail → Type 0) → Stop → Type 0
Stops Ends Read All Part (Ended end) = Ends end × All
Stops Ends Read All Part (Broken fail) = Read × Part fail

-- ---- an item, and a tag

abbrev pub ItemBreaks : Known → Known → Item → Type 0
ItemBreaks k k' item = (k'.past ≡ item ∷ k.past) ⊎ (k'.past ≡ k.past)

abbrev pub TagBreaks : Known → Known → Tag → Type 0
TagBreaks k k' t = (k'.past ≡ reverse (items_of t) ++ k.past) ⊎ (k'.past ≡ k.past)

-- ---- a piece

-- some first bytes read as tags with these items
pub record IsReadSo (read : List ℕ) (past : List Item) : Type 0 where
  pub tags : List Tag
  pub past_is : past ≡ past_of tags
  pub first : IsFirst read tags

-- and the reading ends so
pub record IsEndedBy (Ends : End → List ℕ → List Tag → Type 0) (read : List ℕ) (past : List Item) (end : End) : Type 0 where
  pub tags : List Tag
  pub past_is : past ≡ past_of tags
  pub first : IsFirst read tags
  pub ends : Ends end read tags

-- bytes are refused
pub record IsRefusedHere (read : List ℕ) (at : ℕ) (tags : List Tag) : Type 0 where
  pub count : ℕ
  pub cause : FlvFail
  pub stops : TagsStop read count tags cause
  pub place : at ≡ offset_of cause

abbrev pub StepEnds : End → List ℕ → List Tag → Type 0
StepEnds Whole read tags = ⊥
StepEnds (Refused at) read tags = IsRefusedHere read at tags
StepEnds SourceFault read tags = ⊥

-- the same where the bytes may be too many
abbrev pub TakeEnds : End → List ℕ → List Tag → Type 0
TakeEnds Whole all tags = ⊥
TakeEnds (Refused at) all tags = IsStopped all at tags ⊎ IsTooLong all at tags
TakeEnds SourceFault all tags = ⊥

-- ---- a whole film

-- whether bytes may end there
abbrev pub FileEnds : Result (Unit {0}) Stop → List ℕ → List Tag → Type 0
FileEnds (Ok x) fed tags = IsFile fed tags
FileEnds (Err (Ended Whole)) fed tags = ⊥
FileEnds (Err (Ended (Refused at))) fed tags = (cause : FlvFail) × TagsEnd fed tags cause × (at ≡ offset_of cause)
FileEnds (Err (Ended SourceFault)) fed tags = ⊥
FileEnds (Err (Broken Failed)) fed tags = ⊥
FileEnds (Err (Broken OutOfMemory)) fed tags = Unit {0}

-- HOW THE READING ENDS, where so much is left
abbrev pub FilmEnds : Option (List ℕ) → End → List ℕ → List Tag → Type 0
FilmEnds left Whole read tags = (length read ≤ most_bytes) × IsAtEnd left × IsFile read tags
FilmEnds left (Refused at) read tags = (IsStopped read at tags ⊎ IsTooLong read at tags) ⊎ (IsAtEnd left × IsCutOff read at tags)
FilmEnds left SourceFault read tags = (rest : List ℕ) × Reads read tags rest

-- the source's faults
abbrev pub EndSource : End → ℕ → ℕ → Type 0
EndSource Whole before now = now ≡ before
EndSource (Refused at) before now = now ≡ before
EndSource SourceFault before now = Rose before now

-- what is left of the source before and now, and its faults
pub record IsEndedSo (left left' : Option (List ℕ)) (faults faults' : ℕ) (past : List Item) (end : End) : Type 0 where
  pub read : List ℕ
  pub was_read : WasRead read left left'
  pub so : IsEndedBy (FilmEnds left') read past end
  pub source : EndSource end faults faults'

-- of the bytes that were read, some first read as tags with these items
pub record IsPartRead (left left' : Option (List ℕ)) (past : List Item) : Type 0 where
  pub read : List ℕ
  pub was_read : WasRead read left left'
  pub part : IsReadSo read past

-- 8 where something was left out
abbrev pub status_of : End → Bool → Status
status_of Whole some_out = record { code = if some_out then 8 else 0; place = 0 }
status_of (Refused at) some_out = record { code = 4; place = at }
status_of SourceFault some_out = record { code = 3; place = 0 }

abbrev pub fail_status : SeriesFail → Status
fail_status Failed = record { code = 5; place = 0 }
fail_status OutOfMemory = record { code = 6; place = 0 }

-- ---- how a film is cut

-- to where its reading ends
pub record IsCutTo (a : Asked) (end : End) (some_out : Bool) (old new : Seen) : Type 0 where
  pub read : List ℕ
  pub was_read : WasRead read old.left new.left
  pub tags : List Tag
  pub ends : FilmEnds new.left end read tags
  pub out_is : some_lost a.target (past_of tags) ≡ some_out
  pub writes : WritesAll a tags old new
  pub source : EndSource end old.source_faults new.source_faults
  pub series : new.series_faults ≡ old.series_faults

abbrev pub IsCut : Asked → Status → Seen → Seen → Type 0
IsCut a status old new = (end : End) × (some_out : Bool) × (status ≡ status_of end some_out) × IsCutTo a end some_out old new

-- not so far
pub record IsPartCut (a : Asked) (fail : SeriesFail) (old new : Seen) : Type 0 where
  pub read : List ℕ
  pub was_read : WasRead read old.left new.left
  pub tags : List Tag
  pub first : IsFirst read tags
  pub writes : WritesPart a (past_of tags) old.told new.told
  pub cause : Cause fail old.series_faults new.series_faults
